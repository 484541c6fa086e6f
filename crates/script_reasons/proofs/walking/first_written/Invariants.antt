use Rattle.std.proofs.Common.{◌≡◌, ◌+◌, ◌≤◌, length}
use Rattle.script_text.specs.inside.Reading.{parts}
use Rattle.script_reasons.specs.Walks.{first_from}
use Rattle.script_reasons.proofs.walking.first_written.Given as goal

-- what is left has the line that is sought, with its number
abbrev pub invariant-loop-line : goal.invariant-loop-line
invariant-loop-line l = record {
  counted : l.number + length l.rest ≤ length l.bytes + 1;
  same : first_from l.number (parts l.rest).lines ≡ first_from 1 (parts l.bytes).lines;
}

abbrev pub decreases-loop-line : goal.decreases-loop-line
decreases-loop-line l = length l.rest
