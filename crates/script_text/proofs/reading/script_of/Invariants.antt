use Rattle.std.proofs.Common.{◌≡◌, ◌+◌, ◌≤◌, length}
use Rattle.script_text.specs.Scripts.{start}
use Rattle.script_text.specs.inside.ScriptReading.{read_from}
use Rattle.script_text.specs.inside.Agreement.{IsKept, state_of}
use Rattle.script_text.proofs.reading.script_of.Given as goal

-- reading what is left from what was told so far is reading the whole
abbrev pub invariant-loop-line : goal.invariant-loop-line
invariant-loop-line g l = record {
  positive : 1 ≤ l.number;
  counted : l.number + length l.rest ≤ length l.bytes + 1;
  kept : IsKept g.C.FromWords.lexicon l.reader;
  same : read_from g.C.FromWords.lexicon (state_of l.reader) l.number l.rest ≡ read_from g.C.FromWords.lexicon start 1 l.bytes;
}

abbrev pub decreases-loop-line : goal.decreases-loop-line
decreases-loop-line g l = length l.rest
