use Rattle.std.proofs.Common.{◌≡◌, length}
use Rattle.script_text.specs.inside.Reading.{words_of, settings_from, none_given}
use Rattle.script_text.proofs.pool_line.settings_of.Given as goal

abbrev pub invariant-loop-word : goal.invariant-loop-word
invariant-loop-word l = settings_from l.settings (words_of l.left) ≡ settings_from none_given (words_of l.rest)

abbrev pub decreases-loop-word : goal.decreases-loop-word
decreases-loop-word l = length l.left
