use Rattle.script_text.specs.inside.CommandReading.{command_lexicon}
use Rattle.script_text.proofs.CommandLemmas.{commands_are_right}
use Rattle.script_text.proofs.GapLemmas.{script_or_fault}
use Rattle.script_text.proofs.laws.no_gap.Goals as goal

pub returns : goal.returns
returns c = script_or_fault command_lexicon commands_are_right
