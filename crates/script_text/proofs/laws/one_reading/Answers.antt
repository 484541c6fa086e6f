use Rattle.script_text.specs.inside.CommandReading.{command_lexicon}
use Rattle.script_text.proofs.CommandLemmas.{commands_are_right}
use Rattle.script_text.proofs.ScriptLemmas.{one_script}
use Rattle.script_text.proofs.laws.one_reading.Goals as goal

pub returns : goal.returns
returns c = one_script command_lexicon commands_are_right
