use Rattle.script_text.specs.inside.CommandReading.{command_lexicon}
use Rattle.script_text.proofs.CommandLemmas.{commands_are_right}
use Rattle.script_text.proofs.ScriptLemmas.{line_or_script, pool_or_script}
use Rattle.script_text.proofs.laws.no_faulty_script.Goals as goal

pub returns-clause-line : goal.returns-clause-line
returns-clause-line c = line_or_script command_lexicon commands_are_right

pub returns-clause-pool : goal.returns-clause-pool
returns-clause-pool c = pool_or_script command_lexicon commands_are_right
