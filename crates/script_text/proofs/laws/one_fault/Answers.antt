use Rattle.script_text.specs.inside.CommandReading.{command_lexicon}
use Rattle.script_text.proofs.CommandLemmas.{commands_are_right}
use Rattle.script_text.proofs.ScriptLemmas.{one_line, line_or_pool}
use Rattle.script_text.proofs.laws.one_fault.Goals as goal

pub returns-clause-line : goal.returns-clause-line
returns-clause-line c = one_line command_lexicon commands_are_right

pub returns-clause-pool : goal.returns-clause-pool
returns-clause-pool c = line_or_pool command_lexicon commands_are_right
