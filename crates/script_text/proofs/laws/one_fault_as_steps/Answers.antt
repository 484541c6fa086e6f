use Rattle.script_text.specs.inside.StepReading.{step_lexicon}
use Rattle.script_text.proofs.StepLineLemmas.{steps_are_right}
use Rattle.script_text.proofs.ScriptLemmas.{one_line, line_or_pool}
use Rattle.script_text.proofs.laws.one_fault_as_steps.Goals as goal

pub returns-clause-line : goal.returns-clause-line
returns-clause-line c = one_line step_lexicon steps_are_right

pub returns-clause-pool : goal.returns-clause-pool
returns-clause-pool c = line_or_pool step_lexicon steps_are_right
