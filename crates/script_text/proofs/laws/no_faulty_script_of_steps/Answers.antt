use Rattle.script_text.specs.PoolLine.{one_pool}
use Rattle.script_text.specs.inside.StepReading.{step_lexicon}
use Rattle.script_text.proofs.StepLineLemmas.{steps_are_right}
use Rattle.script_text.proofs.ScriptLemmas.{line_or_script, pool_or_script}
use Rattle.script_text.proofs.laws.no_faulty_script_of_steps.Goals as goal

-- a text that is a script of steps takes each of its lines, so it has no first faulty one
pub returns-clause-line : goal.returns-clause-line
returns-clause-line c = λ bytes number limits.
    line_or_script step_lexicon steps_are_right bytes number (one_pool limits)

-- a text that is a script of steps has pools that can be made, so it isn't refused as a bad pool
pub returns-clause-pool : goal.returns-clause-pool
returns-clause-pool c = λ bytes limits.
    pool_or_script step_lexicon steps_are_right bytes (one_pool limits)
