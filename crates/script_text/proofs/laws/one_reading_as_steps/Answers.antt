use Rattle.std.proofs.Common.{ap}
use Rattle.script_text.specs.declared.lines.Pools.{Pools}
use Rattle.script_text.specs.PoolLine.{one_pool}
use Rattle.script_text.specs.inside.StepReading.{step_lexicon}
use Rattle.script_text.proofs.StepLineLemmas.{steps_are_right}
use Rattle.script_text.proofs.ScriptLemmas.{one_script}
use Rattle.script_text.proofs.laws.one_reading_as_steps.Goals as goal

-- a script of steps is one of one pool, and a text is one script
pub returns : goal.returns
returns c = λ bytes limits other_limits lines other_lines h k.
    let same =
    one_script step_lexicon steps_are_right bytes (one_pool limits) (one_pool other_limits) lines other_lines h k in
    (ap (λ (p : Pools). p.first) same.0, same.1)
