use Rattle.std.proofs.Common.{List, IfOk, subst}
use Rattle.script_text.specs.declared.lines.Pools.{Pools}
use Rattle.script_text.specs.StepLine.{StepLine}
use Rattle.step_text.specs.Printed.{IsPrintedFor}
use Rattle.step_text.proofs.Outcomes.{both_outcomes}
use Rattle.step_text.proofs.playing.run_steps.Goals as goal

-- where the bytes are a script, it is the one that was read, so the same is printed
pub returns-in-Ok-clause-only : goal.returns-in-Ok-clause-only
returns-in-Ok-clause-only c = λ limits lines is.
    let same = c.in-Ok.ensures.only limits lines is in
    both_outcomes _ _ c.printed.result
    (subst (λ (ls : List StepLine). IfOk c.printed.result (λ out. IsPrintedFor limits ls out.items)) same.1
    (subst (λ (p : Pools). IfOk c.printed.result (λ out. IsPrintedFor p.first c.in-Ok.script.lines out.items)) same.0
    c.printed.ensures.text))
    c.printed.ensures.memory
