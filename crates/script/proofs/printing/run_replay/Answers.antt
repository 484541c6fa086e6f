use Rattle.std.proofs.Common.{List, ◌∙◌, ap}
use Rattle.script_text.specs.declared.lines.Pools.{Pools}
use Rattle.script_text.specs.Commands.{Line}
use Rattle.script.specs.Printed.{printed_for}
use Rattle.script.proofs.Outcomes.{either_outcome}
use Rattle.script.proofs.printing.run_replay.Goals as goal

-- where the bytes are a script, it is the one that was read, so the same is printed
pub returns-in-Ok-clause-only : goal.returns-in-Ok-clause-only
returns-in-Ok-clause-only c = λ pools lines is.
    let same = c.in-Ok.ensures.only pools lines is in
    either_outcome (λ v. v.items) c.printed.result (printed_for c.in-Ok.script.pools c.in-Ok.script.lines) (printed_for pools lines)
    (ap (λ (l : Pools). printed_for l c.in-Ok.script.lines) same.0 ∙ ap (λ (ls : List Line). printed_for pools ls) same.1)
    c.printed.ensures.text c.printed.ensures.memory
