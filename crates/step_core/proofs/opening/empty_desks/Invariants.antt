use Rattle.std.proofs.Common.{◌≡◌, replicate}
use Rattle.step_core.specs.World.{no_desk}
use Rattle.step_core.proofs.opening.empty_desks.Given as goal

abbrev pub invariant-loop : goal.invariant-loop
invariant-loop l = l.desks.items ≡ replicate l.counter no_desk
