use Rattle.std.proofs.Common.{◌≡◌, replicate}
use Rattle.step_core.specs.World.{empty_view, worker_part}
use Rattle.step_core.proofs.opening.empty_views.Given as goal

abbrev pub invariant-loop : goal.invariant-loop
invariant-loop l = l.views.items ≡ replicate l.counter (empty_view worker_part)
