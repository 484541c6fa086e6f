use Rattle.std.proofs.Common.{refl, sym, subst}
use Rattle.step_core.specs.Kept.{IsWorld}
use Rattle.step_core.proofs.Keeping.{opening_keeps}
use Rattle.step_core.proofs.world.World.open.Goals as goal

-- the opening obeys all laws
pub invariant_of-result : goal.invariant_of-result
invariant_of-result c =
    subst IsWorld (sym c.in-Ok.ensures)
    (opening_keeps c.args.limits.now (c.in_ok-check.ensures.within.0 refl))
