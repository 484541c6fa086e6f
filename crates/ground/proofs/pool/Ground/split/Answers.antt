use Rattle.std.proofs.Common.{◌<◌, refl, sym, subst, rules, arith}
use Rattle.ground.proofs.Calls.{of_view, Keeps}
use Rattle.ground.proofs.Opens.{owned_none}
use Rattle.ground.proofs.Parts.{splits, owned_less}
use Rattle.ground.proofs.pool.Ground.split.Goals as goal
use Rattle.step_core.specs.World.{worker_part}

-- a part can go where there are two
pub split_seat-seat-requires : goal.split_seat-seat-requires
split_seat-seat-requires c =
    let two = of_view c.seat.view_is (λ v. worker_part < v.part) c.requires.part in
    (search rules, search rules, splits _ _ _ two)

-- the seat names what it named
pub invariant_of-seat : goal.invariant_of-seat
invariant_of-seat c =
    let two = of_view c.seat.view_is (λ v. worker_part < v.part) c.requires.part in
    let e = c.split_seat-seat.ensures in
    let within = c.seat.invariant.0.within in
    subst Keeps (sym e.2) (
      owned_less c.seat.inside.seat.me.0.limits c.seat.inside.seat.me.0.view two c.seat.invariant.0,
      c.seat.invariant.1,
      λ whole. absurd (omega arith),
    )

-- the new seat names nothing
pub invariant_of-result : goal.invariant_of-result
invariant_of-result c =
    let two = of_view c.seat.view_is (λ v. worker_part < v.part) c.requires.part in
    let e = c.split_seat-seat.ensures in
    let within = c.seat.invariant.0.within in
    subst Keeps (sym e.4) (
      owned_none c.seat.inside.seat.me.0.limits worker_part c.seat.invariant.0.pool (omega arith) (omega arith),
      refl,
      λ whole. absurd (omega arith),
    )
