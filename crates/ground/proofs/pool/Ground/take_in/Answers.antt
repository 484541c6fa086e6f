use Rattle.std.proofs.Common.{refl, sym, subst, rules, arith}
use Rattle.ground.specs.Own.{AtRest, IsGathering}
use Rattle.ground.specs.Rule.{Sat}
use Rattle.ground.proofs.Calls.{of_view}
use Rattle.ground.proofs.Joining.{merges}
use Rattle.ground.proofs.pool.Ground.take_in.Goals as goal

-- the rule stands once the two are one
pub join_seat-requires : goal.join_seat-requires
join_seat-requires c =
    let rest = of_view c.other.view_is AtRest c.requires.rest in (
      search rules,
      search rules,
      search rules,
      search rules,
      merges _ _ _ _ _ c.gathering.invariant.busy c.gathering.invariant.rest rest,
    )

-- the one has the parts of both, and is at rest
pub invariant_of-gathering : goal.invariant_of-gathering
invariant_of-gathering c =
    let some = c.gathering.invariant.busy in
    subst (λ (m : Sat). IsGathering m.0 m.1) (sym c.join_seat.ensures.2) (record {
      busy = omega arith;
      rest = record { zeros = refl; credit = refl; chain = refl; work = refl };
      slots = c.gathering.invariant.slots;
    })
