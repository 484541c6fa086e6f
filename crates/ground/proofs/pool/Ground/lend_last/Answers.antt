use Rattle.std.proofs.Common.{◌<◌, ◌≤◌, length, refl, sym, subst, rules, arith}
use Rattle.ground.specs.Own.{AtRest}
use Rattle.ground.specs.Parting.{last_element}
use Rattle.ground.proofs.Calls.{of_view, Keeps}
use Rattle.ground.proofs.Lasts.{last_there}
use Rattle.ground.proofs.Parts.{lends, owned_lending, owned_loan}
use Rattle.ground.proofs.pool.Ground.lend_last.Goals as goal

-- the rule stands once the last element is the new seat's
pub split_seat-seat-requires : goal.split_seat-seat-requires
split_seat-seat-requires c =
    let two = of_view c.seat.view_is (λ v. 2 ≤ v.part) c.requires.part in
    let rest = of_view c.seat.view_is AtRest c.requires.rest in
    let some = of_view c.seat.view_is (λ v. 0 < length v.hand) c.requires.hand in
    (search rules, search rules, lends _ _ _ _ two rest (last_there _ some))

-- the seat names what it named, but for the element
pub invariant_of-seat : goal.invariant_of-seat
invariant_of-seat c =
    let n = c.seat.inside.seat.me.0 in
    let two = of_view c.seat.view_is (λ v. 2 ≤ v.part) c.requires.part in
    let some = of_view c.seat.view_is (λ v. 0 < length v.hand) c.requires.hand in
    let within = c.seat.invariant.0.within in
    subst Keeps (sym c.split_seat-seat.ensures.2) (
      owned_lending n.limits (last_element n.view.hand) n.view two (last_there _ some) c.seat.invariant.0,
      c.seat.invariant.1,
      λ whole. absurd (omega arith),
    )

-- and the new one that alone
pub invariant_of-result : goal.invariant_of-result
invariant_of-result c =
    let n = c.seat.inside.seat.me.0 in
    let two = of_view c.seat.view_is (λ v. 2 ≤ v.part) c.requires.part in
    let some = of_view c.seat.view_is (λ v. 0 < length v.hand) c.requires.hand in
    let within = c.seat.invariant.0.within in
    subst Keeps (sym c.split_seat-seat.ensures.4) (
      owned_loan n.limits (last_element n.view.hand) n.view (last_there _ some) c.seat.invariant.0,
      refl,
      λ whole. absurd (omega arith),
    )
