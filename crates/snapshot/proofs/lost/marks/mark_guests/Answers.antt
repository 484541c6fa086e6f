use Rattle.std.proofs.Common.{◌+◌, [], get_or, refl, take}
use Rattle.std.proofs.lemmas.List.Sums.{sum_by_more}
use Rattle.commons.specs.Bag.{one}
use Rattle.pool_statement.specs.declared.guest.Guest.{Guest}
use Rattle.pool_model.specs.Guests.{guest_holds}
use Rattle.snapshot.proofs.Marks.{marked-none, marked-then}
use Rattle.snapshot.proofs.lost.marks.mark_guests.Goals as goal

-- no guest is marked yet
pub loop-guest-init : goal.loop-guest-init
loop-guest-init c = marked-none (guest_holds []) c.args.met.now.items (λ i. refl)

-- one guest more is marked
pub loop-guest-preserved : goal.loop-guest-preserved
loop-guest-preserved c =
    let guests = c.args.guests.now in
    let k = c.loop-guest.guest-index in
    let nobody : Guest = record { worker = 0; elem = 0 } in
    marked-then (guest_holds (take k guests)) (one (get_or guests k nobody).elem) (guest_holds (take (k + 1) guests)) _ _ _
    c.loop-guest.invariant c.mark.ensures
    (λ i. sum_by_more (λ (guest : Guest). one guest.elem i) guests k nobody c.loop-guest-test.true)
