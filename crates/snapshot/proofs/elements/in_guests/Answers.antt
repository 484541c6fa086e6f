use Rattle.std.proofs.Common.{◌+◌, [], get_or, refl, take}
use Rattle.std.proofs.lemmas.List.Sums.{sum_by_more}
use Rattle.commons.specs.Bag.{one}
use Rattle.pool_statement.specs.declared.guest.Guest.{Guest}
use Rattle.pool_model.specs.Guests.{guest_holds}
use Rattle.snapshot.proofs.Gathered.{gathered-none, gathered-then}
use Rattle.snapshot.proofs.elements.in_guests.Goals as goal

-- no guest was looked at yet
pub loop-guest-init : goal.loop-guest-init
loop-guest-init c = gathered-none c.args.population (guest_holds []) c.args.named.now.items (λ i. refl)

-- one guest more was looked at
pub loop-guest-preserved : goal.loop-guest-preserved
loop-guest-preserved c =
    let guests = c.args.guests.now in
    let k = c.loop-guest.guest-index in
    let nobody : Guest = record { worker = 0; elem = 0 } in
    gathered-then c.args.population (guest_holds (take k guests)) (one (get_or guests k nobody).elem)
    (guest_holds (take (k + 1) guests)) _ _ _ c.loop-guest.invariant c.in_ok-gather.ensures
    (λ i. sum_by_more (λ (guest : Guest). one guest.elem i) guests k nobody c.loop-guest-test.true)
