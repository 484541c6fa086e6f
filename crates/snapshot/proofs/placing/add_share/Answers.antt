use Rattle.std.proofs.Common.{refl, arith}
use Rattle.std.proofs.lemmas.Result.{IfOk-weaker}
use Rattle.commons.specs.Bag.{bag}
use Rattle.commons.specs.Packets.{held_in}
use Rattle.pool_statement.specs.declared.statement.Holder.TheVariants.{Worker}
use Rattle.pool_model.specs.Guests.{local_table}
use Rattle.snapshot.proofs.AddedHolders.{added-times}
use Rattle.snapshot.proofs.placing.add_share.Goals as goal

-- what its packets hold is held
pub add_slots-requires : goal.add_slots-requires
add_slots-requires c = λ i h. rw c.as_slice.ensures (omega (arith, c.requires i h))

-- and so is a guest of the share
pub add_all-requires : goal.add_all-requires
add_all-requires c = λ i h. omega (arith, c.requires i (omega (arith, c.in_ok-add_slots.ensures.len)))

-- what packets hold first, and then the guests
pub returns : goal.returns
returns c =
    let share = c.args.share.now in
    let held = rw c.as_slice.ensures at c.in_ok-add_slots.ensures in
    IfOk-weaker _ _ _
    (λ _ added. added-times (Worker share.worker) (held_in (local_table c.args.foreign share.slots))
    (bag c.args.guests.now) _ _ _ _ held added (λ i. refl)) c.add_all.ensures
