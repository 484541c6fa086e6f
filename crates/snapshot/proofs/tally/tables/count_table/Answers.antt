use Rattle.std.proofs.Common.{ℕ, ◌+◌, List, Option, take, sym, ap, ◌∙◌}
use Rattle.std.proofs.lemmas.List.Sums.{sum_by_more}
use Rattle.commons.specs.Bag.{bag}
use Rattle.commons.specs.declared.packet.Seg.{Seg}
use Rattle.commons.specs.Packets.{held_in, holds_in_slot, own_in, own_in_slot}
use Rattle.pool_model.specs.Guests.{local_place, local_table}
use Rattle.snapshot.proofs.LocalHolds.{table-more}
use Rattle.snapshot.proofs.Meetings.{met-then}
use Rattle.snapshot.proofs.tally.tables.count_table.Goals as goal

-- one place more was counted
pub loop-place-preserved : goal.loop-place-preserved
loop-place-preserved c =
    let table = c.args.table.now in
    let k = c.loop-place.place-index in
    let foreign = c.args.foreign in
    let place = c.place-item.result in
    let times = λ (place : Option (List Seg)) (i : ℕ). bag (own_in_slot place) i in
    record {
      own = met-then (own_in (take k table)) (bag (own_in_slot place)) (own_in (take (k + 1) table)) _ _ _
          c.loop-place.invariant.own c.count_place.ensures.own
          (λ i. sum_by_more (λ (p : Option (List Seg)). times p i) table k place c.loop-place-test.true
          ∙ ap (λ (p : Option (List Seg)). own_in (take k table) i + times p i) (sym c.place-item.is));
      held = met-then (held_in (local_table foreign (take k table))) (bag (holds_in_slot (local_place foreign place)))
          (held_in (local_table foreign (take (k + 1) table))) _ _ _ c.loop-place.invariant.held
          c.count_place.ensures.held
          (λ i. table-more foreign table k i place c.loop-place-test.true
          ∙ ap (λ (p : Option (List Seg)). held_in (local_table foreign (take k table)) i
          + bag (holds_in_slot (local_place foreign p)) i) (sym c.place-item.is));
    }
