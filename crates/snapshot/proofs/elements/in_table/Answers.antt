use Rattle.std.proofs.Common.{◌+◌, List, Option, take, sym, ap, ◌∙◌}
use Rattle.commons.specs.Bag.{bag}
use Rattle.commons.specs.declared.packet.Seg.{Seg}
use Rattle.commons.specs.Packets.{held_in, holds_in_slot}
use Rattle.pool_model.specs.Guests.{local_place, local_table}
use Rattle.snapshot.proofs.LocalHolds.{table-more}
use Rattle.snapshot.proofs.Gathered.{gathered-then}
use Rattle.snapshot.proofs.elements.in_table.Goals as goal

-- one place more was looked at
pub loop-place-preserved : goal.loop-place-preserved
loop-place-preserved c =
    let table = c.args.table.now in
    let k = c.loop-place.place-index in
    let foreign = c.args.foreign in
    let place = c.place-item.result in
    gathered-then c.args.population (held_in (local_table foreign (take k table)))
    (bag (holds_in_slot (local_place foreign place)))
    (held_in (local_table foreign (take (k + 1) table))) _ _ _ c.loop-place.invariant c.in_ok-in_place.ensures
    (λ i. table-more foreign table k i place c.loop-place-test.true
    ∙ ap (λ (p : Option (List Seg)). held_in (local_table foreign (take k table)) i
    + bag (holds_in_slot (local_place foreign p)) i) (sym c.place-item.is))
