use Rattle.std.proofs.Common.{refl, subst}
use Rattle.word_pool.specs.Parcels.{with_packet}
use Rattle.mbufpool_c.specs.Labelled.{Labelled}
use Rattle.mbufpool_c.specs.Parcels.{ReceivesBy}
use Rattle.mbufpool_c.proofs.workers.OwnWorker.receive.Goals as goal

-- the worker received it, and no label has changed
pub returns : goal.returns
returns c =
    let after : Labelled = record { worker = c.receive_seat.new.self; labels = c.self.inside.labels } in
    subst (λ (v : Labelled). ReceivesBy (record { packet = c.args.segs.now; seat = c.args.seat }) v
    (with_packet c.args.segs.now c.receive_seat.result) after) c.self.view_is
    (record { receives = c.receive_seat.ensures.received; labels = refl })
