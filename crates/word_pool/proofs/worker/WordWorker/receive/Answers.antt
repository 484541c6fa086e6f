-- A parcel is its packet and its seat.
use Rattle.std.proofs.Common.{Ok, subst, ◌∙◌}
use Rattle.word_pool.specs.Parcels.{Parcelled, Receives}
use Rattle.word_pool.proofs.Parcels.{parcel_is}
use Rattle.word_pool.proofs.worker.WordWorker.receive.Goals as goal

pub returns-in-Ok-clause-received : goal.returns-in-Ok-clause-received
returns-in-Ok-clause-received c =
    let parts = c.into_parts-packet.ensures.parts in
    subst (λ (parcel : Parcelled). Receives parcel c.args.self.now (Ok c.in-Ok.slot) c.receive_seat.new.self)
    (parcel_is c.args.parcel c.segs.result.now c.into_parts-packet.result.1 (c.segs.ensures.segs ∙ parts.0) parts.1)
    c.in-Ok.ensures.received
