use Rattle.std.proofs.Common.{ℕ, None, Ok, ap, get_or, subst, ◌∙◌}
use Rattle.word_pool.specs.Parcels.{Sends, with_stood}
use Rattle.mbufpool_c.specs.Labelled.{Labelled}
use Rattle.mbufpool_c.specs.Labels.{went_from}
use Rattle.mbufpool_c.specs.Parcels.{SendsBy, packet_in}
use Rattle.mbufpool_c.proofs.workers.OwnWorker.send.Goals as goal

-- the packet went from the slot that C's number stood for, which has its next label
pub returns-in-Ok-clause-sends : goal.returns-in-Ok-clause-sends
returns-in-Ok-clause-sends c =
    let w = c.self.inside in
    let after : Labelled = record { worker = c.send_seat.new.self; labels = c.go.new.self } in
    subst (λ (v : Labelled). SendsBy c.args.number v (with_stood (packet_in v c.args.number) (Ok c.in-Ok.seat)) after)
    c.self.view_is (record {
      sends =
          subst (λ (slot : ℕ).
          Sends slot w.worker (with_stood (get_or w.worker.member.table slot None) (Ok c.in-Ok.seat)) c.send_seat.new.self)
          c.slot-slot.ensures c.in-Ok.ensures.sent;
      labels = c.go.ensures.labels ∙ ap (λ (slot : ℕ). went_from slot w.labels) c.slot-slot.ensures;
    })
