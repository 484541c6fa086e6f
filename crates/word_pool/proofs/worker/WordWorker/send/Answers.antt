-- The parcel has a copy of the packet that stood in the slot.
use Rattle.std.proofs.Common.{◌≡◌, List, Option, Some, None, Result, Ok, get_or, sym, ap, subst, ◌∙◌}
use Rattle.commons.specs.declared.packet.Seg.{Seg}
use Rattle.word_pool.specs.Parcels.{Parcelled, Sends, with_stood}
use Rattle.word_pool.specs.Workers.{WorkerState}
use Rattle.word_pool.specs.declared.parcel.Unsent.{Unsent}
use Rattle.word_pool.proofs.worker.WordWorker.send.Goals as goal

pub returns-in-Ok-clause-sent : goal.returns-in-Ok-clause-sent
returns-in-Ok-clause-sent c =
    let now = c.args.self.now in
    let seat = c.in-Ok.seat in
    let there : get_or now.member.table c.args.slot None ≡ Some c.in-Some.place.now =
    ap (λ (m : WorkerState). get_or m.member.table c.args.slot None) (sym c.self.view_is) ∙ c.in-Some.ensures in
    subst (λ (answer : Result Parcelled Unsent). Sends c.args.slot now answer c.send_seat.new.self)
    (ap (λ (place : Option (List Seg)). with_stood place (Ok seat)) there
    ∙ ap (λ (packet : List Seg). with_stood (Some packet) (Ok seat)) (sym c.copied-packet.ensures)
    ∙ ap (λ (parcel : Parcelled). Ok parcel) (sym c.new.ensures))
    c.in-Ok.ensures.sent
