use Rattle.std.proofs.Common.{Some, ap, sym, ◌∙◌}
use Rattle.mbufpool_c.proofs.ParcelLemmas.{sends_in}
use Rattle.mbufpool_c.proofs.parcels.mbufpool_worker_send_segments.Goals as goal

-- the worker that was in the handle did it, and is in the handle again
pub returns-in-Some : goal.returns-in-Some
returns-in-Some c =
    sends_in c.args.slot c.args.worker.now.value c.put_back.new.self.value c.deref_mut.result.now c.send-status.new.own
    c.args.out.now c.send-status.new.out c.args.places.now c.send-status.new.places c.send-status.result
    (c.in-Some.ensures.worker ∙ ap Some (sym c.deref_mut.ensures.value)) c.put_back.ensures c.send-status.ensures
