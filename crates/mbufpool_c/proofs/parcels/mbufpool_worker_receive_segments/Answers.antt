use Rattle.std.proofs.Common.{Some, ap, sym, ◌∙◌}
use Rattle.mbufpool_c.proofs.ParcelLemmas.{receives_in}
use Rattle.mbufpool_c.proofs.parcels.mbufpool_worker_receive_segments.Goals as goal

-- the worker that was in the handle did it, and is in the handle again
pub returns-in-Some : goal.returns-in-Some
returns-in-Some c =
    receives_in c.args.worker.now.value c.put_back.new.self.value c.deref_mut.result.now c.receive-status.new.own
    c.args.parcel.now c.receive-status.new.parcel c.args.out.now c.receive-status.new.out c.receive-status.result
    (c.in-Some.ensures.worker ∙ ap Some (sym c.deref_mut.ensures.value)) c.put_back.ensures c.receive-status.ensures
