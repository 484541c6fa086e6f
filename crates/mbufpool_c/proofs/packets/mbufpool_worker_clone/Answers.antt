use Rattle.std.proofs.Common.{Some, ap, sym, ◌∙◌}
use Rattle.mbuf.specs.declared.acts.Act.TheVariants.{ClonePacket}
use Rattle.mbufpool_c.proofs.ToldLemmas.{tells_new}
use Rattle.mbufpool_c.proofs.packets.mbufpool_worker_clone.Goals as goal

-- the worker that was in the handle did it, and is in the handle again
pub returns-in-Some : goal.returns-in-Some
returns-in-Some c =
    tells_new (ClonePacket c.args.slot) c.args.worker.now.value c.put_back.new.self.value c.deref_mut.result.now c.make_clone-status.new.own
    c.make_clone-status.result c.args.out.now c.make_clone-status.new.out (c.in-Some.ensures.worker ∙ ap Some (sym c.deref_mut.ensures.value))
    c.put_back.ensures c.make_clone-status.ensures
