use Rattle.std.proofs.Common.{Some, ap, sym, ◌∙◌}
use Rattle.mbuf.specs.declared.acts.Act.TheVariants.{Alloc}
use Rattle.mbufpool_c.proofs.ToldLemmas.{tells_new}
use Rattle.mbufpool_c.proofs.packets.mbufpool_worker_alloc.Goals as goal

-- the worker that was in the handle did it, and is in the handle again
pub returns-in-Some : goal.returns-in-Some
returns-in-Some c =
    tells_new Alloc c.args.worker.now.value c.put_back.new.self.value c.deref_mut.result.now c.make-status.new.own
    c.make-status.result c.args.out.now c.make-status.new.out (c.in-Some.ensures.worker ∙ ap Some (sym c.deref_mut.ensures.value))
    c.put_back.ensures c.make-status.ensures
