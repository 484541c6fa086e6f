use Rattle.std.proofs.Common.{Some, ap, sym, ◌∙◌, length}
use Rattle.mbuf.specs.declared.acts.Act.TheVariants.{AllocBulk}
use Rattle.mbufpool_c.proofs.ToldLemmas.{tells_bulk}
use Rattle.mbufpool_c.proofs.packets.bulk_by_act.Goals as goal

-- the worker that was in the handle did it, and is in the handle again
pub returns-in-Some : goal.returns-in-Some
returns-in-Some c =
    tells_bulk (AllocBulk (length c.args.out.now)) c.args.worker.now.value c.put_back.new.self.value c.deref_mut.result.now
    c.make_by_act-status.new.own c.make_by_act-status.result c.args.out.now c.make_by_act-status.new.out
    (c.in-Some.ensures.worker ∙ ap Some (sym c.deref_mut.ensures.value)) c.put_back.ensures c.make_by_act-status.ensures
