use Rattle.std.proofs.Common.{Some, ap, sym, ◌∙◌, length}
use Rattle.mbuf.specs.declared.acts.Act.TheVariants.{AllocBulk}
use Rattle.mbufpool_c.proofs.ToldLemmas.{tells_bulk}
use Rattle.mbufpool_c.proofs.packets.bulk_in.Goals as goal

-- the worker that was in the handle did it, and is in the handle again
pub returns-in-Some : goal.returns-in-Some
returns-in-Some g c =
    tells_bulk (AllocBulk (length c.args.out.now)) c.args.worker.now.value c.put_back.new.self.value c.deref_mut.result.now c.make_in-status.new.own
    c.make_in-status.result c.args.out.now c.make_in-status.new.out (c.in-Some.ensures.worker ∙ ap Some (sym c.deref_mut.ensures.value))
    c.put_back.ensures c.make_in-status.ensures
