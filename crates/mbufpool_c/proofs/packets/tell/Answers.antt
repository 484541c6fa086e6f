use Rattle.std.proofs.Common.{Some, ap, sym, ◌∙◌}
use Rattle.mbufpool_c.proofs.ToldLemmas.{tells_number}
use Rattle.mbufpool_c.proofs.packets.tell.Goals as goal

-- the worker that was in the handle did it, and is in the handle again
pub returns-in-Some : goal.returns-in-Some
returns-in-Some c =
    tells_number c.args.what c.args.worker.now.value c.put_back.new.self.value c.deref_mut.result.now c.give-status.new.own
    c.give-status.result c.args.out.now c.give-status.new.out (c.in-Some.ensures.worker ∙ ap Some (sym c.deref_mut.ensures.value))
    c.put_back.ensures c.give-status.ensures
