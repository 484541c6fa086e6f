use Rattle.std.proofs.Common.{Some, ap, sym, ◌∙◌}
use Rattle.mbufpool_c.proofs.ToldLemmas.{tells_as}
use Rattle.mbufpool_c.proofs.packets.act.Goals as goal

-- the worker that was in the handle did it, and is in the handle again
pub returns-in-Some : goal.returns-in-Some
returns-in-Some c =
    tells_as c.args.act c.args.worker.now.value c.put_back.new.self.value c.deref_mut.result.now c.deed-status.new.own
    c.deed-status.result (c.in-Some.ensures.worker ∙ ap Some (sym c.deref_mut.ensures.value))
    c.put_back.ensures c.deed-status.ensures
