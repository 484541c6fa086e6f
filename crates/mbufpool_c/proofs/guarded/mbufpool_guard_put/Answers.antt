use Rattle.std.proofs.Common.{◌∙◌, ap, sym}
use Rattle.mbufpool_c.specs.declared.guard_handle.GuardHandle.{GuardHandle}
use Rattle.mbufpool_c.specs.Guarded.{PutsGuard}
use Rattle.mbufpool_c.proofs.GuardLemmas.{does}
use Rattle.mbufpool_c.proofs.guarded.mbufpool_guard_put.Goals as goal

-- the handle lent its worker, which put the list, or a part of it until one was refused
pub returns-clause-called : goal.returns-clause-called
returns-clause-called c =
    let did = c.put-count.ensures in
    let same = ap (λ (h : GuardHandle). h.value) c.is_empty.ensures.1 in
    does (PutsGuard c.args.list.now c.put-count.result.0) c.args.worker.now.value c.lend.result.now
    c.put-count.new.self c.status_of_put.result (sym same ∙ c.lend.ensures.value) did.same did.since
    (c.put-count.result.1, c.status_of_put.ensures, did.puts, did.stops)
