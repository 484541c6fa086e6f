use Rattle.std.proofs.Common.{◌∙◌, ap, sym}
use Rattle.mbufpool_c.specs.declared.guard_handle.GuardHandle.{GuardHandle}
use Rattle.mbufpool_c.specs.Guarded.{GetsGuard}
use Rattle.mbufpool_c.proofs.GuardLemmas.{does}
use Rattle.mbufpool_c.proofs.guarded.mbufpool_guard_get.Goals as goal

-- the handle lent its worker, which got or was refused
pub returns : goal.returns
returns c =
    let did = c.get-answer.ensures in
    let same = ap (λ (h : GuardHandle). h.value) c.is_empty.ensures.1 in
    record {
      called =
          does (GetsGuard c.get-answer.new.out) c.args.worker.now.value c.lend.result.now
          c.get-answer.new.self c.status_of.result (sym same ∙ c.lend.ensures.value) did.same did.since
          (c.get-answer.result, c.status_of.ensures, did.got);
    }
