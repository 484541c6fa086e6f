use Rattle.std.proofs.Common.{◌∙◌, Ok, ap, sym, refl}
use Rattle.mbufpool_c.specs.declared.guard_handle.GuardHandle.{GuardHandle}
use Rattle.mbufpool_c.specs.Guarded.{PutsOneGuard}
use Rattle.mbufpool_c.proofs.GuardLemmas.{does, does-after, puts-one-after}
use Rattle.mbufpool_c.proofs.guarded.mbufpool_guard_put_one.Goals as goal

-- the handle lent its worker, which put at hand
pub returns-then-put_at_hand : goal.returns-then-put_at_hand
returns-then-put_at_hand c =
    let did = c.put_at_hand.ensures in
    let same = ap (λ (h : GuardHandle). h.value) c.is_empty.ensures.1 in
    record {
      called =
          does (PutsOneGuard c.args.element) c.args.worker.now.value c.lend.result.now
          c.put_at_hand.new.self 0 (sym same ∙ c.lend.ensures.value) did.same did.since
          (Ok tt, refl, did.put c.if-put_at_hand.true);
    }

-- or nothing, and then put or was refused
pub returns : goal.returns
returns c =
    let did = c.put_at_hand.ensures in
    let same = ap (λ (h : GuardHandle). h.value) c.is_empty.ensures.1 in
    record {
      called =
          does-after (PutsOneGuard c.args.element) c.args.worker.now.value c.put_one_apart.new.worker.value c.lend.result.now
          c.put_at_hand.new.self c.put_one_apart.result (sym same ∙ c.lend.ensures.value) did.same did.since
          (puts-one-after c.args.element c.put_one_apart.result _ _ did.same (did.not c.if-put_at_hand.false) did.since)
          c.put_one_apart.ensures.called;
    }
