use Rattle.std.proofs.Common.{◌∙◌, Ok, ap, sym, refl}
use Rattle.mbufpool_c.specs.declared.guard_handle.GuardHandle.{GuardHandle}
use Rattle.mbufpool_c.specs.Guarded.{GetsOneGuard}
use Rattle.mbufpool_c.proofs.GuardLemmas.{does, does-after, gets-one-after}
use Rattle.mbufpool_c.proofs.guarded.mbufpool_guard_get_one.Goals as goal

-- the handle lent its worker, which got at hand
pub returns-in-Some-clause-called : goal.returns-in-Some-clause-called
returns-in-Some-clause-called c =
    let did = c.in-Some.ensures in
    let same = ap (λ (h : GuardHandle). h.value) c.is_empty.ensures.1 in
    does (GetsOneGuard c.in-Some.element) c.args.worker.now.value c.lend.result.now
    c.get_at_hand.new.self 0 (sym same ∙ c.lend.ensures.value) did.same did.since (Ok tt, refl, did.got)

-- or nothing, and then got or was refused
pub returns-clause-called : goal.returns-clause-called
returns-clause-called c =
    let did = c.in_default.ensures in
    let same = ap (λ (h : GuardHandle). h.value) c.is_empty.ensures.1 in
    does-after (GetsOneGuard c.get_one_apart.new.out) c.args.worker.now.value c.get_one_apart.new.worker.value c.lend.result.now
    c.get_at_hand.new.self c.get_one_apart.result (sym same ∙ c.lend.ensures.value) did.same did.since
    (gets-one-after c.get_one_apart.new.out c.get_one_apart.result _ _ did.same (did.not refl) did.since)
    c.get_one_apart.ensures.called
