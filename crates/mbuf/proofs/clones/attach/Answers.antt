use Rattle.std.proofs.Common.{[], ◌∷◌, inl, inr, refl}
use Rattle.commons.specs.Calls.{CountOf}
use Rattle.commons.proofs.Leading.{Leads-one, made_by}
use Rattle.mbuf.proofs.clones.attach.Goals as goal

-- The one call read another count than 1.
pub returns-then-count-ne1-clause-calls : goal.returns-then-count-ne1-clause-calls
returns-then-count-ne1-clause-calls g c =
    let did = g.C.Commons.did in
    let side = g.C.Commons.side in
    let counted = CountOf c.args.elem c.count.result in (
      made_by did side c.args.c.now counted c.count.new.self c.count.ensures.did ∷ [],
      Leads-one did side c.args.c.now counted c.count.new.self c.count.ensures.did,
      inl (c.count.result, c.if-count-ne1.true, refl, refl),
    )

-- The count that was read is 1, and then the buffer's count was raised.
pub returns-in-Ok-clause-calls : goal.returns-in-Ok-clause-calls
returns-in-Ok-clause-calls g c =
    let count = rw c.if-count-ne1.false at c.count.ensures.did in
    let raise = rw c.buffer_of.ensures at c.in-Ok.ensures.did in (
      record { call = _; readings = count.readings } ∷ record { call = _; readings = raise.readings } ∷ [],
      (c.count.new.self, count.step, (c.raise.new.self, raise.step, refl)),
      (refl, c.attached.ensures.seg),
    )

-- The count that was read is 1, but the raise of the buffer's was refused.
pub returns-in-Err-clause-calls : goal.returns-in-Err-clause-calls
returns-in-Err-clause-calls g c =
    let count = rw c.if-count-ne1.false at c.count.ensures.did in
    let raise = rw c.buffer_of.ensures at c.in-Err.ensures.did in (
      record { call = _; readings = count.readings } ∷ record { call = _; readings = raise.readings } ∷ [],
      (c.count.new.self, count.step, (c.raise.new.self, raise.step, refl)),
      inr refl,
    )
