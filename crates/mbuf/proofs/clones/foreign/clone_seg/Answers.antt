use Rattle.std.proofs.Common.{ℕ, [], ◌∷◌, ◌++◌, refl, ap, arith}
use Rattle.commons.specs.Calls.{Claim, calls_of}
use Rattle.commons.proofs.Bags.{bag-nil, bag-single, one-same}
use Rattle.commons.proofs.Leading.{calls_of-append, Leads-append, Leads-one, made_by}
use Rattle.mbuf.specs.Foreign.{NoForeignElement, NoForeignRaise}
use Rattle.mbuf.specs.Sharing.{buffer_of}
use Rattle.mbuf.proofs.CloneLemmas.{single_is, unheld}
use Rattle.mbuf.proofs.clones.foreign.clone_seg.Goals as goal

-- No element was got, and the first pool was asked nothing.
pub returns-in-Err-clause-calls : goal.returns-in-Err-clause-calls
returns-in-Err-clause-calls g c =
    let got = c.in-Err.ensures.calls in
    let left = c.in-Err.ensures.cache_err in
    ([], refl, (got.0, got.1, NoForeignElement refl (rw left at got.2) refl left))

-- No element is left over.
pub returns-in-Err-clause-unheld : goal.returns-in-Err-clause-unheld
returns-in-Err-clause-unheld g c = λ i some. absurd (omega (arith, some, bag-nil i))

-- The calls on the second pool are those of the get and the claim of what it gave, and that on the
-- first is the raise of the buffer's count.
pub returns-in-Ok-raise-clause-calls : goal.returns-in-Ok-raise-clause-calls
returns-in-Ok-raise-clause-calls g c =
    let did = g.D.Commons.did in
    let side = g.D.Commons.side in
    let got = c.in-Ok.ensures.calls in
    let raise = rw c.buffer_of.ensures at c.in-Ok-raise.ensures.did in
    let claim = made_by did side c.get_one.new.c (Claim c.in-Ok.elem) c.claim.new.self c.claim.ensures.did in (
      record { call = _; readings = raise.readings } ∷ [],
      (c.raise.new.self, raise.step, refl),
      (
        got.0 ++ claim ∷ [],
        Leads-append did side got.0 (claim ∷ []) c.args.d.now c.get_one.new.c c.claim.new.self got.1
            (Leads-one did side c.get_one.new.c (Claim c.in-Ok.elem) c.claim.new.self c.claim.ensures.did),
        record {
          elem = c.in-Ok.elem;
          get = calls_of got.0;
          got = got.2;
          raised = refl;
          claimed = calls_of-append got.0 (claim ∷ []);
          is = c.attached.ensures.seg;
        },
      ),
    )

-- The raise made a hold of the buffer, which is the new segment's base.
pub returns-in-Ok-raise-clause-first_holds : goal.returns-in-Ok-raise-clause-first_holds
returns-in-Ok-raise-clause-first_holds g c = λ i.
    let raised = rw c.buffer_of.ensures at (c.in-Ok-raise.ensures.did.step.effect.holds i) in
    rw c.attached.ensures.seg (omega (arith, raised, bag-single (buffer_of c.args.seg) i))

-- The claim made the hold of the new element.
pub returns-in-Ok-raise-clause-second_holds : goal.returns-in-Ok-raise-clause-second_holds
returns-in-Ok-raise-clause-second_holds g c = λ i.
    rw c.attached.ensures.seg (omega (
      arith,
      c.claim.ensures.did.step.effect.holds i,
      ap (λ (f : ℕ → ℕ). f i) c.in-Ok.ensures.holds,
      bag-single c.in-Ok.elem i,
    ))

-- The claim made the new element a header.
pub returns-in-Ok-raise-clause-second_headers : goal.returns-in-Ok-raise-clause-second_headers
returns-in-Ok-raise-clause-second_headers g c = λ i.
    rw c.attached.ensures.seg (omega (
      arith,
      c.claim.ensures.did.step.effect.headers i,
      ap (λ (f : ℕ → ℕ). f i) c.in-Ok.ensures.headers,
      bag-single c.in-Ok.elem i,
    ))

-- The new element was in the hand, and what is in a hand has no holds.
pub returns-in-Ok-raise-clause-unheld : goal.returns-in-Ok-raise-clause-unheld
returns-in-Ok-raise-clause-unheld g c = λ i some.
    let e = c.in-Ok.elem in
    let here = rw c.attached.ensures.seg at some in
    let none =
    unheld ((g.D.Commons.side c.get_one.new.c).hand e)
    ((g.D.Commons.side c.get_one.new.c).holds e) (g.met.D.Commons.apart c.get_one.new.c e)
    (omega (arith, c.in-Ok.ensures.hand e, c.requires.second_hand e, one-same e)) in
    rw (single_is e i here) (omega (arith, none, ap (λ (f : ℕ → ℕ). f e) c.in-Ok.ensures.holds))

-- The get and the claim succeeded, and the raise was refused.
pub returns-in-Err-raise-clause-calls : goal.returns-in-Err-raise-clause-calls
returns-in-Err-raise-clause-calls g c =
    let did = g.D.Commons.did in
    let side = g.D.Commons.side in
    let got = c.in-Ok.ensures.calls in
    let raise = rw c.buffer_of.ensures at c.in-Err-raise.ensures.did in
    let claim = made_by did side c.get_one.new.c (Claim c.in-Ok.elem) c.claim.new.self c.claim.ensures.did in (
      record { call = _; readings = raise.readings } ∷ [],
      (c.raise.new.self, raise.step, refl),
      (
        got.0 ++ claim ∷ [],
        Leads-append did side got.0 (claim ∷ []) c.args.d.now c.get_one.new.c c.claim.new.self got.1
            (Leads-one did side c.get_one.new.c (Claim c.in-Ok.elem) c.claim.new.self c.claim.ensures.did),
        NoForeignRaise c.in-Ok.elem (calls_of got.0) refl got.2 (calls_of-append got.0 (claim ∷ [])) refl,
      ),
    )

-- The claim made the hold of the element that is left over.
pub returns-in-Err-raise-clause-second_holds : goal.returns-in-Err-raise-clause-second_holds
returns-in-Err-raise-clause-second_holds g c = λ i.
    omega (
      arith,
      c.claim.ensures.did.step.effect.holds i,
      ap (λ (f : ℕ → ℕ). f i) c.in-Ok.ensures.holds,
      bag-single c.in-Ok.elem i,
    )

-- The claim made the element that is left over a header.
pub returns-in-Err-raise-clause-second_headers : goal.returns-in-Err-raise-clause-second_headers
returns-in-Err-raise-clause-second_headers g c = λ i.
    omega (
      arith,
      c.claim.ensures.did.step.effect.headers i,
      ap (λ (f : ℕ → ℕ). f i) c.in-Ok.ensures.headers,
      bag-single c.in-Ok.elem i,
    )

-- The element that is left over was in the hand, and what is in a hand has no holds.
pub returns-in-Err-raise-clause-unheld : goal.returns-in-Err-raise-clause-unheld
returns-in-Err-raise-clause-unheld g c = λ i some.
    let e = c.in-Ok.elem in
    let none =
    unheld ((g.D.Commons.side c.get_one.new.c).hand e)
    ((g.D.Commons.side c.get_one.new.c).holds e) (g.met.D.Commons.apart c.get_one.new.c e)
    (omega (arith, c.in-Ok.ensures.hand e, c.requires.second_hand e, one-same e)) in
    rw (single_is e i some) (omega (arith, none, ap (λ (f : ℕ → ℕ). f e) c.in-Ok.ensures.holds))
