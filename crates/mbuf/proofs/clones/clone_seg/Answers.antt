use Rattle.std.proofs.Common.{ℕ, [], ◌∷◌, ◌++◌, refl, ap, arith}
use Rattle.commons.specs.Calls.{Claim, Side, calls_of}
use Rattle.commons.proofs.Bags.{bag-nil, bag-single, one-same}
use Rattle.commons.proofs.Leading.{calls_of-append, Leads-append}
use Rattle.mbuf.specs.Sharing.{NoElement, NoRaise}
use Rattle.mbuf.proofs.CloneLemmas.{attached_holds, single_is, unheld}
use Rattle.mbuf.proofs.clones.clone_seg.Goals as goal

-- No element was got, and the refused get left the cache as it was.
pub returns-in-Err-clause-calls : goal.returns-in-Err-clause-calls
returns-in-Err-clause-calls g c =
    let got = c.in-Err.ensures.calls in
    (got.0, got.1, NoElement (rw c.in-Err.ensures.cache_err at got.2) refl c.in-Err.ensures.cache_err)

-- A refused get changes no hold.
pub returns-in-Err-clause-holds : goal.returns-in-Err-clause-holds
returns-in-Err-clause-holds g c = λ i. omega (arith, ap (λ (f : ℕ → ℕ). f i) c.in-Err.ensures.holds, bag-nil i)

-- A refused get changes no header.
pub returns-in-Err-clause-headers : goal.returns-in-Err-clause-headers
returns-in-Err-clause-headers g c = λ i. omega (arith, ap (λ (f : ℕ → ℕ). f i) c.in-Err.ensures.headers, bag-nil i)

-- No element is left over.
pub returns-in-Err-clause-unheld : goal.returns-in-Err-clause-unheld
returns-in-Err-clause-unheld g c = λ i some. absurd (omega (arith, some, bag-nil i))

-- The calls are those of the get, the claim of what it gave, and the raise of the buffer's count.
pub returns-in-Ok-raise-clause-calls : goal.returns-in-Ok-raise-clause-calls
returns-in-Ok-raise-clause-calls g c =
    let did = g.C.Commons.did in
    let side = g.C.Commons.side in
    let got = c.in-Ok.ensures.calls in
    let claim = c.claim.ensures.did in
    let raise = rw c.buffer_of.ensures at c.in-Ok-raise.ensures.did in
    let both =
    record { call = Claim c.in-Ok.elem; readings = claim.readings }
    ∷ record { call = _; readings = raise.readings } ∷ [] in (
      got.0 ++ both,
      Leads-append did side got.0 both c.args.c.now c.get_one.new.c c.raise.new.self got.1
          (c.claim.new.self, claim.step, (c.raise.new.self, raise.step, refl)),
      record {
        elem = c.in-Ok.elem;
        get = calls_of got.0;
        got = got.2;
        called = calls_of-append got.0 both;
        is = c.attached.ensures.seg;
      },
    )

-- The claim made the hold of the new element, and the raise that of the buffer.
pub returns-in-Ok-raise-clause-holds : goal.returns-in-Ok-raise-clause-holds
returns-in-Ok-raise-clause-holds g c = λ i.
    let raised = rw c.buffer_of.ensures at (c.in-Ok-raise.ensures.did.step.effect.holds i) in
    omega (
      arith,
      raised,
      c.claim.ensures.did.step.effect.holds i,
      ap (λ (f : ℕ → ℕ). f i) c.in-Ok.ensures.holds,
      attached_holds c.in-Ok.elem c.args.seg c.attached.result i c.attached.ensures.seg,
    )

-- The claim made the new element a header, and the raise made none.
pub returns-in-Ok-raise-clause-headers : goal.returns-in-Ok-raise-clause-headers
returns-in-Ok-raise-clause-headers g c = λ i.
    rw c.attached.ensures.seg
    (omega (
      arith,
      ap (λ (f : ℕ → ℕ). f i) c.in-Ok-raise.ensures.did.step.effect.headers,
      c.claim.ensures.did.step.effect.headers i,
      ap (λ (f : ℕ → ℕ). f i) c.in-Ok.ensures.headers,
      bag-single c.in-Ok.elem i,
    ))

-- The new element was in the hand, and what is in a hand has no holds.
pub returns-in-Ok-raise-clause-unheld : goal.returns-in-Ok-raise-clause-unheld
returns-in-Ok-raise-clause-unheld g c = λ i some.
    let e = c.in-Ok.elem in
    let here = rw c.attached.ensures.seg at some in
    let none =
    unheld ((g.C.Commons.side c.get_one.new.c).hand e)
    ((g.C.Commons.side c.get_one.new.c).holds e) (g.met.C.Commons.apart c.get_one.new.c e)
    (omega (arith, c.in-Ok.ensures.hand e, c.requires.hand e, one-same e)) in
    rw (single_is e i here) (omega (arith, none, ap (λ (f : ℕ → ℕ). f e) c.in-Ok.ensures.holds))

-- The calls are those of the get, the claim of what it gave, and the raise that was refused.
pub returns-in-Err-raise-clause-calls : goal.returns-in-Err-raise-clause-calls
returns-in-Err-raise-clause-calls g c =
    let did = g.C.Commons.did in
    let side = g.C.Commons.side in
    let got = c.in-Ok.ensures.calls in
    let claim = c.claim.ensures.did in
    let raise = rw c.buffer_of.ensures at c.in-Err-raise.ensures.did in
    let both =
    record { call = Claim c.in-Ok.elem; readings = claim.readings }
    ∷ record { call = _; readings = raise.readings } ∷ [] in (
      got.0 ++ both,
      Leads-append did side got.0 both c.args.c.now c.get_one.new.c c.raise.new.self got.1
          (c.claim.new.self, claim.step, (c.raise.new.self, raise.step, refl)),
      NoRaise c.in-Ok.elem (calls_of got.0) got.2 (calls_of-append got.0 both) refl,
    )

-- The claim made the hold of the element that is left over, and the refused raise none.
pub returns-in-Err-raise-clause-holds : goal.returns-in-Err-raise-clause-holds
returns-in-Err-raise-clause-holds g c = λ i.
    omega (
      arith,
      ap (λ (s : Side). s.holds i) c.in-Err-raise.ensures.did.step.effect,
      c.claim.ensures.did.step.effect.holds i,
      ap (λ (f : ℕ → ℕ). f i) c.in-Ok.ensures.holds,
      bag-single c.in-Ok.elem i,
    )

-- The claim made the element that is left over a header, and the refused raise none.
pub returns-in-Err-raise-clause-headers : goal.returns-in-Err-raise-clause-headers
returns-in-Err-raise-clause-headers g c = λ i.
    omega (
      arith,
      ap (λ (s : Side). s.headers i) c.in-Err-raise.ensures.did.step.effect,
      c.claim.ensures.did.step.effect.headers i,
      ap (λ (f : ℕ → ℕ). f i) c.in-Ok.ensures.headers,
      bag-single c.in-Ok.elem i,
    )

-- The element that is left over was in the hand, and what is in a hand has no holds.
pub returns-in-Err-raise-clause-unheld : goal.returns-in-Err-raise-clause-unheld
returns-in-Err-raise-clause-unheld g c = λ i some.
    let e = c.in-Ok.elem in
    let none =
    unheld ((g.C.Commons.side c.get_one.new.c).hand e)
    ((g.C.Commons.side c.get_one.new.c).holds e) (g.met.C.Commons.apart c.get_one.new.c e)
    (omega (arith, c.in-Ok.ensures.hand e, c.requires.hand e, one-same e)) in
    rw (single_is e i some) (omega (arith, none, ap (λ (f : ℕ → ℕ). f e) c.in-Ok.ensures.holds))
