-- Where elements are while packets are made and freed.
use Rattle.std.proofs.Common.{ℕ, ◌≡◌, ◌≢◌, ◌+◌, ◌<◌, ◌≤◌, ◌==◌, inl, inr, if◌then◌else◌, List, [], ◌∷◌, refl, sym, ◌∙◌, arith}
use Rattle.std.specs.Prelude.{min}
use Rattle.std.proofs.lemmas.Bool.{cases_Bool, cases_eq, eqb-true, eqb-false}
use Rattle.commons.specs.Bag.{bag, one}
use Rattle.commons.specs.declared.limits.Limits.{Limits}
use Rattle.commons.proofs.Bags.{bag-nil, bag-cons, bag-single, one-same}
use Rattle.commons.proofs.Places.{one-apart}
use Rattle.mbuf.specs.declared.freed.Freed.{Freed}
use Rattle.pool_model.specs.Pool.{Shared}
use Rattle.pool_model.specs.CacheModel.{put}
use Rattle.pool_model.specs.HoldModel.{put_back, end_holds}
use Rattle.pool_model.proofs.CacheBags.{put-IsPut}

-- the last hold of an element ends
last_hold : (e i : ℕ) (f g : ℕ → ℕ) → f e + g e ≡ 0 → one e i + min 1 (g i + f i) ≡ min 1 (g i + (one e i + f i))
last_hold e i f g h = elim (cases_eq e i) [
  | inl q ↦ rw (← q) (let k = one-same e in omega arith)
  | inr q ↦ let k = one-apart e i (λ p. q (sym p)) in omega arith
]

-- an element of which one hold ends and another stays is held still
other_hold : (e i : ℕ) (f g : ℕ → ℕ) → 0 < f e + g e → min 1 (g i + f i) ≡ min 1 (g i + (one e i + f i))
other_hold e i f g h = elim (cases_eq e i) [
  | inl q ↦ rw (← q) (let k = one-same e in omega arith)
  | inr q ↦ let k = one-apart e i (λ p. q (sym p)) in omega arith
]

-- after one hold has ended
abbrev pub next_hold : Limits → (ℕ → ℕ) → ℕ → List ℕ → Freed × List ℕ × Shared → Freed × List ℕ × Shared
next_hold l others e es so_far =
    if bag es e + others e == 0 then put_back so_far.0 (put l (e ∷ []) so_far.1 so_far.2)
    else so_far

-- Once holds have ended, each element that was held, cached or in the common list is so still, the
-- desks are as before, and no change of the stack is taken back.
pub record IsEnded (others : ℕ → ℕ) (es : List ℕ) (so_far r : Freed × List ℕ × Shared) : Type 0 where
  pub moved : (i : ℕ) → bag r.1 i + bag r.2.common i + min 1 (others i)
      ≡ bag so_far.1 i + bag so_far.2.common i + min 1 (others i + bag es i)
  pub desks : r.2.desks ≡ so_far.2.desks
  pub changes : so_far.2.changes ≤ r.2.changes

-- the end of one hold loses no element, leaves the desks, and takes back no change
next_hold-IsEnded : (l : Limits) (others : ℕ → ℕ) (e : ℕ) (es : List ℕ)
    (so_far : Freed × List ℕ × Shared) →
    IsEnded (λ i. others i + bag es i) (e ∷ []) so_far (next_hold l others e es so_far)
next_hold-IsEnded l others e es so_far = elim (cases_Bool (bag es e + others e == 0)) [
  | inl a ↦ rw a (let put = put-IsPut l (e ∷ []) so_far.1 so_far.2 in record {
    moved =
        λ i.
        omega (
          arith,
          put.moved i,
          bag-single e i,
          last_hold e i (bag es) others (eqb-true (bag es e + others e) 0 a),
        );
    desks = put.desks;
    changes = put.changes;
  })
  | inr a ↦ rw a (
      let k : bag es e + others e ≢ 0 = eqb-false (bag es e + others e) 0 a in record {
        moved = λ i. omega (arith, bag-single e i, other_hold e i (bag es) others (omega arith));
        desks = refl;
        changes = omega arith;
      })
]

-- the end of holds of these elements loses none, leaves the desks, and takes back no change
pub end_holds-IsEnded : (l : Limits) (others : ℕ → ℕ) (es : List ℕ)
    (so_far : Freed × List ℕ × Shared) → IsEnded others es so_far (end_holds l others es so_far)
end_holds-IsEnded l others [] so_far = record
    { moved = λ i. omega (arith, bag-nil i); desks = refl; changes = omega arith }
end_holds-IsEnded l others (e ∷ es) so_far =
    let first = next_hold-IsEnded l others e es so_far in
    let rest = end_holds-IsEnded l others es (next_hold l others e es so_far) in record {
      moved = λ i. omega (arith, rest.moved i, first.moved i, bag-cons e es i, bag-single e i);
      desks = rest.desks ∙ first.desks;
      changes = omega (arith, first.changes, rest.changes);
    }
