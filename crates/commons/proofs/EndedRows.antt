-- Holds that end in a worker's row, and the headers that go with them.
use Rattle.std.proofs.Common.{◌≡◌, ℕ, zero, suc, ◌+◌, ◌-◌, ◌<◌, ◌≤◌, ◌==◌, inl, inr, Bool, true, false, cond, nat_lt, List, [], ◌∷◌, ◌++◌, length, get_or, set, length-set, get_or-set_same, get_or-set_other, Option, Some, None, refl, sym, ◌∙◌, arith}
use Rattle.std.proofs.lemmas.Bool.Decides.{nat_tests}
use Rattle.commons.specs.Bag.{bag}
use Rattle.commons.specs.Lists.{disowned, owner_left}
use Rattle.commons.specs.inside.Site.{HasEnded}
use Rattle.commons.proofs.Bags.{bag-nil, bag-append, bag-single, one-same}
use Rattle.commons.proofs.Places.{apart_or_same, one-apart}

-- what is chosen where something is counted, and where nothing is
pub chosen_none : {A : Type 0} (n : ℕ) (x y : A) → n ≡ 0 → cond (nat_lt 0 n) x y ≡ y
chosen_none n x y h = let e : nat_lt 0 n ≡ false = grind (arith, nat_tests) in rw e refl

pub chosen_some : {A : Type 0} (n : ℕ) (x y : A) → 0 < n → cond (nat_lt 0 n) x y ≡ x
chosen_some n x y h = let e : nat_lt 0 n ≡ true = grind (arith, nat_tests) in rw e refl

-- the test whether it is the worker's header, done again, finds nothing left to give up
disown_again : (b : Bool) (u w : ℕ) → b ≡ (u == w) → disowned w (cond b None (Some u)) ≡ cond b None (Some u)
disown_again true u w e = refl
disown_again false u w e = rw (sym e) refl

-- a header that was given up, or is another's, stays as it is when given up again
disowned-again : (w : ℕ) (owner : Option ℕ) → disowned w (disowned w owner) ≡ disowned w owner
disowned-again w None = refl
disowned-again w (Some u) = disown_again (u == w) u w refl

-- who gave a header up gives it up once
owner_left-again : (w more less : ℕ) (owner : Option ℕ) → less ≤ more →
    owner_left w less (owner_left w more owner) ≡ owner_left w less owner
owner_left-again w zero zero owner h = disowned-again w owner
owner_left-again w zero (suc less) owner h = absurd (omega arith)
owner_left-again w (suc more) less owner h = refl

-- two runs of holds that end, a and then b, leave a header its owner as one run of both does
owned_then : (w a b : ℕ) (between left : ℕ) (first second third : Option ℕ) → between ≡ left + b →
    second ≡ cond (nat_lt 0 a) (owner_left w between first) first →
    third ≡ cond (nat_lt 0 b) (owner_left w left second) second →
    third ≡ cond (nat_lt 0 (a + b)) (owner_left w left first) first
owned_then w zero zero between left first second third e p q =
    q ∙ chosen_none 0 (owner_left w left second) second refl ∙ p ∙ chosen_none 0 (owner_left w between first) first refl
    ∙ sym (chosen_none (0 + 0) (owner_left w left first) first (omega arith))
owned_then w (suc a) zero between left first second third e p q =
    let same : between ≡ left = omega arith in
    q ∙ chosen_none 0 (owner_left w left second) second refl ∙ p
    ∙ chosen_some (suc a) (owner_left w between first) first (omega arith)
    ∙ rw same (sym (chosen_some (suc a + 0) (owner_left w left first) first (omega arith)))
owned_then w zero (suc b) between left first second third e p q =
    let same = p ∙ chosen_none 0 (owner_left w between first) first refl in
    q ∙ chosen_some (suc b) (owner_left w left second) second (omega arith)
    ∙ rw same (sym (chosen_some (0 + suc b) (owner_left w left first) first (omega arith)))
owned_then w (suc a) (suc b) between left first second third e p q =
    let same = p ∙ chosen_some (suc a) (owner_left w between first) first (omega arith) in
    q ∙ chosen_some (suc b) (owner_left w left second) second (omega arith)
    ∙ rw same (owner_left-again w between left first (omega arith)
    ∙ sym (chosen_some (suc a + suc b) (owner_left w left first) first (omega arith)))

-- where no hold ended, row and headers are as before
pub ended-none : (w : ℕ) (row : List ℕ) (headers : List (Option ℕ)) → HasEnded w [] row headers row headers
ended-none w row headers = record {
  holds = λ i. omega (arith, bag-nil i);
  owned =
      λ i.
      sym (chosen_none (bag [] i) (owner_left w (get_or row i 0) (get_or headers i None))
      (get_or headers i None) (bag-nil i));
  len = refl;
  headers_len = refl;
}

-- where one hold ended, the row has one less there, and the header goes with the last one
pub ended-one : (w e : ℕ) (row : List ℕ) (headers : List (Option ℕ)) → 0 < get_or row e 0 →
    e < length row → length row ≤ length headers →
    HasEnded w (e ∷ []) row headers (set row e (get_or row e 0 - 1))
    (set headers e (owner_left w (get_or row e 0 - 1) (get_or headers e None)))
ended-one w e row headers some within wide =
    let left : ℕ = get_or row e 0 - 1 in
    let owner : Option ℕ = owner_left w left (get_or headers e None) in
    let there = get_or-set_same row e left 0 within in record {
      holds = λ i. elim (apart_or_same e i) [
        | inl f ↦ rw (f, there) (omega (arith, bag-single e e, one-same e, some))
        | inr f ↦ rw (get_or-set_other row e i left 0 f) (omega (arith, bag-single e i, one-apart e i f))
      ];
      owned = λ i. elim (apart_or_same e i) [
        | inl f ↦ rw (f, there, get_or-set_same headers e owner None (omega (arith, wide)))
            (sym (chosen_some (bag (e ∷ []) e) owner (get_or headers e None)
            (omega (arith, bag-single e e, one-same e))))
        | inr f ↦ rw (get_or-set_other headers e i owner None f)
            (sym (chosen_none (bag (e ∷ []) i)
            (owner_left w (get_or (set row e left) i 0) (get_or headers i None))
            (get_or headers i None) (omega (arith, bag-single e i, one-apart e i f))))
      ];
      len = length-set row e left;
      headers_len = length-set headers e owner;
    }

-- holds that ended in two runs, one after the other, ended as those of both lists
pub ended-append : (w : ℕ) (es fs first second third : List ℕ) (f g h : List (Option ℕ)) →
    HasEnded w es first f second g → HasEnded w fs second g third h →
    HasEnded w (es ++ fs) first f third h
ended-append w es fs first second third f g h a b = record {
  holds = λ i. omega (arith, bag-append es fs i, a.holds i, b.holds i);
  owned = λ i. rw (bag-append es fs i)
      (owned_then w (bag es i) (bag fs i) (get_or second i 0) (get_or third i 0) (get_or f i None)
      (get_or g i None) (get_or h i None) (b.holds i) (a.owned i) (b.owned i));
  len = b.len ∙ a.len;
  headers_len = b.headers_len ∙ a.headers_len;
}
