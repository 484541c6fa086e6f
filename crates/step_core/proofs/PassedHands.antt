-- What elements that pass leave as it was: sums over the views, and each view but for its hand.
use Rattle.std.proofs.Common.{◌≡◌, ◌≢◌, ℕ, ◌+◌, ◌<◌, List, [], ◌∷◌, ◌++◌, Option, Some, None, length, set, refl, sym, ap, ◌∙◌, subst, arith, ⊎_elim, get_or-set_other, get_or-set_same}
use Rattle.std.specs.Prelude.{sum_by, IfSome}
use Rattle.std.proofs.lemmas.Bool.{cases_eq}
use Rattle.std.proofs.lemmas.List.{length-set}
use Rattle.std.proofs.lemmas.List.Sums.{sum_by-set}
use Rattle.commons.specs.Bag.{bag}
use Rattle.step_core.specs.declared.view.Chain.{Chain}
use Rattle.step_core.specs.declared.view.View.{View}
use Rattle.step_core.specs.World.{empty_view, view_at}
use Rattle.step_core.specs.Law.{ChainRule}
use Rattle.step_core.proofs.Bags.{times-append, times-from_length, times-head}
use Rattle.step_core.proofs.Frame.{each_view}
use Rattle.step_core.specs.Passing.{with_hand, IsWithout, HasBoth, passed}

-- a list in which nothing stands is empty
none_left : (xs : List ℕ) → ((i : ℕ) → bag xs i ≡ 0) → length xs ≡ 0
none_left [] h = refl
none_left (x ∷ xs) h = absurd (let none = h x in omega (arith, times-head x xs))

-- of an empty hand nothing is taken, and nothing is left
pub empty_left : (left hand xs : List ℕ) → IsWithout left hand xs → length hand ≡ 0 → length left ≡ 0
empty_left left hand xs taken empty =
    none_left left (λ i. let t = taken i in omega (arith, times-from_length i hand empty))

-- the chain of the hand that was passed from stands as it did
pub chain_left : (link : ℕ → ℕ) (left hand xs : List ℕ) (chain : Option Chain) →
    IsWithout left hand xs →
    IfSome chain (HasBoth hand xs) →
    IfSome chain (ChainRule link hand) → IfSome chain (ChainRule link left)
chain_left link left hand xs None taken apart rule = tt
chain_left link left hand xs (Some c) taken apart rule = record {
  not_empty = rule.not_empty;
  in_hand = λ i. let t = taken i in let a = apart i in omega arith;
  linked = rule.linked;
}

-- and so does that of a hand that more is put into
pub chain_more : (link : ℕ → ℕ) (hand xs : List ℕ) (chain : Option Chain) →
    IfSome chain (ChainRule link hand) → IfSome chain (ChainRule link (xs ++ hand))
chain_more link hand xs None rule = tt
chain_more link hand xs (Some c) rule = record {
  not_empty = rule.not_empty;
  in_hand = λ i. let had = rule.in_hand i in omega (arith, times-append i xs hand);
  linked = rule.linked;
}

-- what isn't changed of the one view that is exchanged, every view has as before
one_kept : {A : Type 0} (f : View → A) (views : List View) (i : ℕ) (v : View) → i < length views →
    f v ≡ f (view_at views i) → (m : ℕ) → f (view_at (set views i v) m) ≡ f (view_at views m)
one_kept f views i v here same m =
    ⊎_elim
    (λ (e : m ≡ i). subst (λ (n : ℕ). f (view_at (set views i v) n) ≡ f (view_at views n)) (sym e)
    (ap f (get_or-set_same views i v (empty_view 0) here) ∙ same))
    (λ (n : m ≢ i). ap f (get_or-set_other views i m v (empty_view 0) n)) (cases_eq m i)

module _ (views : List View) (j k : ℕ) (xs left : List ℕ) (apart : j ≢ k)
    (giver : j < length views) (taker : k < length views)
    (taken : IsWithout left (view_at views j).hand xs) where
  -- the views once the elements have left the one hand, and the view that gets them
  given : List View
  given = set views j (with_hand (view_at views j) left)

  more : View
  more = with_hand (view_at views k) (xs ++ (view_at views k).hand)

  -- the view that gets them isn't the one that gave them
  untouched : view_at given k ≡ view_at views k
  unfolding given
  untouched = get_or-set_other views j k (with_hand (view_at views j) left) (empty_view 0) (λ e. apart (sym e))

  still_there : k < length given
  unfolding given
  still_there = let same = length-set views j (with_hand (view_at views j) left) in omega arith

  pub length_kept : length (passed views j k xs left) ≡ length views
  unfolding given more
  length_kept = length-set given k more ∙ length-set views j (with_hand (view_at views j) left)

  -- a sum over the views, to which both hands together give as much as before
  sum_passed : (f : View → ℕ) →
      f (with_hand (view_at views j) left) + f (with_hand (view_at views k) (xs ++ (view_at views k).hand))
      ≡ f (view_at views j) + f (view_at views k) →
      sum_by f (passed views j k xs left) ≡ sum_by f views
  unfolding given more
  sum_passed f both =
      let first = sum_by-set f views j (with_hand (view_at views j) left) (empty_view 0) giver in
      let second = sum_by-set f given k more (empty_view 0) still_there in
      let same = ap f untouched in
      omega arith

  -- how often an element is in all hands
  pub hands_kept : (i : ℕ) → sum_by (λ v. bag v.hand i) (passed views j k xs left) ≡ sum_by (λ v. bag v.hand i) views
  hands_kept i =
      sum_passed (λ v. bag v.hand i)
      (let t = taken i in omega (arith, times-append i xs (view_at views k).hand))

  -- a sum of what isn't the hand
  pub sum_kept : (f : View → ℕ) → ((v : View) (hand : List ℕ) → f (with_hand v hand) ≡ f v) →
      sum_by f (passed views j k xs left) ≡ sum_by f views
  sum_kept f same = sum_passed f
      (let a = same (view_at views j) left in
      let b = same (view_at views k) (xs ++ (view_at views k).hand) in
      omega arith)

  -- what both views with other hands have as before, every view has
  pub read_kept : {A : Type 0} (f : View → A) →
      f (with_hand (view_at views j) left) ≡ f (view_at views j) →
      f (with_hand (view_at views k) (xs ++ (view_at views k).hand)) ≡ f (view_at views k) →
      (m : ℕ) → f (view_at (passed views j k xs left) m) ≡ f (view_at views m)
  unfolding given more
  read_kept f gave got m =
      one_kept f given k more still_there (got ∙ ap f (sym untouched)) m
      ∙ one_kept f views j (with_hand (view_at views j) left) giver gave m

  -- what isn't the hand, of each view
  pub field_kept : {A : Type 0} (f : View → A) → ((v : View) (hand : List ℕ) → f (with_hand v hand) ≡ f v) →
      (m : ℕ) → f (view_at (passed views j k xs left) m) ≡ f (view_at views m)
  field_kept f same m =
      read_kept f (same (view_at views j) left)
      (same (view_at views k) (xs ++ (view_at views k).hand)) m

  -- the elements are in the hand that they passed to
  pub got_hand : view_at (passed views j k xs left) k ≡ with_hand (view_at views k) (xs ++ (view_at views k).hand)
  unfolding given more
  got_hand = get_or-set_same given k more (empty_view 0) still_there

  -- a fact of each view, of which the two with other hands are to be shown
  pub each_passed : (P : View → Type 0) → P (with_hand (view_at views j) left) →
      P (with_hand (view_at views k) (xs ++ (view_at views k).hand)) →
      ((m : ℕ) → P (view_at views m)) → (m : ℕ) → P (view_at (passed views j k xs left) m)
  unfolding given more
  each_passed P gave got all =
      each_view P given k more still_there got
      (λ m n. each_view P views j (with_hand (view_at views j) left) giver gave (λ i o. all i) m)
