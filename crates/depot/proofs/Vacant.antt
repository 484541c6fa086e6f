-- A seat that is cut from the loans, and has nothing; and one with two empty magazines.
use Rattle.std.proofs.Common.{◌≡◌, ℕ, ◌≤◌, List, [], ◌∷◌, length, refl, sym, ap, ◌∙◌, subst, arith}
use Rattle.atomic_table.specs.declared.shared.Seat.{Seat}
use Rattle.commons.specs.Bag.{bag}
use Rattle.commons.proofs.Bags.{bag-nil}
use Rattle.depot.specs.declared.loans.Loans.{Loans}
use Rattle.depot.specs.declared.view.View.{View}
use Rattle.depot.specs.Answers.{contents, noting, kept_part, other_part}
use Rattle.depot.specs.Bags.{minus}
use Rattle.depot.specs.Lending.{AreOf, elements, hands_of}
use Rattle.depot.specs.Racks.{Rows, front_of, stock, Gains}
use Rattle.depot.specs.Resting.{IsBare}
use Rattle.depot.specs.Rule.{Sat}
use Rattle.depot.specs.Seats.{Site}
use Rattle.depot.proofs.Bags.{bag-minus}
use Rattle.depot.proofs.Taking.{none-out, bare-of}
use Rattle.depot.proofs.Turns.{stock-contents}

nil-length : (xs : List ℕ) → length xs ≡ 0 → xs ≡ []
nil-length [] h = refl
nil-length (x ∷ xs) h = absurd (omega arith)

-- two magazines without elements have none
pub cached-none : (rounds m : ℕ) (a b : Sat) → a.1 ≡ (m, []) ∷ [] → Gains rounds a b → length (front_of b.1) ≡ 0 →
    contents b.1 ≡ []
cached-none rounds m a b one more none =
    let before : stock a.1 ≡ 0 = ap stock one in
    let now = more.stock in
    let all = stock-contents b.1 in
    nil-length (contents b.1) (omega arith)

module _ (t n : Seat (List ℕ) View) (none : t.me.1 ≡ []) (noted : n.me ≡ (noting t.me.0 t.me.1, t.me.1)) where
  pub kept-none : n.me.0.kept ≡ []
  kept-none = ap (λ (m : Sat). m.0.kept) noted ∙ ap (λ (ms : Rows). contents ms) none

  pub kept-few : (i : ℕ) → bag n.me.0.kept i ≤ bag n.me.0.hand i
  kept-few i = let a = ap (λ (xs : List ℕ). bag xs i) kept-none in let b = bag-nil i in omega arith

  -- the seat has nothing
  pub part-hand : (p : Seat (List ℕ) View) → p.me ≡ (kept_part n.me.0, n.me.1) → p.me.0.hand ≡ []
  part-hand p is = ap (λ (m : Sat). m.0.hand) is ∙ kept-none

  pub part-out : (g : Site) (x : Loans) (p : Seat (List ℕ) View) → AreOf g x → x.views ≡ t.me.0 ∷ [] →
      p.me ≡ (kept_part n.me.0, n.me.1) → p.me.0.out ≡ []
  part-out g x p of views is =
      ap (λ (m : Sat). m.0.out) is ∙ ap (λ (m : Sat). m.0.out) noted ∙ none-out g x t.me.0 of views

  pub part-magazines : (p : Seat (List ℕ) View) → p.me ≡ (kept_part n.me.0, n.me.1) → p.me.1 ≡ []
  part-magazines p is = ap (λ (m : Sat). m.1) is ∙ ap (λ (m : Sat). m.1) noted ∙ none

  -- and what is lent stays so
  pub part-same : (x y : Loans) (o : Seat (List ℕ) View) → x.views ≡ t.me.0 ∷ [] →
      o.me ≡ (other_part n.me.0, []) → y.views ≡ o.me.0 ∷ [] →
      (i : ℕ) → bag (elements y) i ≡ bag (elements x) i
  part-same x y o views other now i =
      let a : bag (elements y) i ≡ bag o.me.0.hand i = ap (λ (vs : List View). bag (hands_of vs) i) now in
      let b : bag o.me.0.hand i ≡ bag (minus n.me.0.hand n.me.0.kept) i = ap (λ (m : Sat). bag m.0.hand i) other in
      let c = bag-minus i n.me.0.hand n.me.0.kept in
      let d : bag n.me.0.kept i ≡ bag [] i = ap (λ (xs : List ℕ). bag xs i) kept-none in
      let e = bag-nil i in
      let f : bag n.me.0.hand i ≡ bag t.me.0.hand i = ap (λ (m : Sat). bag m.0.hand i) noted in
      let h : bag (elements x) i ≡ bag t.me.0.hand i = ap (λ (vs : List View). bag (hands_of vs) i) views in
      omega arith

  -- as little rests with it as with the loans
  pub part-bare : (g : Site) (x : Loans) (p : Seat (List ℕ) View) → AreOf g x → x.views ≡ t.me.0 ∷ [] →
      p.me ≡ (kept_part n.me.0, n.me.1) → IsBare p.me.0.resting
  part-bare g x p of views is =
      subst IsBare (sym (ap (λ (m : Sat). m.0.resting) is ∙ ap (λ (m : Sat). m.0.resting) noted)) (bare-of g x t.me.0 of views)
