-- Sums over the workers of lists: of what is in hands, of holds and of headers.
use Rattle.std.proofs.Common.{ℕ, zero, suc, ◌≡◌, ◌≢◌, ◌+◌, ◌<◌, ◌≤◌, ◌==◌, cond, inl, inr, List, [], ◌∷◌, length, get_or, Option, Some, None, refl, ◌∙◌, arith}
use Rattle.std.specs.Prelude.{sum_by}
use Rattle.std.proofs.lemmas.Bool.{cases_lt}
use Rattle.std.proofs.lemmas.Bool.Decides.{nat_tests}
use Rattle.std.proofs.lemmas.List.Sums.{sum_by-cons}
use Rattle.commons.specs.declared.place.Place.{Place}
use Rattle.commons.specs.declared.place.Place.TheVariants.{Common, Hand, Held}
use Rattle.commons.specs.Lists.{in_hand, is_owner, owners, weight}

module _ {X : Type 0} (f : X → ℕ) (d : X) where
  -- a sum of nothing
  pub none_summed : (xs : List X) → ((k : ℕ) → k < length xs → f (get_or xs k d) ≡ 0) → sum_by f xs ≡ 0
  none_summed [] h = refl
  none_summed (x ∷ xs) h =
      let first : f x ≡ 0 = h 0 (omega arith) in
      let rest = none_summed xs (λ k l. h (suc k) (omega arith)) in
      omega (arith, sum_by-cons f x xs)

  -- a sum to which one alone adds anything
  pub one_summed : (xs : List X) (at : ℕ) → at < length xs →
      ((k : ℕ) → k < length xs → k ≢ at → f (get_or xs k d) ≡ 0) → sum_by f xs ≡ f (get_or xs at d)
  one_summed [] at l h = absurd (omega arith)
  one_summed (x ∷ xs) zero l h =
      let rest = none_summed xs (λ k m. h (suc k) (omega arith) (λ e. absurd (omega (arith, e)))) in
      omega (arith, sum_by-cons f x xs, rest)
  one_summed (x ∷ xs) (suc at) l h =
      let first : f x ≡ 0 = h 0 (omega arith) (λ e. absurd (omega (arith, e))) in
      let rest = one_summed xs at (omega arith) (λ k m n. h (suc k) (omega arith) (λ e. n (omega (arith, e)))) in
      omega (arith, sum_by-cons f x xs, first, rest)

-- two sums of which no term of the one is above the other's
pub sum_at_most : {X : Type 0} (f g : X → ℕ) (d : X) (xs : List X) →
    ((k : ℕ) → k < length xs → f (get_or xs k d) ≤ g (get_or xs k d)) → sum_by f xs ≤ sum_by g xs
sum_at_most f g d [] h = omega arith
sum_at_most f g d (x ∷ xs) h =
    let first : f x ≤ g x = h 0 (omega arith) in
    let rest = sum_at_most f g d xs (λ k l. h (suc k) (omega arith)) in
    omega (arith, sum_by-cons f x xs, sum_by-cons g x xs)

-- ---- hands

-- how often an element with this place is in some worker's hand
abbrev pub in_hands : Place → ℕ
in_hands Common = 0
in_hands (Hand v) = 1
in_hands (Held n) = 0

flag_same : (a b : ℕ) → a ≡ b → ◌≡◌ {A = ℕ} (cond (a == b) 1 0) 1
flag_same a b e = grind (arith, nat_tests)

flag_apart : (a b : ℕ) → a ≢ b → ◌≡◌ {A = ℕ} (cond (a == b) 1 0) 0
flag_apart a b e = grind (arith, nat_tests)

-- where each worker has in its hand what the place says, all together have it once or not at all
pub hands_summed : {X : Type 0} (f : X → ℕ) (d : X) (xs : List X) (p : Place) → 0 < weight (length xs) p →
    ((k : ℕ) → k < length xs → f (get_or xs k d) ≡ in_hand (k + 1) p) → sum_by f xs ≡ in_hands p
hands_summed f d xs Common w h = none_summed f d xs h
hands_summed f d xs (Held n) w h = none_summed f d xs h
hands_summed f d xs (Hand zero) w h = absurd (omega (arith, w))
hands_summed f d xs (Hand (suc v)) w h =
    let here : v < length xs = omega (arith, w) in
    one_summed f d xs v here (λ k l n. h k l ∙ flag_apart (suc v) (k + 1) (λ e. n (omega (arith, e))))
    ∙ h v here ∙ flag_same (suc v) (v + 1) (omega arith)

-- nothing is in a hand that has no place there
pub no_hands : {X : Type 0} (f : X → ℕ) (d : X) (xs : List X) →
    ((k : ℕ) → k < length xs → f (get_or xs k d) ≡ in_hand (k + 1) (Held 0)) → sum_by f xs ≡ 0
no_hands f d xs h = none_summed f d xs h

-- ---- headers

-- where no worker has more than is its header, all together have no more than it is a header
pub headers_summed : {X : Type 0} (f : X → ℕ) (d : X) (xs : List X) (o : Option ℕ) →
    ((k : ℕ) → k < length xs → f (get_or xs k d) ≤ is_owner (k + 1) o) → sum_by f xs ≤ owners o
headers_summed f d xs None h =
    let none = none_summed f d xs (λ k l. omega (arith, h k l)) in
    omega (arith, none)
headers_summed f d xs (Some zero) h =
    let none = none_summed f d xs (λ k l. omega (arith, h k l, flag_apart 0 (k + 1) (λ e. absurd (omega (arith, e))))) in
    omega (arith, none)
headers_summed f d xs (Some (suc v)) h = elim (cases_lt v (length xs)) [
  | inl here ↦
      let one =
      one_summed f d xs v here
      (λ k l n. omega (arith, h k l, flag_apart (suc v) (k + 1) (λ e. n (omega (arith, e))))) in
      omega (arith, one, h v here, flag_same (suc v) (v + 1) (omega arith))
  | inr past ↦
      let none =
      none_summed f d xs
      (λ k l. omega (arith, h k l, flag_apart (suc v) (k + 1) (λ e. absurd (omega (arith, e, past, l))))) in
      omega (arith, none)
]
