-- The links of a new pool, one after another.
use Rattle.std.proofs.Common.{◌≡◌, ℕ, zero, suc, ◌+◌, ◌<◌, ◌≤◌, List, [], ◌∷◌, ◌++◌, length, get_or, take, refl, sym, ap, ◌∙◌, arith}
use Rattle.std.proofs.lemmas.List.{take_more}
use Rattle.step_core.specs.Links.{first_value}
use Rattle.step_core.specs.Opening.{count_up, links_up}
use Rattle.step_core.proofs.OpeningLaw.{length-links_up}

link_inner : (i n j : ℕ) → j + 1 < n → get_or (links_up i n) j 0 ≡ i + j + 2
link_inner i zero j h = absurd (omega arith)
link_inner i (suc zero) j h = absurd (omega arith)
link_inner i (suc (suc n)) zero h = omega arith
link_inner i (suc (suc n)) (suc j) h =
    link_inner (suc i) (suc n) j (omega arith)
    ∙ (let e : suc i + j + 2 ≡ i + suc j + 2 = omega arith in e)

link_last : (i n j : ℕ) → j + 1 ≡ n → get_or (links_up i n) j 0 ≡ 0
link_last i zero j h = absurd (omega arith)
link_last i (suc zero) zero h = refl
link_last i (suc zero) (suc j) h = refl
link_last i (suc (suc n)) zero h = absurd (omega arith)
link_last i (suc (suc n)) (suc j) h = link_last (suc i) (suc n) j (omega arith)

-- one link more
next : (n j link : ℕ) (so_far : List ℕ) → j < n → so_far ≡ take j (links_up 0 n) →
    get_or (links_up 0 n) j 0 ≡ link → so_far ++ link ∷ [] ≡ take (j + 1) (links_up 0 n)
next n j link so_far h is e =
    let l : j < length (links_up 0 n) = (let a = length-links_up 0 n in omega arith) in
    ap (λ (xs : List ℕ). xs ++ link ∷ []) is
    ∙ (ap (λ (x : ℕ). take j (links_up 0 n) ++ x ∷ []) (sym e) ∙ sym (take_more (links_up 0 n) j 0 l))

pub next_inner : (n j : ℕ) (so_far : List ℕ) → j + 1 < n → so_far ≡ take j (links_up 0 n) →
    so_far ++ (j + 2) ∷ [] ≡ take (j + 1) (links_up 0 n)
next_inner n j so_far h is =
    next n j (j + 2) so_far (omega arith) is
    (link_inner 0 n j h ∙ (let e : 0 + j + 2 ≡ j + 2 = omega arith in e))

pub next_last : (n j : ℕ) (so_far : List ℕ) → j < n → n ≤ j + 1 → so_far ≡ take j (links_up 0 n) →
    so_far ++ 0 ∷ [] ≡ take (j + 1) (links_up 0 n)
next_last n j so_far h le is = next n j 0 so_far h is (link_last 0 n j (omega arith))

pub take_whole : {X : Type 0} (xs : List X) (n : ℕ) → length xs ≤ n → take n xs ≡ xs
take_whole [] zero h = refl
take_whole [] (suc n) h = refl
take_whole (x ∷ xs) zero h = absurd (omega arith)
take_whole (x ∷ xs) (suc n) h = ap (λ ys. x ∷ ys) (take_whole xs n (omega arith))

pub top_is : (n : ℕ) → 1 ≤ n → 1 ≡ first_value (count_up 0 n)
top_is zero h = absurd (omega arith)
top_is (suc n) h = refl
