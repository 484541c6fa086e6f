-- Why a walk has no end in the pool.
use Rattle.std.proofs.Common.{ℕ, zero, suc, ◌≡◌, ◌<◌, ◌≤◌, nat_lt, true, false, List, [], ◌∷◌, ◌++◌, length, refl, ap, ◌∙◌, length-append, arith}
use Rattle.std.specs.Prelude.{All, Contains}
use Rattle.std.proofs.lemmas.List.{append-nil}
use Rattle.std.proofs.lemmas.List.Elements.{All-contains, Contains-append_right}
use Rattle.std.proofs.lemmas.Bool.Decides.{nat_tests}
use Rattle.snapshot.specs.declared.fault.Fault.{Fault}
use Rattle.snapshot.specs.declared.fault.Fault.TheVariants.{BadTop, Loop}
use Rattle.snapshot.specs.declared.snapshot.Snapshot.{Snapshot}
use Rattle.snapshot.specs.Faults.{IsFault, rank}
use Rattle.snapshot.specs.Snapshots.{elements_of, walk, words_met}
use Rattle.snapshot.specs.inside.Breaks.{IsBreak}
use Rattle.snapshot.proofs.Walks.{Walked, elements_after, has_one, met_full, met_over, over_only, words_and, words_of}

-- a word above the population names no element
none-over : (population word : ℕ) → population < word → elements_of population (word ∷ []) ≡ []
none-over population zero over = absurd (omega arith)
none-over population (suc e) over =
    let no : nat_lt e population ≡ false = grind (arith, nat_tests) in
    rw no refl

-- so the walk up to it has at most as many elements as the pool
few-over : (s : Snapshot) (elems : List ℕ) (word : ℕ) → Walked s elems word → s.limits.population < word →
    length (walk s) ≤ s.limits.population
few-over s elems word w over =
    let population = s.limits.population in
    let is : walk s ≡ elems =
    ap (λ (ws : List ℕ). elements_of population ws) (met_over s elems word w over)
    ∙ elements_after population elems (word ∷ []) w.below
    ∙ ap (λ (xs : List ℕ). elems ++ xs) (none-over population word over) ∙ append-nil elems in
    omega (arith, ap length is, w.few)

-- it is the only word above the population, and there is no loop
alone-over : (s : Snapshot) (elems : List ℕ) (word : ℕ) → Walked s elems word → s.limits.population < word → (g : Fault) →
    IsFault s g → 1 ≤ rank g → rank g ≤ 2 → g ≡ BadTop word
alone-over s elems word w over (BadTop v) is low high =
    let there = rw (met_over s elems word w over) at is.0 in
    ap (λ (n : ℕ). BadTop n) (over_only s.limits.population elems word v w.below is.1 there)
alone-over s elems word w over Loop is low high = absurd (omega (arith, is, few-over s elems word w over))
alone-over s elems word w over g is low high = absurd (omega arith)

-- the walk has no end at a word above the population
pub broken-over : (s : Snapshot) (elems : List ℕ) (word : ℕ) → Walked s elems word → s.limits.population < word →
    IsBreak s (BadTop word)
broken-over s elems word w over =
    let met = met_over s elems word w over in
    let has : Contains (words_met s) word =
    rw met (Contains-append_right (words_of elems) (word ∷ []) word (has_one word)) in
    record {
      is = (has, over);
      low = omega arith;
      high = omega arith;
      alone = alone-over s elems word w over;
      endless =
          λ ends. let fits : word ≤ s.limits.population =
          All-contains (λ v. v ≤ s.limits.population) (words_met s) word ends.words has in
          absurd (omega (arith, fits, over));
    }

-- where it has more elements than the pool, no word is above the population
alone-full : (s : Snapshot) → All (λ word. word ≤ s.limits.population) (words_met s) → (g : Fault) → IsFault s g →
    1 ≤ rank g → rank g ≤ 2 → g ≡ Loop
alone-full s words (BadTop v) is low high =
    let fits : v ≤ s.limits.population = All-contains (λ word. word ≤ s.limits.population) (words_met s) v words is.0 in
    absurd (omega (arith, fits, is.1))
alone-full s words Loop is low high = refl
alone-full s words g is low high = absurd (omega arith)

-- and it has no end once it has one element more than the pool
pub broken-full : (s : Snapshot) (elems : List ℕ) (word : ℕ) → Walked s elems word → 0 < word →
    word ≤ s.limits.population → length elems ≡ s.limits.population → IsBreak s Loop
broken-full s elems zero w some fits full = absurd (omega arith)
broken-full s elems (suc e) w some fits full =
    let population = s.limits.population in
    let met = met_full s elems e w full in
    let within : e < population = omega arith in
    let yes : nat_lt e population ≡ true = grind (arith, nat_tests) in
    let last : elements_of population (suc e ∷ []) ≡ e ∷ [] = rw yes refl in
    let is : walk s ≡ elems ++ e ∷ [] =
    ap (λ (ws : List ℕ). elements_of population ws) met ∙ elements_after population elems (suc e ∷ []) w.below
    ∙ ap (λ (xs : List ℕ). elems ++ xs) last in
    let long : population < length (walk s) = omega (arith, ap length is, length-append elems (e ∷ [])) in
    record {
      is = long;
      low = omega arith;
      high = omega arith;
      alone = alone-full s (words_and s elems (suc e) w.below fits met);
      endless = λ ends. absurd (omega (arith, long, ends.ends));
    }
