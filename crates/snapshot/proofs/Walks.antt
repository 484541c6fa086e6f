-- Walks along the links of a snapshot.
use Rattle.std.proofs.Common.{ℕ, zero, suc, ◌≡◌, ◌+◌, ◌-◌, ◌<◌, ◌≤◌, nat_lt, true, false, List, [], ◌∷◌, ◌++◌, length, map, refl, sym, ap, ◌∙◌, append_assoc, length-append, inl, inr, arith}
use Rattle.std.specs.Prelude.{All, Contains, slice_index}
use Rattle.std.proofs.lemmas.List.{append-nil, map_push}
use Rattle.std.proofs.lemmas.List.Elements.{All-append, All-cons, All-contains, All-contains_itself, All-head, All-nil, All-tail, Contains-append_right, Contains-append_cases}
use Rattle.std.proofs.lemmas.Bool.Decides.{nat_tests}
use Rattle.snapshot.specs.declared.fault.Fault.{Fault}
use Rattle.snapshot.specs.declared.fault.Fault.TheVariants.{BadTop, Loop}
use Rattle.snapshot.specs.declared.snapshot.Snapshot.{Snapshot}
use Rattle.snapshot.specs.Faults.{IsFault, IsFirstFault, rank, subject}
use Rattle.snapshot.specs.Snapshots.{HasShape, elements_of, walk, words_from, words_met}
use Rattle.snapshot.proofs.FirstFaults.{first_of_kind, clean_shape, clean_words}

-- the words of elements
abbrev pub words_of : List ℕ → List ℕ
words_of elems = map (λ e. suc e) elems

-- below the population, and at most the population
abbrev pub IsBelow : ℕ → ℕ → Type 0
IsBelow population e = e < population

abbrev pub IsWord : ℕ → ℕ → Type 0
IsWord population word = word ≤ population

-- from the top on these elements are met first, and then the word
pub record Walked (s : Snapshot) (elems : List ℕ) (word : ℕ) : Type 0 where
  pub met : words_met s ≡ words_of elems
      ++ words_from (s.limits.population - length elems) s.limits.population s.links word
  pub below : All (IsBelow s.limits.population) elems
  pub few : length elems ≤ s.limits.population

-- a word of the population is met, and then those from its link on
pub words_more : (most population : ℕ) (links : List ℕ) (e : ℕ) → e < population →
    words_from (suc most) population links (suc e) ≡ suc e ∷ words_from most population links (slice_index links e)
words_more most population links e l =
    let yes : nat_lt e population ≡ true = grind (arith, nat_tests) in
    rw yes refl

-- a word above the population is the last
words_over : (most population : ℕ) (links : List ℕ) (e : ℕ) → population ≤ e →
    words_from most population links (suc e) ≡ suc e ∷ []
words_over zero population links e l = refl
words_over (suc most) population links e l =
    let no : nat_lt e population ≡ false = grind (arith, nat_tests) in
    rw no refl

-- the elements that words name
pub elements_after : (population : ℕ) (elems words : List ℕ) → All (IsBelow population) elems →
    elements_of population (words_of elems ++ words) ≡ elems ++ elements_of population words
elements_after population [] words h = refl
elements_after population (e ∷ elems) words h =
    let l : e < population = All-head (IsBelow population) e elems h in
    let yes : nat_lt e population ≡ true = grind (arith, nat_tests) in
    rw yes (ap (λ (xs : List ℕ). e ∷ xs)
    (elements_after population elems words (All-tail (IsBelow population) e elems h)))

-- one more element
pub walked_more : (s : Snapshot) (elems : List ℕ) (word : ℕ) → Walked s elems word → 0 < word →
    word ≤ s.limits.population →
    length elems < s.limits.population → Walked s (elems ++ (word - 1) ∷ []) (slice_index s.links (word - 1))
walked_more s elems zero w some fits l = absurd (omega arith)
walked_more s elems (suc e) w some fits l =
    let population = s.limits.population in
    let less : suc e - 1 ≡ e = omega arith in
    let long : length (elems ++ e ∷ []) ≡ length elems + 1 = length-append elems (e ∷ []) ∙ omega arith in
    let most : population - length elems ≡ suc (population - length (elems ++ e ∷ [])) = omega arith in
    let within : e < population = omega arith in
    let rest = words_from (population - length (elems ++ e ∷ [])) population s.links (slice_index s.links e) in
    let pushed : words_of (elems ++ e ∷ []) ++ rest ≡ words_of elems ++ suc e ∷ rest =
    ap (λ (ws : List ℕ). ws ++ rest) (map_push (λ (e : ℕ). suc e) elems e)
    ∙ append_assoc (words_of elems) (suc e ∷ []) rest in
    let step : words_from (population - length elems) population s.links (suc e) ≡ suc e ∷ rest =
    rw most (words_more (population - length (elems ++ e ∷ [])) population s.links e within) in
    rw less (record {
      met = w.met ∙ ap (λ (ws : List ℕ). words_of elems ++ ws) step ∙ sym pushed;
      below = All-append (IsBelow population) elems (e ∷ []) w.below
          (All-cons (IsBelow population) e [] within (All-nil (IsBelow population)));
      few = omega arith;
    })

-- the words of elements below the population
pub words_fit : (population : ℕ) (elems : List ℕ) → All (IsBelow population) elems →
    All (IsWord population) (words_of elems)
words_fit population [] h = All-nil (IsWord population)
words_fit population (e ∷ elems) h =
    let l : e < population = All-head (IsBelow population) e elems h in
    All-cons (IsWord population) (suc e) (words_of elems) (omega arith)
    (words_fit population elems (All-tail (IsBelow population) e elems h))

-- what is met where the words end
pub walked_walk : (s : Snapshot) (elems : List ℕ) → Walked s elems 0 → elems ≡ walk s
walked_walk s elems w =
    sym (ap (λ (ws : List ℕ). elements_of s.limits.population ws) w.met
    ∙ elements_after s.limits.population elems (0 ∷ []) w.below ∙ append-nil elems)

-- elements and one word more that is none above the population
pub words_and : (s : Snapshot) (elems : List ℕ) (word : ℕ) →
    All (IsBelow s.limits.population) elems → word ≤ s.limits.population →
    words_met s ≡ words_of elems ++ word ∷ [] → All (λ word. word ≤ s.limits.population) (words_met s)
words_and s elems word below fits met =
    let population = s.limits.population in
    rw met (All-append (IsWord population) (words_of elems) (word ∷ []) (words_fit population elems below)
    (All-cons (IsWord population) word [] fits (All-nil (IsWord population))))

-- no word that is met is above the population
pub walked_words : (s : Snapshot) (elems : List ℕ) → Walked s elems 0 →
    All (λ word. word ≤ s.limits.population) (words_met s)
walked_words s elems w = words_and s elems 0 w.below (omega arith) w.met

-- the walk has at most as many elements as the pool
pub walked_ends : (s : Snapshot) (elems : List ℕ) → Walked s elems 0 → length (walk s) ≤ s.limits.population
walked_ends s elems w = omega (arith, ap length (walked_walk s elems w), w.few)

-- a list has its element
pub has_one : (word : ℕ) → Contains (word ∷ []) word
has_one word = All-head (Contains (word ∷ [])) word [] (All-contains_itself (word ∷ []))

-- and no other
one_only : (word v : ℕ) → Contains (word ∷ []) v → v ≡ word
one_only word v h = All-contains (λ (v : ℕ). v ≡ word) (word ∷ []) v
    (All-cons (λ (v : ℕ). v ≡ word) word [] refl (All-nil (λ (v : ℕ). v ≡ word))) h

-- the only word above the population
pub over_only : (population : ℕ) (elems : List ℕ) (word v : ℕ) → All (IsBelow population) elems → population < v →
    Contains (words_of elems ++ word ∷ []) v → v ≡ word
over_only population elems word v below over h =
    elim (Contains-append_cases (words_of elems) (word ∷ []) v h) as (λ _. v ≡ word) [
      | inl there ↦
          let fits : v ≤ population =
          All-contains (IsWord population) (words_of elems) v (words_fit population elems below)
          there in
          absurd (omega arith)
      | inr there ↦ one_only word v there
    ]

-- what is met where the word is above the population
pub met_over : (s : Snapshot) (elems : List ℕ) (word : ℕ) → Walked s elems word → s.limits.population < word →
    words_met s ≡ words_of elems ++ word ∷ []
met_over s elems zero w over = absurd (omega arith)
met_over s elems (suc e) w over =
    w.met ∙ ap (λ (ws : List ℕ). words_of elems ++ ws) (words_over
    (s.limits.population - length elems) s.limits.population s.links e (omega arith))

-- a bad top of the same kind is the same
same_top : (s : Snapshot) (word : ℕ) → ((v : ℕ) → s.limits.population < v → Contains (words_met s) v → v ≡ word) →
    (g : Fault) → IsFault s g → rank g ≡ 1 → word ≤ subject g
same_top s word only (BadTop v) has e = let same : v ≡ word = only v has.1 has.0 in omega arith
same_top s word only g has e = absurd (omega arith)

-- a word above the population that is met is the first fault
pub walked_over : (s : Snapshot) (elems : List ℕ) (word : ℕ) → HasShape s → Walked s elems word →
    s.limits.population < word →
    IsFirstFault s (BadTop word)
walked_over s elems word shape w over =
    let met = met_over s elems word w over in
    let has : Contains (words_met s) word =
    rw met (Contains-append_right (words_of elems) (word ∷ []) word (has_one word)) in
    first_of_kind s (BadTop word) (has, over) (clean_shape s shape)
    (same_top s word (λ v more there. over_only s.limits.population elems word v w.below more (rw met at there)))

-- what is met where there are as many elements as the pool has, and the word names one more
pub met_full : (s : Snapshot) (elems : List ℕ) (e : ℕ) → Walked s elems (suc e) → length elems ≡ s.limits.population →
    words_met s ≡ words_of elems ++ suc e ∷ []
met_full s elems e w full =
    let none : s.limits.population - length elems ≡ 0 = omega arith in
    w.met ∙ rw none refl

-- a walk of more elements than the pool has is the first fault
pub walked_full : (s : Snapshot) (elems : List ℕ) (word : ℕ) → HasShape s → Walked s elems word →
    0 < word → word ≤ s.limits.population →
    length elems ≡ s.limits.population → IsFirstFault s Loop
walked_full s elems zero shape w some fits full = absurd (omega arith)
walked_full s elems (suc e) shape w some fits full =
    let population = s.limits.population in
    let met = met_full s elems e w full in
    let within : e < population = omega arith in
    let yes : nat_lt e population ≡ true = grind (arith, nat_tests) in
    let last : elements_of population (suc e ∷ []) ≡ e ∷ [] = rw yes refl in
    let is : walk s ≡ elems ++ e ∷ [] =
    ap (λ (ws : List ℕ). elements_of population ws) met ∙ elements_after population elems (suc e ∷ []) w.below
    ∙ ap (λ (xs : List ℕ). elems ++ xs) last in
    let long : population < length (walk s) = omega (arith, ap length is, length-append elems (e ∷ [])) in
    first_of_kind s Loop long (clean_words s shape (words_and s elems (suc e) w.below fits met))
    (λ g has same. omega arith)
