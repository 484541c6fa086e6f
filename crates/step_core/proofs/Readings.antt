-- The law in other words.
use Rattle.std.proofs.Common.{◌≡◌, ℕ, zero, suc, ◌+◌, ◌<◌, ◌≤◌, ◌≢◌, min, List, [], ◌∷◌, ◌++◌, Some, length, refl, sym, ◌∙◌, arith, ⊎_elim}
use Rattle.std.specs.Prelude.{sum_by, slice_index, ◌==◌}
use Rattle.std.proofs.lemmas.Bool.{cases_lt}
use Rattle.std.proofs.lemmas.List.Sums.{sum_by-cons}
use Rattle.commons.specs.Bag.{bag}
use Rattle.step_core.specs.Bags.{one_if, below, IsDistinct}
use Rattle.step_core.specs.World.{Look, Chain, View, World, view_at, link_in, hands, all_zeros, all_holds, credits}
use Rattle.step_core.specs.Links.{Spells}
use Rattle.step_core.proofs.Rules.{StackLaw, HoldLaw}
use Rattle.step_core.proofs.Bags.{times-nil, times-cons, times-head, below-at, below-past, one_if-cases}
use Rattle.step_core.proofs.Paths.{path_front, path_from}
use Rattle.step_core.proofs.StackSteps.{look_of, chain_of, only_here}
use Rattle.step_core.proofs.Counts.{in_hand}

-- the sum of f over the numbers below n
abbrev pub total : ℕ → (ℕ → ℕ) → ℕ
total zero f = 0
total (suc n) f = total n f + f n

pub total_add : (n : ℕ) (f g : ℕ → ℕ) → total n (λ i. f i + g i) ≡ total n f + total n g
total_add zero f g = refl
total_add (suc n) f g = let m = total_add n f g in omega arith

pub total_same : (n : ℕ) (f g : ℕ → ℕ) → ((i : ℕ) → i < n → f i ≡ g i) → total n f ≡ total n g
total_same zero f g h = refl
total_same (suc n) f g h =
    let m = total_same n f g (λ i l. h i (omega arith)) in let e = h n (omega arith) in omega arith

total_one : (n : ℕ) → total n (λ i. 1) ≡ n
total_one zero = refl
total_one (suc n) = let m = total_one n in omega arith

total_none : (n : ℕ) → total n (λ i. 0) ≡ 0
total_none zero = refl
total_none (suc n) = let m = total_none n in omega arith

total_hit : (n x : ℕ) → total n (λ i. bag (x ∷ []) i) ≡ below n x
total_hit zero x = sym (below-past 0 x (omega arith))
total_hit (suc n) x = let m = total_hit n x in ⊎_elim
    (λ (s : (x ≡ n) × (one_if (x == n) ≡ 1)). let e =
    s.0 in let t =
    s.1 in omega (
      arith,
      times-cons n x [],
      times-nil n,
      below-past n x (omega arith),
      below-at (suc n) x (omega arith),
    ))
    (λ (s : (x ≢ n) × (one_if (x == n) ≡ 0)). let e = s.0 in let t = s.1 in ⊎_elim
    (λ (l : x < n). omega (arith, times-cons n x [], times-nil n, below-at n x l, below-at (suc n) x (omega arith)))
    (λ (l : n ≤ x). omega (arith, times-cons n x [], times-nil n, below-past n x l, below-past (suc n) x (omega arith)))
    (cases_lt x n))
    (one_if-cases x n)

-- a list of numbers below n, counted one number after another
pub total_times : (n : ℕ) (xs : List ℕ) → ((x : ℕ) → n ≤ x → bag xs x ≡ 0) → total n (λ i. bag xs i) ≡ length xs
total_times n [] h = total_same n _ _ (λ i l. times-nil i) ∙ total_none n
total_times n (x ∷ xs) h =
    let inside : x < n =
    ⊎_elim (λ (l : x < n). l)
    (λ (l : n ≤ x). absurd (let e = h x l in omega (arith, times-head x xs))) (cases_lt x n)
    in
    let rest = total_times n xs (λ y l. let e = h y l in omega (arith, times-cons y x xs)) in
    let split =
    total_same n (λ i. bag (x ∷ xs) i) (λ i. bag (x ∷ []) i + bag xs i)
    (λ i l. omega (arith, times-cons i x xs, times-cons i x [], times-nil i)) in
    let sum = total_add n (λ i. bag (x ∷ []) i) (λ i. bag xs i) in
    omega (arith, total_hit n x, below-at n x inside)

-- how often each number stands in the lists of all views is how long they are together
pub total_views : (f : View → List ℕ) (n : ℕ) (views : List View) →
    ((x : ℕ) → n ≤ x → sum_by (λ v. bag (f v) x) views ≡ 0) →
    total n (λ i. sum_by (λ v. bag (f v) i) views) ≡ sum_by (λ v. length (f v)) views
total_views f n [] h = total_none n
total_views f n (v ∷ vs) h =
    let one = total_times n (f v) (λ x l. let e = h x l in omega (arith, sum_by-cons (λ v. bag (f v) x) v vs)) in
    let rest = total_views f n vs (λ x l. let e = h x l in omega (arith, sum_by-cons (λ v. bag (f v) x) v vs)) in
    let split =
    total_same n (λ i. sum_by (λ v. bag (f v) i) (v ∷ vs))
    (λ i. bag (f v) i + sum_by (λ v. bag (f v) i) vs)
    (λ i l. sum_by-cons (λ v. bag (f v) i) v vs) in
    let sum = total_add n (λ i. bag (f v) i) (λ i. sum_by (λ v. bag (f v) i) vs) in
    omega (arith, sum_by-cons (λ v. length (f v)) v vs)

-- available and in use are all: the common list, the hands and the held elements make up the
-- population
pub population_is : (w : World) (law : StackLaw w) →
    length law.common + sum_by (λ v. length v.hand) w.views + sum_by (λ v. length v.zeros) w.views
    + total w.limits.population (λ i. min 1 (all_holds i w.views w.desks)) ≡ w.limits.population
population_is w law =
    let n = w.limits.population in
    let past : (x : ℕ) → n ≤ x → below n x ≡ 0 = below-past n in
    let a = total_times n law.common (λ x l. let p = law.one_place x in let q = past x l in omega arith) in
    let b = total_views (λ v. v.hand) n w.views (λ x l. let p = law.one_place x in let q = past x l in omega arith) in
    let c = total_views (λ v. v.zeros) n w.views (λ x l. let p = law.one_place x in let q = past x l in omega arith) in
    let f = λ (i : ℕ). bag law.common i in
    let g = λ (i : ℕ). hands i w.views in
    let h = λ (i : ℕ). all_zeros i w.views in
    let k = λ (i : ℕ). min 1 (all_holds i w.views w.desks) in
    let all =
    total_same n (λ i. f i + g i + h i + k i) (λ i. 1)
    (λ i l. let p = law.one_place i in omega (arith, below-at n i l)) in
    let s1 = total_add n (λ i. f i + g i + h i) k in
    let s2 = total_add n (λ i. f i + g i) h in
    let s3 = total_add n f g in
    omega (arith, total_one n)

-- the length word never passes the population, also with a credit given back
pub length_within : (w : World) (law : StackLaw w) → w.length + credits w.views ≤ w.limits.population
length_within w law = let p = population_is w law in let q = law.credited in omega arith

module _ (w : World) (k : ℕ) (law : StackLaw w) (here : k < length w.views) (busy : 0 < (view_at w.views k).part) where
  -- while the count of a look stands, its front begins the common list, and its next spells the
  -- rest
  pub look_splits : (l : Look) → (view_at w.views k).look ≡ Some l → l.head.count ≡ w.head.count →
      (zs : List ℕ) × (law.common ≡ l.front ++ zs) × Spells (link_in w.links) l.next zs
  look_splits l e same =
      let m = look_of w k law here busy l e in
      path_front (link_in w.links) w.head.top l.front law.common l.next
      (path_from _ _ _ _ _ (m.same_top same) (m.walked same)) law.spelled

  -- an exchange that lost found a head of a greater count
  pub lost_is_later : (l : Look) → (view_at w.views k).look ≡ Some l →
      ((w.head.top ≡ l.head.top) × (w.head.count ≡ l.head.count) → ⊥) → l.head.count < w.head.count
  lost_is_later l e ne =
      let m = look_of w k law here busy l e in
      let a = m.not_ahead in
      ⊎_elim (λ (c : l.head.count < w.head.count). c)
      (λ (c : w.head.count ≤ l.head.count). let eq : l.head.count ≡ w.head.count =
      omega arith in absurd (ne (sym (m.same_top eq), sym eq)))
      (cases_lt l.head.count w.head.count)

  -- a chain has no repeats
  pub chain_distinct : (c : Chain) → (view_at w.views k).chain ≡ Some c → IsDistinct c.items
  chain_distinct c e x = let d = (chain_of w k law here busy c e).in_hand x in ⊎_elim
      (λ (h : 0 < bag (view_at w.views k).hand x). let o = (only_here w k law x h).1 in omega arith)
      (λ (h : bag (view_at w.views k).hand x ≤ 0). omega arith)
      (cases_lt 0 (bag (view_at w.views k).hand x))

  -- an element of the hand has count 1
  pub hand_count : HoldLaw w → (i : ℕ) → 0 < bag (view_at w.views k).hand i → slice_index w.counts i ≡ 1
  hand_count counts i h =
      let at = in_hand w k here busy law counts i h in
      let z = at.2 in
      let o = at.3 in
      let c = counts.counted i at.4 in
      omega arith
