-- A lawful world shows a table.
use Rattle.std.proofs.Common.{◌≡◌, ℕ, zero, suc, ◌+◌, ◌<◌, ◌≤◌, ◌≢◌, ◌⊎◌, List, [], ◌∷◌, ◌++◌, length, get_or, replicate, refl, sym, ap, ◌∙◌, arith, inl, inr, ⊎_elim}
use Rattle.std.specs.Prelude.{sum_by}
use Rattle.std.proofs.lemmas.Bool.{cases_eq, cases_lt}
use Rattle.std.proofs.lemmas.List.{append-nil, length-append, length-replicate}
use Rattle.std.proofs.lemmas.List.Sums.{sum_by-cons}
use Rattle.commons.specs.Bag.{bag}
use Rattle.step_core.specs.World.{View, Desk, World, empty_view, view_at, view_of, no_desk, desk_at, shelf, all_holds}
use Rattle.step_core.specs.Links.{Spells}
use Rattle.step_core.specs.Table.{Place, Common, Hand, Held, Table, Same}
use Rattle.step_core.specs.Shows.{Standing, standing, Stands, OnePlace, ShowsTable}
use Rattle.step_core.proofs.Rules.{StackLaw}
use Rattle.step_core.proofs.Bags.{times-nil, times-append, times-head, times-other, below-le, below-at}
use Rattle.step_core.proofs.Paths.{path_front}
use Rattle.step_core.proofs.StackSteps.{one_worker, two_workers}

-- a value spells one list
pub spells_same : (f : ℕ → ℕ) (v : ℕ) (xs ys : List ℕ) → Spells f v xs → Spells f v ys → xs ≡ ys
spells_same f v xs ys p q = let rest = path_front f v xs ys 0 p q in whole rest.0 rest.1 rest.2
  where
    whole : (zs : List ℕ) → ys ≡ xs ++ zs → Spells f 0 zs → xs ≡ ys
    whole [] e s = sym (e ∙ append-nil xs)
    whole (z ∷ zs) e s = absurd (let h = s.0 in omega arith)

pub one_desk : (f : Desk → ℕ) (desks : List Desk) (d : ℕ) → f no_desk ≡ 0 → f (desk_at desks d) ≤ sum_by f desks
one_desk f [] k e = omega arith
one_desk f (x ∷ xs) zero e = let g : f x ≤ sum_by f (x ∷ xs) = omega (arith, sum_by-cons f x xs) in g
one_desk f (x ∷ xs) (suc k) e =
    let h = one_desk f xs k e in
    let g : f (desk_at xs k) ≤ sum_by f (x ∷ xs) = omega (arith, sum_by-cons f x xs) in
    g

-- the sum over all places, as no two of them
pub one_place : (w : World) (law : StackLaw w) (i : ℕ) → OnePlace (standing w law.common i)
one_place w law i =
    let p = law.one_place i in let b = below-le w.limits.population i in
    let h = λ (k : ℕ). one_worker (λ (v : View). bag v.hand i) w.views k (times-nil i) in
    let z = λ (k : ℕ). one_worker (λ (v : View). bag v.zeros i) w.views k (times-nil i) in
    let o = λ (k : ℕ). one_worker (λ (v : View). bag v.holds i) w.views k (times-nil i) in
    let s = λ (d : ℕ). one_desk (λ (x : Desk). bag (shelf x) i) w.desks d (times-nil i) in
    record {
      common_once = omega arith;
      hand_once = λ k. (let a = h k in let c = z k in omega arith);
      one_hand = λ j k m n. ⊎_elim (λ (e : j ≡ k). e)
          (λ (e : j ≢ k).
          let a = two_workers (λ (v : View). bag v.hand i) w.views j k (times-nil i) e in
          let c = two_workers (λ (v : View). bag v.zeros i) w.views j k (times-nil i) e in
          absurd (omega arith))
          (cases_eq j k);
      common_alone =
          λ m k.
          (
          let a = h k in
          let c = z k in
          let d = o k in
          let e = s k in
          (omega arith, omega arith, omega arith));
      hand_alone = λ k m j. (let a = h k in let c = z k in let d = o j in let e = s j in (omega arith, omega arith));
    }

-- an element of a bag that is not empty
pub some_member : (xs : List ℕ) → 0 < length xs → (x : ℕ) × (0 < bag xs x)
some_member [] h = absurd (omega arith)
some_member (x ∷ xs) h = (x, omega (arith, times-head x xs))

-- somebody holds it
pub held_by : (s : Standing) (ws ds : List ℕ) → Stands s (Held ws ds) →
    ((k : ℕ) × (0 < s.holder k)) ⊎ ((d : ℕ) × (0 < s.desk d))
held_by s [] ds h =
    let m = some_member ds (omega (arith, h.0)) in
    inr (m.0, (let a = m.1 in let b = h.2 m.0 in omega arith))
held_by s (x ∷ ws) ds h = inl (x, (let b = h.1 x in omega (arith, times-head x ws)))

module _ (s : Standing) (one : OnePlace s) where
  -- a place, by one of the numbers
  pub is_common : (p : Place) → 0 < s.common → Stands s p → p ≡ Common
  is_common Common c h = refl
  is_common (Hand k) c h = absurd (let a = (one.common_alone c k).0 in omega arith)
  is_common (Held ws ds) c h = absurd (⊎_elim
      (λ (m : (k : ℕ) × (0 < s.holder k)). let a = (one.common_alone c m.0).1 in let b = m.1 in omega arith)
      (λ (m : (d : ℕ) × (0 < s.desk d)). let a = (one.common_alone c m.0).2 in let b = m.1 in omega arith)
      (held_by s ws ds h))

  pub is_in_hand : (p : Place) (k : ℕ) → 0 < s.hand k → Stands s p → p ≡ Hand k
  is_in_hand Common k c h = absurd (let a = (one.common_alone h k).0 in omega arith)
  is_in_hand (Hand j) k c h = ap Hand (one.one_hand j k h c)
  is_in_hand (Held ws ds) k c h = absurd (⊎_elim
      (λ (m : (k : ℕ) × (0 < s.holder k)). let a = (one.hand_alone k c m.0).0 in let b = m.1 in omega arith)
      (λ (m : (d : ℕ) × (0 < s.desk d)). let a = (one.hand_alone k c m.0).1 in let b = m.1 in omega arith)
      (held_by s ws ds h))

  -- two standings with the same numbers stand in the same place
  pub same_place : (r : Standing) (other : OnePlace r) → s.common ≡ r.common →
      ((k : ℕ) → s.hand k ≡ r.hand k) → ((k : ℕ) → s.holder k ≡ r.holder k) →
      ((d : ℕ) → s.desk d ≡ r.desk d) → (p q : Place) → Stands s p → Stands r q → Same p q
  same_place r other c h o d Common Common a b = tt
  same_place r other c h o d (Hand j) (Hand k) a b = one.one_hand j k a (let e = h k in omega arith)
  same_place r other c h o d (Held ws ds) (Held vs es) a b =
      ((λ x. a.1 x ∙ (o x ∙ sym (b.1 x))), (λ x. a.2 x ∙ (d x ∙ sym (b.2 x))))
  same_place r other c h o d Common (Hand k) a b =
      absurd (let e = (one.common_alone a k).0 in let f = h k in omega arith)
  same_place r other c h o d Common (Held ws ds) a b = absurd (⊎_elim
      (λ (m : (k : ℕ) × (0 < r.holder k)). let e =
      (one.common_alone a m.0).1 in let f = o m.0 in let g = m.1 in omega arith)
      (λ (m : (d : ℕ) × (0 < r.desk d)). let e =
      (one.common_alone a m.0).2 in let f = d m.0 in let g = m.1 in omega arith)
      (held_by r ws ds b))
  same_place r other c h o d (Hand j) Common a b =
      absurd (let e = (one.common_alone (let x = c in omega arith) j).0 in omega arith)
  same_place r other c h o d (Hand j) (Held ws ds) a b = absurd (⊎_elim
      (λ (m : (k : ℕ) × (0 < r.holder k)). let e =
      (one.hand_alone j a m.0).0 in let f = o m.0 in let g = m.1 in omega arith)
      (λ (m : (d : ℕ) × (0 < r.desk d)). let e =
      (one.hand_alone j a m.0).1 in let f = d m.0 in let g = m.1 in omega arith)
      (held_by r ws ds b))
  same_place r other c h o d (Held ws ds) Common a b = absurd (⊎_elim
      (λ (m : (k : ℕ) × (0 < s.holder k)). let e =
      (one.common_alone (let x = c in omega arith) m.0).1 in let g = m.1 in omega arith)
      (λ (m : (d : ℕ) × (0 < s.desk d)). let e =
      (one.common_alone (let x = c in omega arith) m.0).2 in let g = m.1 in omega arith)
      (held_by s ws ds a))
  same_place r other c h o d (Held ws ds) (Hand k) a b = absurd (⊎_elim
      (λ (m : (k : ℕ) × (0 < s.holder k)). let e =
      (one.hand_alone k (let f = h k in omega arith) m.0).0 in let g = m.1 in omega arith)
      (λ (m : (d : ℕ) × (0 < s.desk d)). let e =
      (one.hand_alone k (let f = h k in omega arith) m.0).1 in let g = m.1 in omega arith)
      (held_by s ws ds a))

-- a table that a lawful world shows
some_view : (f : View → ℕ) (views : List View) → 0 < sum_by f views → (k : ℕ) × (0 < f (view_at views k))
some_view f [] h = absurd (omega arith)
some_view f (x ∷ xs) h = ⊎_elim
    (λ (l : 0 < f x). let r : (k : ℕ) × (0 < f (view_at (x ∷ xs) k)) = (0, l) in r)
    (λ (l : f x ≤ 0). let m = some_view f xs (omega (arith, sum_by-cons f x xs)) in (suc m.0, m.1))
    (cases_lt 0 (f x))

-- the bag that has the number of each element as often as f says
abbrev pub bag_of : {X : Type 0} → (X → ℕ) → ℕ → List X → List ℕ
bag_of f i [] = []
bag_of f i (x ∷ xs) = replicate (f x) i ++ bag_of f (suc i) xs

pub times-replicate_here : (n x : ℕ) → bag (replicate n x) x ≡ n
times-replicate_here zero x = times-nil x
times-replicate_here (suc n) x = omega (arith, times-head x (replicate n x), times-replicate_here n x)

pub times-replicate_other : (n x y : ℕ) → y ≢ x → bag (replicate n y) x ≡ 0
times-replicate_other zero x y ne = times-nil x
times-replicate_other (suc n) x y ne = omega (arith, times-other x y (replicate n y) ne, times-replicate_other n x y ne)

times-bag_before : {X : Type 0} (f : X → ℕ) (i : ℕ) (xs : List X) (j : ℕ) → j < i → bag (bag_of f i xs) j ≡ 0
times-bag_before f i [] j h = times-nil j
times-bag_before f i (x ∷ xs) j h =
    omega (
      arith,
      times-append j (replicate (f x) i) (bag_of f (suc i) xs),
      times-replicate_other (f x) j i (λ e. omega arith),
      times-bag_before f (suc i) xs j (omega arith),
    )

times-bag_of : {X : Type 0} (f : X → ℕ) (d : X) → f d ≡ 0 → (i : ℕ) (xs : List X) (j : ℕ) →
    bag (bag_of f i xs) (i + j) ≡ f (get_or xs j d)
times-bag_of f d none i [] j = times-nil (i + j) ∙ sym none
times-bag_of f d none i (x ∷ xs) zero =
    let e : i + 0 ≡ i = omega arith in
    let r : bag (bag_of f i (x ∷ xs)) i ≡ f x =
    omega (
      arith,
      times-append i (replicate (f x) i) (bag_of f (suc i) xs),
      times-replicate_here (f x) i,
      times-bag_before f (suc i) xs i (omega arith),
    ) in
    ap (λ k. bag (bag_of f i (x ∷ xs)) k) e ∙ r
times-bag_of f d none i (x ∷ xs) (suc j) =
    let e : i + suc j ≡ suc i + j = omega arith in
    let m = times-bag_of f d none (suc i) xs j in
    let r : bag (bag_of f i (x ∷ xs)) (suc i + j) ≡ f (get_or xs j d) =
    omega (
      arith,
      times-append (suc i + j) (replicate (f x) i) (bag_of f (suc i) xs),
      times-replicate_other (f x) (suc i + j) i (λ h. omega arith),
    ) in
    ap (λ k. bag (bag_of f i (x ∷ xs)) k) e ∙ r

length-bag_of : {X : Type 0} (f : X → ℕ) (i : ℕ) (xs : List X) → length (bag_of f i xs) ≡ sum_by f xs
length-bag_of f i [] = refl
length-bag_of f i (x ∷ xs) =
    omega (
      arith,
      length-append (replicate (f x) i) (bag_of f (suc i) xs),
      length-replicate (f x) i,
      length-bag_of f (suc i) xs,
      sum_by-cons f x xs,
    )

pub place_of : (w : World) (law : StackLaw w) (i : ℕ) → i < w.limits.population →
    (p : Place) × Stands (standing w law.common i) p
place_of w law i lt =
    let one = law.one_place i in let b = below-at w.limits.population i lt in
    let f = λ (v : View). bag v.hand i in let g = λ (v : View). bag v.zeros i in
    ⊎_elim (λ (c : 0 < bag law.common i). (Common, c))
    (λ (c : bag law.common i ≤ 0). ⊎_elim
    (λ (h : 0 < sum_by f w.views). let m =
    some_view f w.views h in (
      Hand (suc m.0),
      (
          let a = m.1 in
          let r : 0 < f (view_at w.views m.0) + g (view_at w.views m.0) = omega arith in
          r),
    ))
    (λ (h : sum_by f w.views ≤ 0). ⊎_elim
    (λ (z : 0 < sum_by g w.views). let m =
    some_view g w.views z in (
      Hand (suc m.0),
      (
          let a = m.1 in
          let r : 0 < f (view_at w.views m.0) + g (view_at w.views m.0) = omega arith in
          r),
    ))
    (λ (z : sum_by g w.views ≤ 0). held (omega arith))
    (cases_lt 0 (sum_by g w.views)))
    (cases_lt 0 (sum_by f w.views)))
    (cases_lt 0 (bag law.common i))
  where
    held : 0 < all_holds i w.views w.desks → (p : Place) × Stands (standing w law.common i) p
    held h =
        let o = λ (v : View). bag v.holds i in let s = λ (d : Desk). bag (shelf d) i in (
          Held (bag_of o 1 w.views) (bag_of s 0 w.desks),
          (
            omega (arith, length-bag_of o 1 w.views, length-bag_of s 0 w.desks),
            by_worker,
            (λ d. ap (λ j. bag (bag_of s 0 w.desks) j) (let e : d ≡ 0 + d = omega arith in e)
                ∙ times-bag_of s no_desk (times-nil i) 0 w.desks d),
          ),
        )
      where
        by_worker : (n : ℕ) → bag (bag_of (λ (v : View). bag v.holds i) 1 w.views) n ≡ bag (view_of w.views n).holds i
        by_worker zero = times-bag_before (λ (v : View). bag v.holds i) 1 w.views 0 (omega arith) ∙ sym (times-nil i)
        by_worker (suc k) =
            ap (λ j. bag (bag_of (λ (v : View). bag v.holds i) 1 w.views) j)
            (let e : suc k ≡ 1 + k = omega arith in e)
            ∙ times-bag_of (λ (v : View). bag v.holds i) (empty_view 0) (times-nil i) 1 w.views k

pub shown_table : (w : World) → StackLaw w → Table
shown_table w law i =
    ⊎_elim (λ (l : i < w.limits.population). (place_of w law i l).0)
    (λ (l : w.limits.population ≤ i). Common) (cases_lt i w.limits.population)

pub shows : (w : World) (law : StackLaw w) → ShowsTable w (shown_table w law)
unfolding shown_table
shows w law = record {
  common = law.common;
  spelled = law.spelled;
  one = λ i l. one_place w law i;
  stands = λ i l. at i l (cases_lt i w.limits.population);
}
  where
    at : (i : ℕ) → i < w.limits.population →
        (c : (i < w.limits.population) ⊎ (w.limits.population ≤ i)) →
        Stands (standing w law.common i) (⊎_elim
        (λ (l : i < w.limits.population). (place_of w law i l).0)
        (λ (l : w.limits.population ≤ i). Common) c)
    at i l (inl m) = (place_of w law i m).1
    at i l (inr m) = absurd (omega arith)
