-- What a lawful world's numbers are at most, and its chains' elements.
use Rattle.std.proofs.Common.{◌≡◌, ℕ, zero, suc, ◌+◌, ◌<◌, ◌≤◌, All, List, [], ◌∷◌, Option, Some, None, length, get_or, refl, sym, ap, subst, arith, true, ⊎_elim}
use Rattle.std.specs.Prelude.{IfSome}
use Rattle.std.proofs.lemmas.Bool.{cases_lt, ltb-true}
use Rattle.step_core.specs.Bags.{has}
use Rattle.step_core.proofs.Counts.{count_of, in_holds}
use Rattle.commons.specs.Bag.{bag}
use Rattle.commons.specs.Bounds.{max_population}
use Rattle.commons.proofs.Bags.{length-le}
use Rattle.step_core.specs.World.{Chain, View, World, view_at}
use Rattle.step_core.specs.Kept.{IsWorld}
use Rattle.step_core.proofs.Rules.{StackLaw}
use Rattle.step_core.proofs.Regroup.{four_of_eight}
use Rattle.step_core.proofs.Bags.{times-cons, times-head, below-le, below-past}
use Rattle.step_core.proofs.StackSteps.{one_view, only_here, chain_of}

pub stands_within : (xs : List ℕ) (i d : ℕ) → i < length xs → 0 < bag xs (get_or xs i d)
stands_within [] i d h = absurd (omega arith)
stands_within (x ∷ xs) zero d h = omega (arith, times-head x xs)
stands_within (x ∷ xs) (suc i) d h = omega (arith, stands_within xs i d (omega arith), times-cons (get_or xs i d) x xs)

module _ (w : World) (is : IsWorld w) (k : ℕ) where
  law : StackLaw w
  law = (four_of_eight w is.law).stack

  -- the length word and a credit
  pub credit_fits : w.length + (view_at w.views k).credit ≤ w.limits.population
  unfolding law
  credit_fits =
      let c = law.credited in
      let one = one_view (λ (v : View). v.credit) w.views k refl in
      let n = length-le w.limits.population law.common
      (λ i. let p = law.one_place i in let b = below-le w.limits.population i in omega arith)
      (λ i le. let p = law.one_place i in omega (arith, below-past w.limits.population i le)) in
      omega arith

  module _ (here : k < length w.views) where
    busy : 0 < (view_at w.views k).part
    busy = let p = is.part k here in omega arith

    in_chain : (c : Chain) → (view_at w.views k).chain ≡ Some c → (i : ℕ) → 0 < bag c.items i →
        (bag c.items i ≡ 1) × (i < w.limits.population)
    in_chain c e i h =
        let d = (chain_of w k law here busy c e).in_hand i in
        let o = only_here w k law i (omega arith) in (let a = o.1 in omega arith, o.3)

    pub chain_fits : (c : Chain) → (view_at w.views k).chain ≡ Some c → length c.items ≤ w.limits.population
    chain_fits c e = length-le w.limits.population c.items
        (λ i.
        ⊎_elim (λ (l : 0 < bag c.items i). let a = (in_chain c e i l).0 in omega arith)
        (λ (l : bag c.items i ≤ 0). omega arith) (cases_lt 0 (bag c.items i)))
        (λ i le.
        ⊎_elim
        (λ (l : 0 < bag c.items i). absurd (let a = (in_chain c e i l).1 in omega arith))
        (λ (l : bag c.items i ≤ 0). omega arith) (cases_lt 0 (bag c.items i)))

    pub chain_below : IfSome (view_at w.views k).chain (λ c. All (λ x. x < max_population) c.items)
    chain_below = each (view_at w.views k).chain refl
      where
        each : (o : Option Chain) → (view_at w.views k).chain ≡ o →
            IfSome o (λ c. All (λ x. x < max_population) c.items)
        each None e = tt
        each (Some c) e =
            λ i d l.
            (
            let a = (in_chain c e (get_or c.items i d) (stands_within c.items i d l)).1 in
            let b = is.pool.population in
            omega arith)

    pub chain_room : IfSome (view_at w.views k).chain
        (λ c. (view_at w.views k).credit + length c.items < 18446744073709551616)
    chain_room = each (view_at w.views k).chain refl
      where
        each : (o : Option Chain) → (view_at w.views k).chain ≡ o →
            IfSome o (λ c. (view_at w.views k).credit + length c.items < 18446744073709551616)
        each None e = tt
        each (Some c) e = let a = chain_fits c e in let b = is.pool.population in let d = credit_fits in omega arith

-- an item read with any default
pub same_item : {X : Type 0} (xs : List X) (i : ℕ) (x d : X) → i < length xs → x ≡ get_or xs i x → x ≡ get_or xs i d
same_item [] i x d h e = absurd (omega arith)
same_item (y ∷ ys) zero x d h e = e
same_item (y ∷ ys) (suc i) x d h e = same_item ys i x d (omega arith) e

-- the view that was read at the index
module _ (w : World) (is : IsWorld w) (k : ℕ) (here : k < length w.views) (v : View)
    (read : v ≡ get_or w.views k v) where
  pub read_view : v ≡ view_at w.views k
  read_view = same_item w.views k v _ here read

  pub read_credit : w.length + v.credit < 18446744073709551616
  read_credit =
      let a = credit_fits w is k in
      let b = is.pool.population in
      let e = ap (λ (x : View). x.credit) read_view in
      omega arith

  pub read_chain : IfSome v.chain (λ c. All (λ x. x < max_population) c.items)
  read_chain =
      subst (λ (x : View). IfSome x.chain (λ c. All (λ y. y < max_population) c.items))
      (sym read_view) (chain_below w is k here)

  pub read_room : IfSome v.chain (λ c. v.credit + length c.items < 18446744073709551616)
  read_room =
      subst (λ (x : View). IfSome x.chain (λ c. x.credit + length c.items < 18446744073709551616))
      (sym read_view) (chain_room w is k here)

  -- the count of an element that the worker holds is at least 1
  pub read_count : (i n : ℕ) → has v.holds i ≡ true → i < length w.counts → n ≡ get_or w.counts i n → 1 ≤ n
  read_count i n held l e =
      let four = four_of_eight w is.law in
      let part : 0 < (view_at w.views k).part = (let p = is.part k here in omega arith) in
      let mine : 0 < bag (view_at w.views k).holds i =
      subst (λ (x : View). 0 < bag x.holds i) read_view (ltb-true _ _ held) in
      let c = count_of w k here part four.stack four.counts i mine in
      let h = (in_holds w k here part four.stack four.counts i mine).0 in
      let same = same_item w.counts i n 0 l e in
      omega arith
