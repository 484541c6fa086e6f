-- What a lawful world says of one of its views by itself.
use Rattle.std.proofs.Common.{◌≡◌, ℕ, suc, ◌<◌, ◌≤◌, refl, sym, subst, arith, ⊎_elim}
use Rattle.std.specs.Prelude.{sum_by, IfSome, Option, Some, None}
use Rattle.std.proofs.lemmas.Bool.{cases_lt}
use Rattle.commons.specs.Bag.{bag}
use Rattle.commons.specs.Bounds.{IsPool}
use Rattle.step_core.specs.declared.view.View.{View}
use Rattle.step_core.specs.declared.view.Look.{Look}
use Rattle.step_core.specs.declared.view.Chain.{Chain}
use Rattle.step_core.specs.Links.{first_value}
use Rattle.step_core.specs.World.{World, view_at, link_in, hands, all_zeros, all_holds}
use Rattle.step_core.specs.Headers.{HeaderLaw}
use Rattle.step_core.specs.Law.{Lawful, ChainRule}
use Rattle.step_core.proofs.Bags.{times-nil, below-past, below-le}
use Rattle.step_core.proofs.StackSteps.{one_view, if_some, first_value-in}
use Rattle.ground.specs.Own.{Owned}

module _ (w : World) (law : Lawful w) (headers : HeaderLaw w) (k : ℕ) where
  at_hand : (i : ℕ) → bag (view_at w.views k).hand i ≤ hands i w.views
  at_hand i = one_view (λ v. bag v.hand i) w.views k (times-nil i)

  at_zeros : (i : ℕ) → bag (view_at w.views k).zeros i ≤ all_zeros i w.views
  at_zeros i = one_view (λ v. bag v.zeros i) w.views k (times-nil i)

  at_holds : (i : ℕ) → bag (view_at w.views k).holds i ≤ all_holds i w.views w.desks
  at_holds i =
      let one = one_view (λ v. bag v.holds i) w.views k (times-nil i) in
      let here : bag (view_at w.views k).holds i ≤ sum_by (λ v. bag v.holds i) w.views = one in
      omega arith

  at_headers : (i : ℕ) → bag (view_at w.views k).headers i ≤ 1
  at_headers i =
      let one = one_view (λ v. bag v.headers i) w.views k (times-nil i) in
      let here : bag (view_at w.views k).headers i ≤ sum_by (λ v. bag v.headers i) w.views = one in
      let once = headers.once i in
      omega arith

  -- a chain's first is of the hand, and so of the pool
  first_below : (c : Chain) → ChainRule (link_in w.links) (view_at w.views k).hand c →
      first_value c.items ≤ w.limits.population
  first_below c rule =
      let first = first_value-in c.items rule.not_empty in
      let is = first.1 in
      let there = first.2 in
      let mine = rule.in_hand first.0 in
      let place = law.places.one_place first.0 in
      let hand = at_hand first.0 in
      below_of first.0 (omega arith) is
    where
      below_of : (i : ℕ) → 0 < hands i w.views → first_value c.items ≡ suc i → first_value c.items ≤ w.limits.population
      below_of i some is =
          ⊎_elim (λ (h : i < w.limits.population). omega arith)
          (λ (h : w.limits.population ≤ i).
          absurd (let place = law.places.one_place i in omega (arith, below-past w.limits.population i h)))
          (cases_lt i w.limits.population)

  pub owned_at : 0 < (view_at w.views k).part → IsPool w.limits → Owned w.limits (view_at w.views k)
  owned_at busy pool = record {
    pool = pool;
    busy = busy;
    within =
        (let one = one_view (λ v. v.part) w.views k refl in
        let all = law.parts.parts in
        omega arith);
    hand_once =
        λ i. (let p = law.places.one_place i in
        omega (arith, at_hand i, at_zeros i, below-le w.limits.population i));
    hand_below =
        λ i h. (let p = law.places.one_place i in
        omega (arith, at_hand i, at_zeros i, below-past w.limits.population i h));
    held_below =
        λ i h. (let p = law.places.one_place i in
        omega (arith, at_holds i, below-past w.limits.population i h));
    apart =
        λ i h. (let p = law.places.one_place i in
        omega (arith, at_hand i, at_zeros i, at_holds i, below-le w.limits.population i));
    header_once = at_headers;
    header_held = headers.held k;
    look =
        if_some (view_at w.views k).look
        (λ l. (l.head.top ≤ w.limits.population) × (l.next ≤ w.limits.population)) _
        (λ (o : Look) m. (m.1, m.0)) (law.ranges.looks k);
    chain = both (view_at w.views k).chain (law.chains.chain k) (law.ranges.chains k);
  }
    where
      both : (o : Option Chain) →
          IfSome o (ChainRule (link_in w.links) (view_at w.views k).hand) →
          IfSome o (λ c. c.end ≤ w.limits.population) →
          IfSome o (λ c. (c.end ≤ w.limits.population) × (first_value c.items ≤ w.limits.population))
      both None a b = tt
      both (Some c) a b = (b, first_below c a)

pub owned_of : (w : World) → Lawful w → HeaderLaw w → (k : ℕ) (v : View) → view_at w.views k ≡ v →
    0 < v.part → IsPool w.limits → Owned w.limits v
owned_of w law headers k v is busy pool =
    subst (λ (u : View). Owned w.limits u) is
    (owned_at w law headers k (subst (λ (u : View). 0 < u.part) (sym is) busy) pool)
