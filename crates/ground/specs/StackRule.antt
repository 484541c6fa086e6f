-- The stack's part of the rule: where each element is, what is reserved, and what each worker has
-- seen and chained.
use Rattle.std.specs.Prelude.{◌≡◌, ℕ, ◌≤◌, List, None, IfSome, length}
use Rattle.step_core.specs.World.{World, view_at, link_in, parts, every_part}
use Rattle.step_core.specs.Law.{PlaceLaw, LengthLaw, LookLaw, ChainLaw}

pub record StackRule (w : World) : Type 0 where
  pub common : List ℕ
  pub places : PlaceLaw w common
  pub lengths : LengthLaw w common
  pub looks : LookLaw w
  pub chains : ChainLaw w
  -- a link for each element; link values, tops and ends are at most the population
  pub links : length w.links ≡ w.limits.population
  pub links_in_range : (i : ℕ) → link_in w.links i ≤ w.limits.population
  pub top : w.head.top ≤ w.limits.population
  pub look_range : (k : ℕ) → IfSome (view_at w.views k).look
      (λ l. (l.head.top ≤ w.limits.population) × (l.next ≤ w.limits.population))
  pub chain_range : (k : ℕ) → IfSome (view_at w.views k).chain (λ c. c.end ≤ w.limits.population)
  -- the parts add up to one for each worker; without a part a worker has nothing of the stack
  pub parts : parts w.views ≡ every_part w.limits
  pub no_hand : (k : ℕ) → (view_at w.views k).part ≡ 0 → length (view_at w.views k).hand ≡ 0
  pub no_credit : (k : ℕ) → (view_at w.views k).part ≡ 0 → (view_at w.views k).credit ≡ 0
  pub no_look : (k : ℕ) → (view_at w.views k).part ≡ 0 → (view_at w.views k).look ≡ None
  pub no_chain : (k : ℕ) → (view_at w.views k).part ≡ 0 → (view_at w.views k).chain ≡ None
