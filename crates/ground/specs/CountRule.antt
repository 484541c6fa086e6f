-- The counts' part of the rule: what each count is, and whose header each element is.
use Rattle.std.specs.Prelude.{◌≡◌, ℕ, ◌≤◌, length, slice_index}
use Rattle.step_core.specs.World.{World, view_at}
use Rattle.step_core.specs.Law.{CountLaw}
use Rattle.step_core.specs.Headers.{HeaderLaw}

pub record CountRule (w : World) : Type 0 where
  pub counted : CountLaw w
  pub headers : HeaderLaw w
  -- a count for each element, at most the reference limit
  pub counts : length w.counts ≡ w.limits.population
  pub in_range : (i : ℕ) → slice_index w.counts i ≤ w.limits.ref_limit
  pub ref_limit : 1 ≤ w.limits.ref_limit
  -- without a part a worker holds nothing, and has no element of count 0
  pub no_zeros : (k : ℕ) → (view_at w.views k).part ≡ 0 → length (view_at w.views k).zeros ≡ 0
  pub no_holds : (k : ℕ) → (view_at w.views k).part ≡ 0 → length (view_at w.views k).holds ≡ 0
