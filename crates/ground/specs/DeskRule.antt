-- The desks' part of the rule: what each desk's word and slot say.
use Rattle.std.specs.Prelude.{◌≡◌, ℕ, None, length}
use Rattle.step_core.specs.World.{World, view_at}
use Rattle.step_core.specs.Law.{DeskLaw}

pub record DeskRule (w : World) : Type 0 where
  pub desks : DeskLaw w
  pub count : length w.desks ≡ w.limits.desks
  -- without a part a worker has no busy desk
  pub no_work : (k : ℕ) → (view_at w.views k).part ≡ 0 → (view_at w.views k).work ≡ None
