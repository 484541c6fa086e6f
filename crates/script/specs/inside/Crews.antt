-- What threads leave of the workers who were lent to them. No public clause cites this module.
use Rattle.std.specs.Prelude.{ℕ, ◌≡◌, ◌<◌, List, length, slice_index_or}

-- each of these is the same one, later
pub record EachStays {A : Type 0} (stays : A → A → Type 0) (old new : List A) : Type 0 where
  pub as_many : length new ≡ length old
  pub each : (i : ℕ) (d : A) → i < length old → stays (slice_index_or old i d) (slice_index_or new i d)
