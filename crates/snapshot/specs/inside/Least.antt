-- The least element that the pool doesn't have, among those that are named.
use Rattle.std.specs.Prelude.{ℕ, ◌≡◌, ◌<◌, ◌≤◌, Option, None, Some}

-- of the numbers at or above the limit that are named, so often: there is none, or this is the
-- least
abbrev pub IsLeast : ℕ → (ℕ → ℕ) → Option ℕ → Type 0
IsLeast limit named None = (e : ℕ) → limit ≤ e → named e ≡ 0
IsLeast limit named (Some v) = (limit ≤ v) × (0 < named v) × ((e : ℕ) → limit ≤ e → e < v → named e ≡ 0)
