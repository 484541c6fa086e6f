-- What a closing takes before it begins.
use Rattle.std.specs.Prelude.{ℕ, ◌≡◌, ◌≤◌, [], length, vec_capacity}
use Rattle.mbufpool_c.specs.declared.closing.Room.{Room}

-- room for the workers of n handles
pub record IsRoom (n : ℕ) (r : Room) : Type 0 where
  pub places : length r.places.items ≡ n
  pub numbers : r.numbers.items ≡ []
  pub room : n ≤ vec_capacity r.numbers
  pub workers : r.workers.items ≡ []
  pub missing : r.missing.items ≡ []
