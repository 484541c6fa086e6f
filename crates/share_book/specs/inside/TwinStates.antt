-- A worker of two pools on the lists, and the pools of the reference model that they show. No public
-- clause cites this module.
use Rattle.std.specs.Prelude.{ℕ, ◌≡◌, ◌<◌, List, length}
use Rattle.commons.specs.Lists.{Lists, IsTable, held_count, place_of}
use Rattle.mbuf.specs.Twins.{TwinMember}
use Rattle.pool_model.specs.Pool.{member_at, with_member}
use Rattle.pool_model.specs.TwinModel.{Stocks, TwinPool, held_in_first, held_in_second}
use Rattle.share_book.specs.AsModel.{shared_of}

-- Two pools of the model are these lists, in which the worker at n has this; the lists show a table,
-- and the count of each element is how often packets and foreign clones hold it.
pub record Shows (twins : TwinPool) (n : ℕ) (s u : Lists) (t : TwinMember) : Type 0 where
  pub first_limits : twins.first.limits ≡ s.limits
  pub second_limits : twins.second.limits ≡ u.limits
  pub first_shared : twins.first.shared ≡ shared_of s
  pub second_shared : twins.second.shared ≡ shared_of u
  pub first_here : n < length twins.first.members
  pub second_here : n < length twins.second.members
  pub first_member : member_at twins.first n ≡ t.first
  pub second_member : member_at twins.second n ≡ t.second
  pub first_of : t.first.limits ≡ s.limits
  pub second_of : t.second.limits ≡ u.limits
  pub first_table : IsTable s
  pub second_table : IsTable u
  pub first_held : (i : ℕ) → held_count (place_of s i) ≡ held_in_first twins i
  pub second_held : (i : ℕ) → held_count (place_of u i) ≡ held_in_second twins i

-- the pools once the worker at n has this, and the lists are these
abbrev pub twins_with : TwinPool → ℕ → TwinMember → Lists → Lists → TwinPool
twins_with twins n t s u = record {
  first = with_member twins.first n t.first (shared_of s);
  second = with_member twins.second n t.second (shared_of u);
}

-- a worker's caches, and both stacks
abbrev pub stocks_with : List ℕ → Lists → List ℕ → Lists → Stocks
stocks_with first_cache s second_cache u = record {
  first_cache = first_cache;
  first = shared_of s;
  second_cache = second_cache;
  second = shared_of u;
}
