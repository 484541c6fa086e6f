-- What a contract sees of a `Packets`.
use Rattle.std.specs.Prelude.{ℕ, ◌≡◌, length, List, Option}
use Rattle.commons.specs.declared.limits.Limits.{Limits}
use Rattle.commons.specs.declared.packet.Seg.{Seg}

-- a worker of a pool: the pool's limits, its number from 1, its cache from the first element to
-- the last, and the packet in each slot of its table
pub record Member : Type 0 where
  pub limits : Limits
  pub number : ℕ
  pub cache : List ℕ
  pub table : List (Option (List Seg))

-- how many packets a table has room for
abbrev pub slots : ℕ
slots = 256

-- it is the same worker of the same pool, and its table has all its slots
pub record KeepsMember (old new : Member) : Type 0 where
  pub limits : new.limits ≡ old.limits
  pub number : new.number ≡ old.number
  pub table : length new.table ≡ slots
