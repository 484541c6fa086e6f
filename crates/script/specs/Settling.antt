-- What a reader finds in the statements of a script's pools.
use Rattle.std.specs.Prelude.{Option, Some, None, true}
use Rattle.commons.specs.declared.limits.Limits.{Limits}
use Rattle.pool_model.specs.Guests.{ListsEachOnceWith, guests_listed, local_statement}
use Rattle.pool_model.specs.Sound.{ListsOnlyPackets, ListsSoundPackets}
use Rattle.pool_model.specs.Statements.{ListsEachOnce, PlacesEachOnce}
use Rattle.pool_statement.specs.declared.settled.Settled.{Settled}
use Rattle.pool_statement.specs.declared.statement.Statement.{Statement}
use Rattle.script_text.specs.declared.lines.Pools.{Pools}
use Rattle.book.specs.Listing.{ListsPackets}

-- One rule of a pool alone, by its limits and its statement, and one of two pools, by theirs. There
-- is a statement for each pool.
abbrev pub of_one_or_two : (Limits → Statement → Type 0) → (Limits → Limits → Statement → Statement → Type 0) →
    Limits → Option Limits → Statement → Option Statement → Type 0
of_one_or_two one two l None s None = one l s
of_one_or_two one two l (Some k) s (Some t) = two l k s t
of_one_or_two one two l _ s _ = ⊥

abbrev pub OfPools : (Limits → Statement → Type 0) → (Limits → Limits → Statement → Statement → Type 0) →
    Pools → Settled → Type 0
OfPools one two pools s = of_one_or_two one two pools.first pools.second s.first s.second

-- No element of a pool is missing, and none is anywhere twice. Of two pools the elements of the first
-- are held for the packets of the second too, as their bases; those of the second by its packets,
-- whose bases are foreign there.
pub record ListsBothOnce (first second : Statement) : Type 0 where
  pub first_once : ListsEachOnceWith (guests_listed second) first
  pub second_once : ListsEachOnce (local_statement true second)

abbrev pub ListsEachPoolOnce : Pools → Settled → Type 0
ListsEachPoolOnce = OfPools (λ l s. ListsEachOnce s) (λ l k s t. ListsBothOnce s t)

-- no two packets of a pool stand in one place
abbrev pub PlacesInEach : Pools → Settled → Type 0
PlacesInEach = OfPools PlacesEachOnce (λ l k s t. PlacesEachOnce l s × PlacesEachOnce k t)

-- each packet has 1 to 32 segments, each with its data within its buffer
abbrev pub ListsOnlyPacketsInEach : Pools → Settled → Type 0
ListsOnlyPacketsInEach = OfPools (λ l s. ListsOnlyPackets s) (λ l k s t. ListsOnlyPackets s × ListsOnlyPackets t)

-- so, and no count of a pool alone is above the reference limit
abbrev pub ListsPacketsInEach : Pools → Settled → Type 0
ListsPacketsInEach = OfPools ListsPackets (λ l k s t. ListsOnlyPackets s × ListsOnlyPackets t)

-- so, and each of a pool alone is sound besides: its buffers are the pool's, and a base is direct
abbrev pub ListsSoundInEach : Pools → Settled → Type 0
ListsSoundInEach = OfPools ListsSoundPackets (λ l k s t. ListsOnlyPackets s × ListsOnlyPackets t)
