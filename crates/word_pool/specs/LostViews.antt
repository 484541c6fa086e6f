-- What lost workers leave of a pool on words.
use Rattle.std.specs.Prelude.{ℕ, ◌≡◌, ◌⊎◌, ◌↔◌, ◌+◌, ◌<◌, List, Contains, map, slice_set, sum_by}
use Rattle.book.specs.Lost.{cached_by}
use Rattle.commons.specs.Bag.{bag}
use Rattle.commons.specs.declared.closed.Closed.{Closed}
use Rattle.commons.specs.declared.limits.Limits.{Limits}
use Rattle.commons.specs.Packets.{held_in}
use Rattle.ground.specs.Closing.{packet_on}
use Rattle.mbuf.specs.Members.{Member}
use Rattle.pool_model.specs.Pool.{held_by}
use Rattle.snapshot.specs.Lost.{IsAscending}
use Rattle.step_core.specs.declared.view.View.{View}
use Rattle.step_core.specs.Law.{Lawful}
use Rattle.step_core.specs.World.{World, all_zeros, empty_view, hands}

-- how often these views hold an element
abbrev pub holds_by : List View → ℕ → ℕ
holds_by views i = sum_by (λ v. bag v.holds i) views

-- these views but the one at an index
abbrev pub others : List View → ℕ → List View
others views k = slice_set views k (empty_view 0)

-- A lawful world of these limits left it. Of the views of its workers, wherever each of them
-- stopped, some are lost, and the others are at rest and have what these members have.
pub record IsLeftWithout (l : Limits) (lost : List View) (members : List Member) (c : Closed) : Type 0 where
  pub world : World
  pub law : Lawful world
  pub limits : world.limits ≡ l
  pub top : c.top ≡ world.head.top
  pub links : c.links ≡ world.links
  pub desks : c.desks ≡ map packet_on world.desks
  pub hands : (i : ℕ) → hands i world.views ≡ cached_by members i + hands i lost
  pub zeros : (i : ℕ) → all_zeros i world.views ≡ all_zeros i lost
  pub holds : (i : ℕ) → holds_by world.views i ≡ held_by members i + holds_by lost i

-- A lost worker has it in its hand, whatever its count; or lost workers hold it, and they alone: no
-- packet of these members, nor one on a full desk, does.
abbrev pub IsLostBy : List View → List Member → Closed → ℕ → Type 0
IsLostBy lost members c e =
    (0 < hands e lost + all_zeros e lost)
    ⊎ ((0 < holds_by lost e) × (held_by members e + held_in c.desks e ≡ 0))

-- They are, ascending, exactly the elements of the pool that are lost by them.
pub record AreLostBy (l : Limits) (lost : List View) (members : List Member) (c : Closed) (elems : List ℕ) : Type 0 where
  pub ascending : IsAscending elems
  pub exactly : (e : ℕ) → Contains elems e ↔ ((e < l.population) × IsLostBy lost members c e)
