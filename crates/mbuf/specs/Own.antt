-- When packets are a worker's own: what it shares with others, as it sees it, is what they need.
use Rattle.std.specs.Prelude.{ℕ, ◌≡◌, ◌≤◌, ◌+◌}
use Rattle.commons.specs.Bag.{bag}
use Rattle.commons.specs.Calls.{Side}
use Rattle.commons.specs.Packets.{held_in, own_in}
use Rattle.mbuf.specs.Members.{Member}

-- Both are of one pool; the cache is the worker's hand; the packets, and beside them these guests,
-- are what the worker holds; and the own elements of the packets' segments are headers of the
-- worker, which are distinct. A guest is an element that the worker holds for something else than
-- its packets: a packet of another pool that uses its buffer.
pub record OwnWith (guests : ℕ → ℕ) (m : Member) (s : Side) : Type 0 where
  pub limits : m.limits ≡ s.limits
  pub cached : (i : ℕ) → s.hand i ≡ bag m.cache i
  pub held : (i : ℕ) → s.holds i ≡ held_in m.table i + guests i
  pub headed : (i : ℕ) → own_in m.table i ≤ s.headers i

-- nobody is a guest
abbrev pub no_guests : ℕ → ℕ
no_guests i = 0

-- the packets alone are what the worker holds
abbrev pub Own : Member → Side → Type 0
Own m s = OwnWith no_guests m s

-- the packets are the worker's own, with some guests
abbrev pub OwnWithGuests : Member → Side → Type 0
OwnWithGuests m s = (guests : ℕ → ℕ) × OwnWith guests m s

-- with whatever guests the packets were the worker's own, they are afterwards
abbrev pub StaysOwn : Member → Side → Member → Side → Type 0
StaysOwn m s after t = (guests : ℕ → ℕ) → OwnWith guests m s → OwnWith guests after t
