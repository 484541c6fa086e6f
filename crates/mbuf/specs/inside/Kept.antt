-- How a `Packets` is kept. No public clause cites this module.
use Rattle.std.specs.Prelude.{ℕ, ◌≡◌, Bool, true, false, List, [], ◌∷◌, length, Option, Some, None, min}
use Rattle.commons.specs.declared.packet.Seg.{Seg}
use Rattle.commons.specs.Packets.{held_in, own_in}
use Rattle.mbuf.specs.Members.{Member, slots}
use Rattle.mbuf.specs.declared.packets.Packets.TheInside.{Inside}

-- the packet of a slot, unless the slot is free
abbrev pub unless_free : Bool → List Seg → Option (List Seg)
unless_free true segs = None
unless_free false segs = Some segs

-- the table of these slots and packets
abbrev pub shown : List Bool → List (List Seg) → List (Option (List Seg))
shown [] packets = []
shown (free ∷ flags) [] = []
shown (free ∷ flags) (segs ∷ packets) = unless_free free segs ∷ shown flags packets

abbrev pub member_of : Inside → Member
member_of p = record {
  limits = p.worker.limits;
  number = p.worker.number;
  cache = p.worker.cache;
  table = shown p.free p.packets.items;
}

-- there is a flag and a packet for each slot, and the headroom is that of the pool's fresh packets
pub record IsKept (p : Inside) : Type 0 where
  pub flags : length p.free ≡ slots
  pub packets : length p.packets.items ≡ slots
  pub headroom : p.headroom ≡ min 128 p.worker.limits.buf

-- the cache is as before, and the packets hold what they held
pub record KeepsHolds (m after : Member) : Type 0 where
  pub limits : after.limits ≡ m.limits
  pub cache : after.cache ≡ m.cache
  pub held : (i : ℕ) → held_in after.table i ≡ held_in m.table i
  pub own : (i : ℕ) → own_in after.table i ≡ own_in m.table i
