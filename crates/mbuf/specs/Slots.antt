-- Which slots of its worker's table an act may write.
use Rattle.std.specs.Prelude.{ℕ, ◌≡◌, ◌≢◌, All, List, [], ◌∷◌, map, slice_index_or, None}
use Rattle.mbuf.specs.declared.acts.Act.{Act}
use Rattle.mbuf.specs.declared.acts.Act.TheVariants.{Alloc, AllocBulk, Free, Append, Prepend, Adj, Trim, Chain, Attach, Detach, ClonePacket, Offer, Take, CountOf, PktLen, NbSegs, Flush}
use Rattle.mbuf.specs.declared.acts.Answer.TheVariants.{Allocated, Bulk, Cloned, Taken}
use Rattle.mbuf.specs.Acts.{Reply}
use Rattle.mbuf.specs.Members.{Member}

-- The slots that an act names as those of packets that it changes, moves or ends. What an act only
-- reads it doesn't change: the packet that is cloned, the one to whose buffer another attaches,
-- and one of which something is told.
abbrev pub named_slots : Act → List ℕ
named_slots Alloc = []
named_slots (AllocBulk n) = []
named_slots (Free slot) = slot ∷ []
named_slots (Append slot n) = slot ∷ []
named_slots (Prepend slot n) = slot ∷ []
named_slots (Adj slot n) = slot ∷ []
named_slots (Trim slot n) = slot ∷ []
named_slots (Chain head tail) = head ∷ tail ∷ []
named_slots (Attach slot target) = slot ∷ []
named_slots (Detach slot) = slot ∷ []
named_slots (ClonePacket source) = []
named_slots (Offer slot desk) = slot ∷ []
named_slots (Take desk) = []
named_slots (CountOf slot) = []
named_slots (PktLen slot) = []
named_slots (NbSegs slot) = []
named_slots Flush = []

-- the slots into which a packet came, as a reply tells them
abbrev pub filled_slots : Reply → List ℕ
filled_slots (Allocated slot e) = slot ∷ []
filled_slots (Bulk packets) = map (λ packet. packet.slot) packets.items
filled_slots (Cloned slot elems) = slot ∷ []
filled_slots (Taken slot segs len) = slot ∷ []
filled_slots _ = []

-- the slot is none of these
abbrev pub IsNoneOf : List ℕ → ℕ → Type 0
IsNoneOf slots slot = All (λ other. slot ≢ other) slots

-- All slots of a worker's table but those that the act names and those that the reply says were
-- filled have what they had, and what was filled was free.
pub record LeavesOtherSlots (act : Act) (reply : Reply) (before after : Member) : Type 0 where
  pub others : (slot : ℕ) → IsNoneOf (named_slots act) slot → IsNoneOf (filled_slots reply) slot →
      slice_index_or after.table slot None ≡ slice_index_or before.table slot None
  pub filled : All (λ slot. slice_index_or before.table slot None ≡ None) (filled_slots reply)
