-- What a worker's calls do that take a packet out of a slot, for whoever sends it, and bring one into
-- a slot, from whoever sent it: for each case the answer, and what the worker has afterwards. No call
-- is made on the shared pool. And whose the packet's holds are then.
use Rattle.std.specs.Prelude.{ℕ, ◌≡◌, ◌≤◌, List, slice_index_or, slice_set, Some, None, Result, Ok, Err}
use Rattle.commons.specs.Bag.{bag}
use Rattle.commons.specs.Calls.{IsOffer, IsTake, Side}
use Rattle.commons.specs.Packets.{holds_of_packet, own_of_packet}
use Rattle.commons.specs.declared.packet.Seg.{Seg}
use Rattle.commons.specs.declared.refusal.Refusal.{Refusal}
use Rattle.commons.specs.declared.refusal.Refusal.TheVariants.{NoSuchPacket, PacketsFull}
use Rattle.mbuf.specs.Members.{Member}
use Rattle.mbuf.specs.Own.{OwnWith}
use Rattle.mbuf.specs.PacketRules.{free_slot}

-- what it does to take the packet out of a slot
pub data TakesOut (m : Member) (slot : ℕ) (answer : Result (Unit {0}) Refusal) (after : Member) : Type 0 where
  -- the slot is empty, or there is none of this number
  NothingToTake :
      slice_index_or m.table slot None ≡ None →
      answer ≡ Err NoSuchPacket →
      after ≡ m →
      TakesOut m slot answer after
  -- a packet stood there, and its slot is free
  WasTakenOut :
      (segs : List Seg) →
      slice_index_or m.table slot None ≡ Some segs →
      answer ≡ Ok tt →
      after ≡ record m { table = slice_set m.table slot None } →
      TakesOut m slot answer after

-- what it does to bring a packet in
pub data BringsIn (m : Member) (packet : List Seg) (answer : Result ℕ Refusal) (after : Member) : Type 0 where
  -- no slot is free
  NoSlotFor :
      free_slot m.table ≡ None →
      answer ≡ Err PacketsFull →
      after ≡ m →
      BringsIn m packet answer after
  -- the packet stands in the lowest free slot
  WasBroughtIn :
      (slot : ℕ) →
      free_slot m.table ≡ Some slot →
      answer ≡ Ok slot →
      after ≡ record m { table = slice_set m.table slot (Some packet) } →
      BringsIn m packet answer after

-- The worker has all that the packet holds, and the packet's own elements are headers of it; where
-- no header is one twice, they are distinct.
pub record HasPacket (packet : List Seg) (s : Side) : Type 0 where
  pub held : (i : ℕ) → bag (holds_of_packet packet) i ≤ s.holds i
  pub headed : (i : ℕ) → bag (own_of_packet packet) i ≤ s.headers i
  pub distinct : ((i : ℕ) → s.headers i ≤ 1) → (i : ℕ) → bag (own_of_packet packet) i ≤ 1

-- ---- the laws

-- A worker whose packets are its own, with whatever guests, has what stands in each slot.
abbrev pub StandingPacketsAreHad : Type 0
StandingPacketsAreHad =
    (guests : ℕ → ℕ) (m : Member) (s : Side) (slot : ℕ) (packet : List Seg) → OwnWith guests m s →
    slice_index_or m.table slot None ≡ Some packet → HasPacket packet s

-- Once a packet was taken out, the packets are the worker's own where its side is less by all that
-- the packet holds, as an offer leaves it.
abbrev pub TakingOutLeavesOwn : Type 0
TakingOutLeavesOwn =
    (guests : ℕ → ℕ) (m after : Member) (s t : Side) (slot : ℕ) (packet : List Seg) → OwnWith guests m s →
    slice_index_or m.table slot None ≡ Some packet → TakesOut m slot (Ok tt) after → IsOffer packet s t → OwnWith guests after t

-- Once a packet was brought in, the packets are the worker's own where its side has all that the
-- packet holds in addition, and the packet's own elements as headers, as a take leaves it.
abbrev pub BringingInLeavesOwn : Type 0
BringingInLeavesOwn =
    (guests : ℕ → ℕ) (m after : Member) (s t : Side) (slot : ℕ) (packet : List Seg) → OwnWith guests m s →
    BringsIn m packet (Ok slot) after → IsTake packet s t → OwnWith guests after t
