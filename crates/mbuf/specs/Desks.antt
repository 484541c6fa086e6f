-- What a worker's calls do that pass a packet over a desk: for each case the calls that are made
-- on the shared pool with their answers, the answer, and what the worker has afterwards.
use Rattle.std.specs.Prelude.{ℕ, ◌≡◌, ◌<◌, ◌≤◌, List, [], ◌∷◌, slice_index_or, slice_set, Some, None, Result, Ok, Err}
use Rattle.commons.specs.declared.packet.Seg.{Seg}
use Rattle.commons.specs.declared.refusal.Refusal.{Refusal}
use Rattle.commons.specs.declared.refusal.Refusal.TheVariants.{PacketsFull, NoSuchPacket, NoSuchDesk}
use Rattle.commons.specs.Calls.{Call, Offer, Take}
use Rattle.mbuf.specs.Members.{Member}
use Rattle.mbuf.specs.PacketRules.{free_slot}

-- what an offer of the packet in a slot does
pub data Offers (m : Member) (slot desk : ℕ) (calls : List Call)
    (answer : Result (Unit {0}) Refusal) (after : Member) : Type 0 where
  -- the slot is empty, or there is none of this number
  NothingThere :
      slice_index_or m.table slot None ≡ None →
      calls ≡ [] →
      answer ≡ Err NoSuchPacket →
      after ≡ m →
      Offers m slot desk calls answer after
  -- the desk doesn't take it: the packet stays in its slot
  NotOffered :
      (segs : List Seg) →
      slice_index_or m.table slot None ≡ Some segs →
      (cause : Refusal) →
      calls ≡ Offer desk segs (Err cause) ∷ [] →
      answer ≡ Err cause →
      after ≡ m →
      Offers m slot desk calls answer after
  -- the packet is on the desk, and its slot is free
  WasOffered :
      (segs : List Seg) →
      slice_index_or m.table slot None ≡ Some segs →
      calls ≡ Offer desk segs (Ok tt) ∷ [] →
      answer ≡ Ok tt →
      after ≡ record m { table = slice_set m.table slot None } →
      Offers m slot desk calls answer after

-- what a take off a desk does
pub data Takes (m : Member) (desk : ℕ) (calls : List Call) (answer : Result ℕ Refusal)
    (after : Member) : Type 0 where
  -- the pool has no such desk: nothing is asked for
  NoDesk :
      m.limits.desks ≤ desk →
      calls ≡ [] →
      answer ≡ Err NoSuchDesk →
      after ≡ m →
      Takes m desk calls answer after
  -- no slot is free: nothing is asked for
  NoSlot :
      desk < m.limits.desks →
      free_slot m.table ≡ None →
      calls ≡ [] →
      answer ≡ Err PacketsFull →
      after ≡ m →
      Takes m desk calls answer after
  -- the take is refused
  NotTaken :
      desk < m.limits.desks →
      (slot : ℕ) →
      free_slot m.table ≡ Some slot →
      (cause : Refusal) →
      calls ≡ Take desk (Err cause) ∷ [] →
      answer ≡ Err cause →
      after ≡ m →
      Takes m desk calls answer after
  -- the packet that was on the desk stands in the lowest free slot
  WasTaken :
      desk < m.limits.desks →
      (slot : ℕ) →
      free_slot m.table ≡ Some slot →
      (segs : List Seg) →
      calls ≡ Take desk (Ok segs) ∷ [] →
      answer ≡ Ok slot →
      after ≡ record m { table = slice_set m.table slot (Some segs) } →
      Takes m desk calls answer after
