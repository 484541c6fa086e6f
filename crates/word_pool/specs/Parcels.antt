-- A packet under way from one worker of a pool on words to another: what its parcel is, and what
-- sending and receiving it do.
use Rattle.std.specs.Prelude.{ℕ, ◌≡◌, ◌<◌, List, [], Option, Some, None, Result, Ok, Err, slice_index_or, slice_set}
use Rattle.commons.specs.declared.packet.Seg.{Seg}
use Rattle.commons.specs.declared.refusal.Refusal.{Refusal}
use Rattle.commons.specs.declared.refusal.Refusal.TheVariants.{PacketsFull}
use Rattle.ground.specs.Parting.{both_with, left_by_parcel, lent_parcel, parcel_view}
use Rattle.ground.specs.Seats.{Seated}
use Rattle.mbuf.specs.PacketRules.{free_slot}
use Rattle.word_pool.specs.Workers.{WorkerState}
use Rattle.word_pool.specs.declared.parcel.Unsent.{Unsent}
use Rattle.word_pool.specs.declared.parcel.Unsent.TheVariants.{NoPart, NoSuchPacket}

-- a parcel: the packet, and a seat that has what it holds
pub record Parcelled : Type 0 where
  pub packet : List Seg
  pub seat : Seated

-- The seat has a part of 1, holds what the packet holds, and has its own elements as headers; it
-- names nothing else, so that it is at rest; it has taken no step, nor has any that was joined to
-- it; and no slot is out with it.
pub record IsParcel (p : Parcelled) : Type 0 where
  pub view : p.seat.known.view ≡ parcel_view p.packet
  pub steps : p.seat.known.steps ≡ []
  pub joined : p.seat.known.joined ≡ []
  pub slots : p.seat.slots ≡ []

-- the seat of a parcel that took this packet from a seat
pub record IsSeatFor (packet : List Seg) (from seat : Seated) : Type 0 where
  pub table : seat.table ≡ from.table
  pub known : seat.known ≡ lent_parcel packet from.known
  pub slots : seat.slots ≡ []

-- what it does to send the packet in a slot
pub data Sends (slot : ℕ) (old : WorkerState) (answer : Result Parcelled Unsent) (new : WorkerState) : Type 0 where
  -- the worker has a part of 1 left, which it keeps
  NoPartLeft :
      old.seat.known.view.part < 2 →
      answer ≡ Err NoPart →
      new ≡ old →
      Sends slot old answer new
  -- the slot is empty, or there is none of this number
  NothingToSend :
      slice_index_or old.member.table slot None ≡ None →
      answer ≡ Err NoSuchPacket →
      new ≡ old →
      Sends slot old answer new
  -- The packet is in the parcel, whose seat has what it holds, and its slot is free. The worker has
  -- all else, but for a part of 1.
  WasSent :
      (parcel : Parcelled) →
      slice_index_or old.member.table slot None ≡ Some parcel.packet →
      IsSeatFor parcel.packet old.seat parcel.seat →
      answer ≡ Ok parcel →
      new ≡ record {
        seat = record old.seat { known = left_by_parcel parcel.packet old.seat.known };
        member = record old.member { table = slice_set old.member.table slot None };
      } →
      Sends slot old answer new

-- the packet that stood in a slot
abbrev pub stood : Option (List Seg) → List Seg
stood None = []
stood (Some packet) = packet

-- a send's answer of the seat alone: the parcel has the packet that stood in the slot
abbrev pub with_stood : Option (List Seg) → Result Seated Unsent → Result Parcelled Unsent
with_stood place (Ok seat) = Ok (record { packet = stood place; seat = seat })
with_stood place (Err cause) = Err cause

-- what it does to receive a parcel
pub data Receives (parcel : Parcelled) (old : WorkerState) (answer : Result ℕ (Refusal × Parcelled))
    (new : WorkerState) : Type 0 where
  -- no slot is free: the parcel comes back
  NoSlotFree :
      free_slot old.member.table ≡ None →
      answer ≡ Err (PacketsFull, parcel) →
      new ≡ old →
      Receives parcel old answer new
  -- The packet stands in the lowest free slot, and the worker has all that the parcel's seat had,
  -- its part too.
  WasReceived :
      (slot : ℕ) →
      free_slot old.member.table ≡ Some slot →
      answer ≡ Ok slot →
      (lying : Option (List (Option (List Seg)))) →
      new ≡ record {
        seat = record old.seat { known = both_with old.seat.known parcel.seat.known lying };
        member = record old.member { table = slice_set old.member.table slot (Some parcel.packet) };
      } →
      Receives parcel old answer new

-- a receive's answer of the seat alone, where it comes back: the parcel has the packet that it had
abbrev pub with_packet : List Seg → Result ℕ (Refusal × Seated) → Result ℕ (Refusal × Parcelled)
with_packet packet (Ok slot) = Ok slot
with_packet packet (Err e) = Err (e.0, record { packet = packet; seat = e.1 })
