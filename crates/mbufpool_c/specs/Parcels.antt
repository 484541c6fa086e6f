-- Packets that pass from one worker to another by the bytes of a parcel, which C keeps.
use Rattle.std.specs.Prelude.{ℕ, ◌≡◌, ◌≢◌, ◌⊎◌, ◌<◌, ◌≤◌, ◌==◌, cond, List, [], ◌∷◌, Option, Some, None, Result, Ok, Err, length, slice_index_or, ⊤}
use Rattle.commons.specs.Packets.{IsPacket}
use Rattle.commons.specs.Refusals.{number_of}
use Rattle.commons.specs.declared.packet.Seg.{Seg}
use Rattle.commons.specs.declared.refusal.Refusal.{Refusal}
use Rattle.commons.specs.declared.refusal.Refusal.TheVariants.{InUse, NoRoom, NoSuchPacket, PacketsFull, StrangerShare}
use Rattle.ground.specs.Own.{Owned, KnowsDesks}
use Rattle.ground.specs.Seats.{Grounded, IsOf}
use Rattle.mbuf.specs.PacketRules.{free_slot}
use Rattle.word_pool.specs.Parcels.{IsParcel, Parcelled, Receives, Sends}
use Rattle.word_pool.specs.Workers.{WorkerState}
use Rattle.word_pool.specs.declared.parcel.Unsent.{Unsent}
use Rattle.mbufpool_c.specs.Labelled.{Labelled}
use Rattle.mbufpool_c.specs.Labels.{label_in, slot_in, went_from}
use Rattle.mbufpool_c.specs.declared.parcels.Parcel.{Parcel}
use Rattle.mbufpool_c.specs.declared.parcels.ParcelSegment.{ParcelSegment}

-- ---- bytes

abbrev pub base_of : Option ℕ → ℕ
base_of None = 0
base_of (Some base) = base

abbrev pub flag_of : Option ℕ → ℕ
flag_of None = 0
flag_of (Some base) = 1

-- a segment, as it is written in a parcel
abbrev pub written : Seg → ParcelSegment
written s = record {
  element = s.elem;
  base = base_of s.base;
  off = s.data_off;
  len = s.data_len;
  buf = s.buf_len;
  indirect = flag_of s.base;
}

-- and as it is read
abbrev pub read : ParcelSegment → Seg
read b = record {
  elem = b.element;
  base = cond (b.indirect == 0) None (Some b.base);
  data_off = b.off;
  data_len = b.len;
  buf_len = b.buf;
}

-- the places have these segments in order, and behind them what they had
pub record Writes (segs : List Seg) (was out : List ParcelSegment) : Type 0 where
  pub each : (k : ℕ) (d : Seg) (e : ParcelSegment) → k < length segs →
      slice_index_or out k e ≡ written (slice_index_or segs k d)
  pub behind : (k : ℕ) (e : ParcelSegment) → length segs ≤ k → slice_index_or out k e ≡ slice_index_or was k e

-- these are the bytes of a packet as they were written
pub record AreBytesOf (segs : List Seg) (bytes : List ParcelSegment) : Type 0 where
  pub as_many : length bytes ≡ length segs
  pub each : (k : ℕ) (d : Seg) (e : ParcelSegment) → k < length segs →
      slice_index_or bytes k e ≡ written (slice_index_or segs k d)

-- ---- a packet under way

-- the pool of a worker
abbrev pub pool_of : WorkerState → Grounded
pool_of m = record { table = m.seat.table; limits = m.seat.known.limits }

-- C has a packet of this worker's pool under way, by the seat of its parcel, which holds what the
-- packet holds.
pub record IsUnderWay (m : WorkerState) (p : Parcelled) (parcel : Parcel) : Type 0 where
  pub segments : parcel.segments ≡ length p.packet
  pub table : parcel.seat.table ≡ p.seat.table
  pub seat : parcel.seat.views ≡ p.seat.known ∷ []
  pub of : IsOf (pool_of m) p.seat
  pub packet : IsPacket p.packet
  pub held : IsParcel p
  pub owned : Owned p.seat.known.limits p.seat.known.view
  pub desks : KnowsDesks p.seat.known

-- there is no parcel, or one of this worker's pool, and its bytes are as they were written
abbrev pub IsWhole : WorkerState → Parcel → List ParcelSegment → Type 0
IsWhole m parcel bytes =
    (parcel.segments ≡ 0) ⊎ ((p : Parcelled) × IsUnderWay m p parcel × AreBytesOf p.packet bytes)

-- so of the worker of a handle, where it has one
abbrev pub IsWholeFor : Option Labelled → Parcel → List ParcelSegment → Type 0
IsWholeFor None parcel bytes = ⊤
IsWholeFor (Some m) parcel bytes = IsWhole m.worker parcel bytes

-- ---- what a worker did

-- the labels once a packet was sent from a slot, unless that was refused
abbrev pub labels_sent : Result Parcelled Unsent → ℕ → List ℕ → List ℕ
labels_sent (Ok p) slot labels = went_from slot labels
labels_sent (Err cause) slot labels = labels

-- the worker sent the packet of this number, and was answered so
pub record SendsBy (number : ℕ) (m : Labelled) (answer : Result Parcelled Unsent) (n : Labelled) : Type 0 where
  pub sends : Sends (slot_in m.labels number) m.worker answer n.worker
  pub labels : n.labels ≡ labels_sent answer (slot_in m.labels number) m.labels

-- it received this parcel, and was answered so
pub record ReceivesBy (p : Parcelled) (m : Labelled) (answer : Result ℕ (Refusal × Parcelled)) (n : Labelled) : Type 0 where
  pub receives : Receives p m.worker answer n.worker
  pub labels : n.labels ≡ m.labels

-- ---- what C is answered

-- what no other call is refused by: the worker has a part of 1 left
abbrev pub no_part : ℕ
no_part = 31

-- the packet of this number, where the worker has one
abbrev pub packet_in : Labelled → ℕ → Option (List Seg)
packet_in m number = slice_index_or m.worker.member.table (slot_in m.labels number) None

-- nothing has changed
pub record NothingSent (m n : Labelled) (was out : Parcel) (places bytes : List ParcelSegment) : Type 0 where
  pub worker : n ≡ m
  pub same : out ≡ was
  pub unwritten : bytes ≡ places

-- What a send of the packet of this number is answered, and does with the parcel and the places for its
-- segments. Of two causes for a refusal the one that stands first here is answered.
pub data SendsAs (number : ℕ) (m : Labelled) (was : Parcel) (places : List ParcelSegment) (status : ℕ)
    (n : Labelled) (out : Parcel) (bytes : List ParcelSegment) : Type 0 where
  -- a parcel is there still
  IsThere :
      was.segments ≢ 0 →
      status ≡ number_of InUse →
      NothingSent m n was out places bytes →
      SendsAs number m was places status n out bytes
  -- no packet has the number
  IsNone :
      was.segments ≡ 0 →
      packet_in m number ≡ None →
      status ≡ number_of NoSuchPacket →
      NothingSent m n was out places bytes →
      SendsAs number m was places status n out bytes
  -- it has more segments than there are places
  TooFewPlaces :
      (segs : List Seg) →
      was.segments ≡ 0 →
      packet_in m number ≡ Some segs →
      length places < length segs →
      status ≡ number_of NoRoom →
      NothingSent m n was out places bytes →
      SendsAs number m was places status n out bytes
  -- the worker has a part of 1 left
  NoPartLeft :
      (segs : List Seg) →
      was.segments ≡ 0 →
      packet_in m number ≡ Some segs →
      length segs ≤ length places →
      m.worker.seat.known.view.part < 2 →
      status ≡ no_part →
      NothingSent m n was out places bytes →
      SendsAs number m was places status n out bytes
  -- the packet is under way: the worker has it no more, and its segments are written
  IsSent :
      (p : Parcelled) →
      was.segments ≡ 0 →
      SendsBy number m (Ok p) n →
      status ≡ 0 →
      IsUnderWay n.worker p out →
      Writes p.packet places bytes →
      SendsAs number m was places status n out bytes

-- what a receive of a parcel is answered, and does with the parcel; C has the packet's label
pub data ReceivesAs (m : Labelled) (was : Parcel) (status : ℕ) (n : Labelled) (parcel : Parcel) (old out : ℕ) : Type 0 where
  -- there is none
  NoParcel :
      was.segments ≡ 0 →
      status ≡ number_of NoSuchPacket →
      n ≡ m →
      parcel ≡ was →
      out ≡ old →
      ReceivesAs m was status n parcel old out
  -- no slot is free, and the parcel stays
  NoSlotFree :
      was.segments ≢ 0 →
      free_slot m.worker.member.table ≡ None →
      status ≡ number_of PacketsFull →
      n ≡ m →
      parcel ≡ was →
      out ≡ old →
      ReceivesAs m was status n parcel old out
  -- the packet stands in a slot of the worker, who has all that it holds, and there is no parcel any more
  IsReceived :
      (p : Parcelled) →
      (slot : ℕ) →
      IsUnderWay m.worker p was →
      ReceivesBy p m (Ok slot) n →
      status ≡ 0 →
      parcel.segments ≡ 0 →
      parcel.seat.views ≡ [] →
      out ≡ label_in n.labels slot →
      ReceivesAs m was status n parcel old out

-- so of the worker of a handle; where there is none nothing was done, and C has the number of a stranger
abbrev pub SendsIn : ℕ → Option Labelled → Parcel → List ParcelSegment → ℕ → Option Labelled → Parcel →
    List ParcelSegment → Type 0
SendsIn number None was places status new out bytes =
    (status ≡ number_of StrangerShare) × (new ≡ None) × (out ≡ was) × (bytes ≡ places)
SendsIn number (Some m) was places status new out bytes =
    (n : Labelled) × (new ≡ Some n) × SendsAs number m was places status n out bytes

abbrev pub ReceivesIn : Option Labelled → Parcel → ℕ → Option Labelled → Parcel → ℕ → ℕ → Type 0
ReceivesIn None was status new parcel old out =
    (status ≡ number_of StrangerShare) × (new ≡ None) × (parcel ≡ was) × (out ≡ old)
ReceivesIn (Some m) was status new parcel old out =
    (n : Labelled) × (new ≡ Some n) × ReceivesAs m was status n parcel old out
