-- A packet is read from the bytes that it was written as; and what a packet under way is by its seat.
use Rattle.std.proofs.Common.{◌≡◌, ◌≢◌, inl, inr, Result, ℕ, ◌<◌, ◌≤◌, List, [], ◌∷◌, Option, Some, None, Ok, Err, get_or, length, map, refl, sym, ap, ◌∙◌, subst, arith}
use Rattle.std.specs.Prelude.{cond, ◌==◌}
use Rattle.std.proofs.lemmas.List.{get_or-map, length-map, same_lists}
use Rattle.std.proofs.lemmas.List.Elements.{All-get_or}
use Rattle.commons.specs.Packets.{HasItsData, IsPacket}
use Rattle.atomic_table.specs.Seated.{TableId}
use Rattle.commons.specs.declared.packet.Seg.{Seg}
use Rattle.commons.specs.declared.refusal.Refusal.{Refusal}
use Rattle.commons.specs.declared.refusal.Refusal.TheVariants.{PacketsFull}
use Rattle.ground.specs.Own.{KnowsDesks, Owned}
use Rattle.ground.specs.Parting.{parcel_view}
use Rattle.ground.specs.Seats.{Seated}
use Rattle.ground.specs.declared.known.Known.{Known}
use Rattle.mbuf.specs.PacketRules.{free_slot}
use Rattle.word_pool.specs.Parcels.{IsParcel, Parcelled, Receives, NoSlotFree, WasReceived, Sends, NoPartLeft, NothingToSend, WasSent}
use Rattle.word_pool.specs.Workers.{WorkerState}
use Rattle.word_pool.specs.declared.parcel.Unsent.{Unsent}
use Rattle.mbufpool_c.specs.Labelled.{Labelled}
use Rattle.mbufpool_c.specs.Parcels.{AreBytesOf, IsUnderWay, IsWhole, ReceivesAs, ReceivesBy, ReceivesIn, SendsAs, SendsIn, base_of, flag_of, read, written}
use Rattle.mbufpool_c.specs.declared.parcels.Parcel.{Parcel}
use Rattle.mbufpool_c.specs.declared.parcels.ParcelSegment.{ParcelSegment}

base_read : (base : Option ℕ) → cond (flag_of base == 0) None (Some (base_of base)) ≡ base
base_read None = refl
base_read (Some base) = refl

-- a segment is read as it was written
read_written : (s : Seg) → read (written s) ≡ s
read_written s = ap (λ (base : Option ℕ). record s { base = base }) (base_read s.base)

-- and so are all of a packet
pub read_all : (segs : List Seg) (bytes : List ParcelSegment) → AreBytesOf segs bytes → map read bytes ≡ segs
read_all segs bytes are =
    same_lists (map read bytes) segs (length-map bytes read ∙ are.as_many) (λ k d within.
    let low : k < length bytes = omega (arith, within, length-map bytes read) in
    let e : ParcelSegment = written d in
    get_or-map read bytes k e d low
    ∙ ap read (are.each k d e (omega (arith, low, are.as_many)))
    ∙ read_written (get_or segs k d))

-- each segment of a packet has its data
pub read_data : (bytes : List ParcelSegment) (k : ℕ) (d : ParcelSegment) → k < length bytes → IsPacket (map read bytes) →
    HasItsData (read (get_or bytes k d))
read_data bytes k d low is =
    subst HasItsData (get_or-map read bytes k d (read d) low)
    (All-get_or HasItsData (map read bytes) k (read d) (omega (arith, low, length-map bytes read)) is.each)

-- ---- a packet under way

-- nothing is refused where a packet stands there and a part is left
pub sent_always : (slot : ℕ) (m n : WorkerState) (cause : Unsent) (packet : List Seg) →
    get_or m.member.table slot None ≡ Some packet → 2 ≤ m.seat.known.view.part → Sends slot m (Err cause) n → ⊥
sent_always slot m n cause packet there part (NoPartLeft few answer same) = absurd (omega (arith, few, part))
sent_always slot m n cause packet there part (NothingToSend none answer same) = absurd cc
sent_always slot m n cause packet there part (WasSent q stands seat answer is) = absurd cc

-- a packet that was sent is under way, by the seat of its parcel
pub under_way : (slot : ℕ) (m n : WorkerState) (p : Parcelled) (u : Seated) (packet : List Seg) (out : Parcel) →
    Sends slot m (Ok p) n → u ≡ p.seat → IsParcel p → Owned u.known.limits u.known.view → KnowsDesks u.known →
    IsPacket packet → get_or m.member.table slot None ≡ Some packet → out.segments ≡ length packet →
    out.seat.table ≡ u.table → out.seat.views ≡ u.known ∷ [] → IsUnderWay n p out
under_way slot m n p u packet out (NoPartLeft few answer same) seated parcel owned desks is_packet stands segments table views =
    absurd cc
under_way slot m n p u packet out (NothingToSend none answer same) seated parcel owned desks is_packet stands segments table views =
    absurd cc
under_way slot m n p u packet out (WasSent q there seat answer is) seated parcel owned desks is_packet stands segments table views =
    let same : p ≡ q = cc in
    let packets : packet ≡ p.packet = cc in
    record {
      segments = segments ∙ ap length packets;
      table = table ∙ ap (λ (x : Seated). x.table) seated;
      seat = views ∙ ap (λ (x : Seated). x.known ∷ []) seated;
      of = record {
        table = ap (λ (x : Parcelled). x.seat.table) same ∙ seat.table ∙ sym (ap (λ (x : WorkerState). x.seat.table) is);
        limits =
            ap (λ (x : Parcelled). x.seat.known.limits) same ∙ ap (λ (x : Known). x.limits) seat.known
            ∙ sym (ap (λ (x : WorkerState). x.seat.known.limits) is);
      };
      packet = subst IsPacket packets is_packet;
      held = parcel;
      owned = subst (λ (x : Seated). Owned x.known.limits x.known.view) seated owned;
      desks = subst (λ (x : Seated). KnowsDesks x.known) seated desks;
    }

-- and so it is by the seat that was taken out of its parcel
pub under_way_by : (m : WorkerState) (p : Parcelled) (parcel : Parcel) (packet : List Seg) (u : Seated) →
    IsUnderWay m p parcel → packet ≡ p.packet → u.table ≡ parcel.seat.table → parcel.seat.views ≡ u.known ∷ [] →
    u.slots ≡ [] → IsUnderWay m (record { packet = packet; seat = u }) parcel
under_way_by m p parcel packet u way packets table views slots =
    let seats = way.seat in
    let knowns : p.seat.known ≡ u.known = cc in
    let is = way.held in
    record {
      segments = way.segments ∙ ap length (sym packets);
      table = sym table;
      seat = views;
      of = record {
        table = table ∙ way.table ∙ way.of.table;
        limits = ap (λ (x : Known). x.limits) (sym knowns) ∙ way.of.limits;
      };
      packet = subst IsPacket (sym packets) way.packet;
      held = record {
        view = ap (λ (x : Known). x.view) (sym knowns) ∙ is.view ∙ ap parcel_view (sym packets);
        steps = ap (λ (x : Known). x.steps) (sym knowns) ∙ is.steps;
        joined = ap (λ (x : Known). x.joined) (sym knowns) ∙ is.joined;
        slots = slots;
      };
      owned = subst (λ (x : Known). Owned x.limits x.view) knowns way.owned;
      desks = subst KnowsDesks knowns way.desks;
    }

-- a parcel with a packet has segments
pub some_segments : (m : WorkerState) (p : Parcelled) (parcel : Parcel) → IsUnderWay m p parcel → parcel.segments ≢ 0
some_segments m p parcel way none = absurd (let some = way.packet.some in omega (arith, some, way.segments, none))

-- where there is a parcel, and its bytes are as they were written, they are its packet's
pub whole_packet : (m : WorkerState) (parcel : Parcel) (bytes : List ParcelSegment) → IsWhole m parcel bytes →
    (parcel.segments ≡ 0 → ⊥) → (p : Parcelled) × IsUnderWay m p parcel × (map read bytes ≡ p.packet)
whole_packet m parcel bytes (inl none) some = absurd (some none)
whole_packet m parcel bytes (inr (p, way, are)) some = (p, way, read_all p.packet bytes are)

same_labelled : (m n : Labelled) → n.worker ≡ m.worker → n.labels ≡ m.labels → n ≡ m
same_labelled m n workers labels =
    ap (λ (w : WorkerState). record { worker = w; labels = n.labels }) workers
    ∙ ap (λ (ls : List ℕ). record { worker = m.worker; labels = ls }) labels

-- a parcel that has what another has
pub same_parcel : (a b : Parcel) → a.segments ≡ b.segments → a.seat.table ≡ b.seat.table → a.seat.views ≡ b.seat.views → a ≡ b
same_parcel a b segments tables views =
    ap (λ (n : ℕ). record a { segments = n }) segments
    ∙ ap (λ (z : TableId). record b { seat = record { table = z; views = a.seat.views } }) tables
    ∙ ap (λ (ks : List Known). record b { seat = record { table = b.seat.table; views = ks } }) views

-- what comes with a refusal
abbrev cause_in : Result ℕ (Refusal × Parcelled) → Refusal
cause_in (Ok slot) = PacketsFull
cause_in (Err e) = e.0

abbrev back_in : Parcelled → Result ℕ (Refusal × Parcelled) → Parcelled
back_in p (Ok slot) = p
back_in p (Err e) = e.1

refused_by : (p back : Parcelled) (m n : Labelled) (cause : Refusal) → Receives p m.worker (Err (cause, back)) n.worker →
    n.labels ≡ m.labels →
    (free_slot m.worker.member.table ≡ None) × (cause ≡ PacketsFull) × (back ≡ p) × (n ≡ m)
refused_by p back m n cause (NoSlotFree free answer same) labels =
    (free, ap cause_in answer, ap (back_in p) answer, same_labelled m n same labels)
refused_by p back m n cause (WasReceived slot free answer lying is) labels = absurd cc

-- a receive is refused where no slot is free, and the parcel comes back
pub not_received : (p back : Parcelled) (m n : Labelled) (cause : Refusal) → ReceivesBy p m (Err (cause, back)) n →
    (free_slot m.worker.member.table ≡ None) × (cause ≡ PacketsFull) × (back ≡ p) × (n ≡ m)
not_received p back m n cause by = refused_by p back m n cause by.receives by.labels

-- ---- of the worker of a handle

pub sends_in : (number : ℕ) (old new : Option Labelled) (m n : Labelled) (was out : Parcel)
    (places bytes : List ParcelSegment) (status : ℕ) → old ≡ Some m → new ≡ Some n →
    SendsAs number m was places status n out bytes → SendsIn number old was places status new out bytes
sends_in number old new m n was out places bytes status there back sends = rw there (rw back (n, refl, sends))

pub receives_in : (old new : Option Labelled) (m n : Labelled) (was parcel : Parcel) (before out status : ℕ) →
    old ≡ Some m → new ≡ Some n → ReceivesAs m was status n parcel before out →
    ReceivesIn old was status new parcel before out
receives_in old new m n was parcel before out status there back receives = rw there (rw back (n, refl, receives))
