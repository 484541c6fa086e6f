-- What a worker has without a packet that it has sent, and with one that it has received.
use Rattle.std.proofs.Common.{◌≡◌, ℕ, ◌<◌, ◌++◌, true, false, append-nil, get_or, Option, Some, None, Ok, Err, List, [], refl, sym, ap, ◌∙◌, subst, arith}
use Rattle.std.proofs.lemmas.Bool.{cond-true, cond-false, lt-ltb, le-ltb}
use Rattle.commons.specs.Bag.{bag}
use Rattle.commons.proofs.Bags.{bag-append}
use Rattle.commons.specs.Calls.{IsOffer, IsTake}
use Rattle.commons.specs.Packets.{holds_of_packet, own_of_packet}
use Rattle.commons.specs.declared.packet.Seg.{Seg}
use Rattle.commons.specs.declared.refusal.Refusal.{Refusal}
use Rattle.commons.specs.declared.refusal.Refusal.TheVariants.{PacketsFull}
use Rattle.ground.specs.Parting.{both_with, IsBoth, left_by_parcel, lent_parcel, parcel_view, parting}
use Rattle.ground.specs.Seats.{Grounded, Seated, IsOf}
use Rattle.ground.specs.declared.known.Known.{Known}
use Rattle.mbuf.specs.Members.{Member}
use Rattle.mbuf.specs.Own.{no_guests}
use Rattle.mbuf.specs.Parcels.{BringsIn, NoSlotFor, WasBroughtIn, HasPacket, TakesOut, NothingToTake, WasTakenOut}
use Rattle.mbuf.proofs.ParcelLemmas.{brought_in_left, own_brought_in, own_taken_out, standing_had, taken_out_left}
use Rattle.stack_lf.specs.Sides.{side_of}
use Rattle.stack_lf.proofs.Meeting.{kept}
use Rattle.stack_lf.proofs.Storing.{bag-minus}
use Rattle.step_core.specs.Bags.{has, minus}
use Rattle.step_core.specs.declared.view.View.{View}
use Rattle.mbuf.specs.PacketRules.{free_slot}
use Rattle.word_pool.specs.Parcels.{IsParcel, Parcelled, Receives, NoSlotFree, WasReceived, Sends, WasSent, with_stood}
use Rattle.word_pool.specs.Workers.{IsIdle, IsSameWorker}
use Rattle.word_pool.specs.inside.Kept.{worker_at}

-- what is still held is a header as before, without the packet's own elements
header_left : (v : View) (p : List Seg) (i : ℕ) → 0 < bag (parting p v).holds i →
    bag (parting p v).headers i ≡ bag (minus v.headers (own_of_packet p)) i
header_left v p i some =
    let holds : List ℕ = (parting p v).holds in
    let h : has holds i ≡ true = lt-ltb 0 (bag holds i) some in
    kept (has holds) (minus v.headers (own_of_packet p)) i
    ∙ cond-true (has holds i) (bag (minus v.headers (own_of_packet p)) i) 0 h

-- and what is held no more is none
header_ended : (v : View) (p : List Seg) (i : ℕ) → bag (parting p v).holds i ≡ 0 → bag (parting p v).headers i ≡ 0
header_ended v p i none =
    let holds : List ℕ = (parting p v).holds in
    let h : has holds i ≡ false = le-ltb 0 (bag holds i) (omega arith) in
    kept (has holds) (minus v.headers (own_of_packet p)) i
    ∙ cond-false (has holds i) (bag (minus v.headers (own_of_packet p)) i) 0 h

-- a packet that was sent has gone from the worker's side as an offered one does
sent_side : (p : List Seg) (s : Seated) → HasPacket p (side_of s) →
    IsOffer p (side_of s) (side_of (record s { known = left_by_parcel p s.known }))
sent_side p s had = record {
  limits = refl;
  hand = refl;
  holds = λ i. let m = had.held i in omega (arith, bag-minus s.known.view.holds (holds_of_packet p) i);
  own = had.headed;
  left = λ i some.
      let m = had.headed i in
      let e = header_left s.known.view p i some in
      omega (arith, bag-minus s.known.view.headers (own_of_packet p) i);
  ended = λ i none. header_ended s.known.view p i none;
}

-- and one that was received has come to it as one off a desk does
received_side : (p : List Seg) (s : Seated) (o : Known) (lying : Option (List (Option (List Seg)))) →
    o.view ≡ parcel_view p → IsTake p (side_of s) (side_of (record s { known = both_with s.known o lying }))
received_side p s o lying is = record {
  limits = refl;
  hand = ap (λ (v : View). bag (s.known.view.hand ++ v.hand)) is ∙ ap bag (append-nil s.known.view.hand);
  holds = λ i.
      ap (λ (v : View). bag (s.known.view.holds ++ v.holds) i) is ∙ bag-append s.known.view.holds (holds_of_packet p) i;
  headers = λ i.
      ap (λ (v : View). bag (s.known.view.headers ++ v.headers) i) is
      ∙ bag-append s.known.view.headers (own_of_packet p) i;
}

-- a worker that has sent a packet is between its acts, as before
pub sent_idle : (p : List Seg) (slot : ℕ) (s t : Seated) (m n : Member) → IsIdle (worker_at s m) →
    get_or m.table slot None ≡ Some p → TakesOut m slot (Ok tt) n → t ≡ record s { known = left_by_parcel p s.known } →
    IsIdle (worker_at t n)
sent_idle p slot s t m n idle there took is =
    let u : Seated = record s { known = left_by_parcel p s.known } in
    let here : IsIdle (worker_at u n) = record {
      rest = record { zeros = idle.rest.zeros; credit = idle.rest.credit; chain = idle.rest.chain; work = idle.rest.work };
      slots = idle.slots;
      own =
          own_taken_out no_guests m n (side_of s) (side_of u) slot p idle.own there took
          (sent_side p s (standing_had no_guests m (side_of s) slot p idle.own there));
    } in
    subst (λ (x : Seated). IsIdle (worker_at x n)) (sym is) here

-- and so is one that has received one
pub received_idle : (p : List Seg) (slot : ℕ) (s t : Seated) (o : Known) (lying : Option (List (Option (List Seg))))
    (m n : Member) → IsIdle (worker_at s m) → o.view ≡ parcel_view p → BringsIn m p (Ok slot) n →
    t ≡ record s { known = both_with s.known o lying } → IsIdle (worker_at t n)
received_idle p slot s t o lying m n idle of brought is =
    let u : Seated = record s { known = both_with s.known o lying } in
    let here : IsIdle (worker_at u n) = record {
      rest = record { zeros = refl; credit = refl; chain = refl; work = refl };
      slots = idle.slots;
      own =
          own_brought_in no_guests m n (side_of s) (side_of u) slot p idle.own brought
          (received_side p s o lying of);
    } in
    subst (λ (x : Seated). IsIdle (worker_at x n)) (sym is) here

-- ---- what a send did, by what its calls did

-- the parcel's seat has what the packet holds, and nothing else
pub is_parcel : (p : List Seg) (s u : Seated) → u.known ≡ lent_parcel p s.known → u.slots ≡ [] →
    IsParcel (record { packet = p; seat = u })
is_parcel p s u is slots = record {
  view = ap (λ (n : Known). n.view) is;
  steps = ap (λ (n : Known). n.steps) is;
  joined = ap (λ (n : Known). n.joined) is;
  slots = slots;
}

-- the packet went from its slot into the parcel
pub sent : (g : Grounded) (slot : ℕ) (s t u : Seated) (m n : Member) (p : List Seg) → IsOf g s → IsOf g u →
    get_or m.table slot None ≡ Some p → TakesOut m slot (Ok tt) n → t ≡ record s { known = left_by_parcel p s.known } →
    u.known ≡ lent_parcel p s.known → u.slots ≡ [] →
    Sends slot (worker_at s m) (with_stood (get_or m.table slot None) (Ok u)) (worker_at t n)
sent g slot s t u m n p of at there took is known slots =
    let parcel : Parcelled = record { packet = p; seat = u } in
    let left : Seated = record s { known = left_by_parcel p s.known } in
    WasSent parcel there (record { table = at.table ∙ sym of.table; known = known; slots = slots })
    (ap (λ (place : Option (List Seg)). with_stood place (Ok u)) there)
    (ap (λ (x : Seated). worker_at x n) is ∙ ap (λ (x : Member). worker_at left x) (taken_out_left m n slot took))

-- where a packet stands, it is taken out
pub always_taken : (m n : Member) (slot : ℕ) (p : List Seg) (cause : Refusal) → get_or m.table slot None ≡ Some p →
    TakesOut m slot (Err cause) n → ⊥
always_taken m n slot p cause there (NothingToTake none answer same) = absurd cc
always_taken m n slot p cause there (WasTakenOut segs stands answer is) = absurd cc

-- the worker is the same, but for its part
pub sent_same : (slot : ℕ) (s t : Seated) (m n : Member) (p : List Seg) → TakesOut m slot (Ok tt) n →
    t ≡ record s { known = left_by_parcel p s.known } → IsSameWorker (worker_at s m) (worker_at t n)
sent_same slot s t m n p took is = record {
  table = ap (λ (x : Seated). x.table) is;
  limits = ap (λ (x : Seated). x.known.limits) is;
  number = ap (λ (x : Member). x.number) (taken_out_left m n slot took);
}

-- ---- and a receive

-- a parcel that was taken apart
pub parcel_is : (parcel : Parcelled) (p : List Seg) (u : Seated) → p ≡ parcel.packet → u ≡ parcel.seat →
    ◌≡◌ {A = Parcelled} (record { packet = p; seat = u }) parcel
parcel_is parcel p u packet seat = rw (packet, seat) refl

-- where no slot was free, nothing has changed
pub unbrought : (m n : Member) (p : List Seg) (cause : Refusal) → BringsIn m p (Err cause) n →
    (free_slot m.table ≡ None) × (cause ≡ PacketsFull) × (n ≡ m)
unbrought m n p cause (NoSlotFor none answer same) = (none, cc, same)
unbrought m n p cause (WasBroughtIn slot free answer is) = absurd cc

-- the packet came from the parcel into its slot
pub received : (parcel : Parcelled) (slot : ℕ) (s t : Seated) (m n : Member) → BringsIn m parcel.packet (Ok slot) n →
    IsBoth s parcel.seat.known t → Receives parcel (worker_at s m) (Ok slot) (worker_at t n)
received parcel slot s t m n brought both =
    let all : Seated = record s { known = both_with s.known parcel.seat.known both.0 } in
    let came = brought_in_left m n slot parcel.packet brought in
    WasReceived slot came.0 refl both.0
    (ap (λ (x : Seated). worker_at x n) both.1 ∙ ap (λ (x : Member). worker_at all x) came.1)

pub received_same : (parcel : Parcelled) (slot : ℕ) (s t : Seated) (m n : Member) → BringsIn m parcel.packet (Ok slot) n →
    IsBoth s parcel.seat.known t → IsSameWorker (worker_at s m) (worker_at t n)
received_same parcel slot s t m n brought both = record {
  table = ap (λ (x : Seated). x.table) both.1;
  limits = ap (λ (x : Seated). x.known.limits) both.1;
  number = ap (λ (x : Member). x.number) (brought_in_left m n slot parcel.packet brought).1;
}

-- no slot was free
pub unreceived : (parcel : Parcelled) (s : Seated) (m n : Member) (cause : Refusal) → BringsIn m parcel.packet (Err cause) n →
    Receives parcel (worker_at s m) (Err (cause, parcel)) (worker_at s n)
unreceived parcel s m n cause brought =
    let no = unbrought m n parcel.packet cause brought in
    NoSlotFree no.0 (rw no.1 refl) (ap (λ (x : Member). worker_at s x) no.2)
