-- How often elements are named, as sums over what names them.
use Rattle.std.proofs.Common.{ℕ, ◌≡◌, ◌+◌, Bool, List, [], ◌∷◌, refl, arith}
use Rattle.std.specs.Prelude.{sum_by}
use Rattle.std.proofs.lemmas.List.Sums.{sum_by-cons}
use Rattle.commons.specs.Bag.{bag}
use Rattle.commons.specs.declared.packet.Seg.{Seg}
use Rattle.commons.specs.Packets.{held_in, holds_of_packet, holds_of_seg}
use Rattle.commons.proofs.Bags.{bag-nil, bag-append}
use Rattle.pool_model.specs.Guests.{guest_holds, local_table}
use Rattle.snapshot.specs.declared.snapshot.ShareData.{ShareData}
use Rattle.snapshot.specs.declared.snapshot.Snapshot.{Snapshot}
use Rattle.snapshot.specs.Snapshots.{times_named}
use Rattle.snapshot.proofs.Times.{held-is}

-- a packet, by its segments
pub packet-sum : (segs : List Seg) (e : ℕ) →
    sum_by (λ seg. bag (holds_of_seg seg) e) segs ≡ bag (holds_of_packet segs) e
packet-sum [] e = omega (arith, bag-nil e)
packet-sum (seg ∷ segs) e = omega (
  arith,
  packet-sum segs e,
  sum_by-cons (λ (s : Seg). bag (holds_of_seg s) e) seg segs,
  bag-append (holds_of_seg seg) (holds_of_packet segs) e,
)

-- shares, by caches and by slots
shares-sum : (foreign : Bool) (shares : List ShareData) (e : ℕ) →
    sum_by (λ share. bag share.cache e + held_in (local_table foreign share.slots) e) shares
    ≡ sum_by (λ share. bag share.cache e) shares + sum_by (λ share. held_in (local_table foreign share.slots) e) shares
shares-sum foreign [] e = refl
shares-sum foreign (share ∷ shares) e = omega (
  arith,
  shares-sum foreign shares e,
  sum_by-cons (λ (x : ShareData). bag x.cache e + held_in (local_table foreign x.slots) e) share shares,
  sum_by-cons (λ (x : ShareData). bag x.cache e) share shares,
  sum_by-cons (λ (x : ShareData). held_in (local_table foreign x.slots) e) share shares,
)

-- all of a snapshot, by its guests, by its shares and by its desks
pub named-sum : (s : Snapshot) (e : ℕ) →
    guest_holds s.guests e
    + (sum_by (λ share. bag share.cache e + held_in (local_table s.foreign share.slots) e) s.shares
    + held_in (local_table s.foreign s.desks) e)
    ≡ times_named s e
named-sum s e = omega (arith, shares-sum s.foreign s.shares e, held-is s e)
