-- What the calls on the lists do to the worker's side.
use Rattle.std.proofs.Common.{◌≡◌, ℕ, ◌<◌, ◌≤◌, List, Result, Ok, Err, arith, ap, refl}
use Rattle.commons.specs.declared.packet.Seg.{Seg}
use Rattle.commons.specs.declared.refusal.Refusal.{Refusal}
use Rattle.commons.specs.declared.refusal.Refusal.TheVariants.{NoEntries, HeadSpent, RefSpent, DeskTaken, DeskEmpty, NoSuchDesk}
use Rattle.commons.specs.declared.refusal.Lowered.{Lowered}
use Rattle.commons.specs.Bag.{bag}
use Rattle.commons.specs.Calls.{GetList, PutList, Claim, CountOf, Raise, Lower, Offer, Take, HasEffect, with_list}
use Rattle.commons.specs.Lists.{Lists, IsTable, DidGet, DidPut, DidRaise, DidLower, DidOffer, DidTake, hand_of, held_count, holds_of, header_of, place_of, side_of, after_claim}
use Rattle.commons.proofs.Tables.{hand_get, hand_put}
use Rattle.commons.proofs.Single.{hand_claim, holds_claim, headers_claim, hand_lower, holds_lower, headers_lower}
use Rattle.commons.proofs.Raising.{hold_le_count, hand_raise, holds_raise}

-- where the lists are the same, so is each worker's side
same : (s t : Lists) (w : ℕ) → t ≡ s → side_of t w ≡ side_of s w
same s t w e = ap (λ (x : Lists). side_of x w) e

-- a get that succeeds moves the elements listed into the hand; a refused one leaves the same lists
pub effect_get : (s : Lists) (w n : ℕ) (r : Result (Unit {0}) Refusal) (xs : List ℕ) (t : Lists) →
    IsTable s → DidGet w s n (with_list r xs) t →
    HasEffect (GetList n (with_list r xs)) (side_of s w) (side_of t w)
effect_get s w n (Ok _) xs t table d = record {
  limits = ap (λ (x : Lists). x.limits) d.3;
  hand = λ i. rw (d.2, d.3) (hand_get s w n table i);
  holds = ap {B = ℕ → ℕ} (λ (x : Lists) (i : ℕ). holds_of x w i) d.3;
  headers = ap {B = ℕ → ℕ} (λ (x : Lists) (i : ℕ). header_of x w i) d.3;
}
effect_get s w n (Err NoEntries) xs t table d = same s t w d.1
effect_get s w n (Err HeadSpent) xs t table d = same s t w d.2
effect_get s w n (Err _) xs t table d = absurd d

-- a put that succeeds takes the elements listed out of the hand; a refused one leaves the same
-- lists
pub effect_put : (s : Lists) (w : ℕ) (xs : List ℕ) (r : Result (Unit {0}) Refusal) (t : Lists) →
    ((i : ℕ) → bag xs i ≤ hand_of s w i) → DidPut s xs r t →
    HasEffect (PutList xs r) (side_of s w) (side_of t w)
effect_put s w xs (Ok _) t h d = record {
  limits = ap (λ (x : Lists). x.limits) d.1;
  hand = λ i. rw d.1 (hand_put s w xs h i);
  holds = ap {B = ℕ → ℕ} (λ (x : Lists) (i : ℕ). holds_of x w i) d.1;
  headers = ap {B = ℕ → ℕ} (λ (x : Lists) (i : ℕ). header_of x w i) d.1;
}
effect_put s w xs (Err HeadSpent) t h d = same s t w d.1
effect_put s w xs (Err _) t h d = absurd d

-- a claim takes the element out of the hand, and makes it a hold and a header
pub effect_claim : (s : Lists) (w i : ℕ) (t : Lists) → IsTable s → 1 ≤ w → w ≤ s.limits.workers →
    0 < hand_of s w i → t ≡ after_claim w i s →
    HasEffect (Claim i) (side_of s w) (side_of t w)
effect_claim s w i t table l b h d = record {
  limits = ap (λ (x : Lists). x.limits) d;
  hand = λ j. rw d (hand_claim s w i h j);
  holds = λ j. rw d (holds_claim s w i table l b h j);
  headers = λ j. rw d (headers_claim s w i table l h j);
}

-- a count changes nothing, and is at least the worker's own holds, which it sums among others
pub effect_count : (s : Lists) (w i n : ℕ) → IsTable s → 1 ≤ w → w ≤ s.limits.workers → n ≡ held_count (place_of s i) →
    HasEffect (CountOf i n) (side_of s w) (side_of s w)
effect_count s w i n table l b is = record {
  same = refl;
  own = omega (arith, is, hold_le_count s w i table l b);
  limited = omega (arith, is, table.limited i);
}

-- a raise that succeeds adds one hold of the element; a refused one leaves the same lists
pub effect_raise : (s : Lists) (w i : ℕ) (r : Result (Unit {0}) Refusal) (t : Lists) → IsTable s →
    1 ≤ w → w ≤ s.limits.workers → 0 < holds_of s w i → DidRaise w s i r t →
    HasEffect (Raise i r) (side_of s w) (side_of t w)
effect_raise s w i (Ok _) t table l b h d = record {
  held = h;
  limits = ap (λ (x : Lists). x.limits) d.1;
  hand = λ j. rw d.1 (hand_raise s w i table l b h w j);
  holds = λ j. rw d.1 (holds_raise s w i table l b h j);
  headers = ap {B = ℕ → ℕ} (λ (x : Lists) (j : ℕ). header_of x w j) d.1;
}
effect_raise s w i (Err RefSpent) t table l b h d = same s t w d.1
effect_raise s w i (Err _) t table l b h d = absurd d

-- a lower ends one hold: the last one brings the element to the hand and ends the header
pub effect_lower : (s : Lists) (w i : ℕ) (answer : Lowered) (t : Lists) → IsTable s → 1 ≤ w →
    w ≤ s.limits.workers → 0 < holds_of s w i → DidLower w s i answer t →
    HasEffect (Lower i answer) (side_of s w) (side_of t w)
effect_lower s w i answer t table l b h d = record {
  limits = ap (λ (x : Lists). x.limits) d.2;
  hand = λ j. rw d.2 (hand_lower s w i d.0 answer table l b h d.1 j);
  holds = λ j. rw d.2 (holds_lower s w i d.0 answer table l b h d.1 j);
  headers = λ j. rw d.2 (headers_lower s w i d.0 answer table l b h d.1 j);
}

-- an offer that succeeds takes the packet's holds and headers; a refused one leaves the same lists
pub effect_offer : (s : Lists) (w d : ℕ) (packet : List Seg) (r : Result (Unit {0}) Refusal)
    (t : Lists) → DidOffer w s d packet r t →
    HasEffect (Offer d packet r) (side_of s w) (side_of t w)
effect_offer s w d packet (Ok _) t h = record {
  limits = ap (λ (x : Lists). x.limits) h.2;
  hand = ap {B = ℕ → ℕ} (λ (x : Lists) (i : ℕ). hand_of x w i) h.2;
  holds = h.3.holds;
  own = h.3.own;
  left = h.3.left;
  ended = h.3.ended;
}
effect_offer s w d packet (Err NoSuchDesk) t h = same s t w h.1
effect_offer s w d packet (Err DeskTaken) t h = same s t w h.2
effect_offer s w d packet (Err _) t h = absurd h

-- a take that succeeds brings the packet's holds and headers; a refused one leaves the same lists
pub effect_take : (s : Lists) (w d : ℕ) (r : Result (List Seg) Refusal) (t : Lists) →
    DidTake w s d r t → HasEffect (Take d r) (side_of s w) (side_of t w)
effect_take s w d (Ok packet) t h = record {
  limits = ap (λ (x : Lists). x.limits) h.2;
  hand = ap {B = ℕ → ℕ} (λ (x : Lists) (i : ℕ). hand_of x w i) h.2;
  holds = h.3.holds;
  headers = h.3.headers;
}
effect_take s w d (Err NoSuchDesk) t h = same s t w h.1
effect_take s w d (Err DeskEmpty) t h = same s t w h.2
effect_take s w d (Err _) t h = absurd h
