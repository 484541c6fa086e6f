-- What a worker carries, by what a call did to what it has.
use Rattle.std.proofs.Common.{◌≡◌, ℕ, ◌+◌, ◌<◌, List, [], ◌∷◌, Some, None, length, get_or, arith}
use Rattle.std.specs.Prelude.{Option}
use Rattle.commons.specs.Bag.{bag, one}
use Rattle.commons.specs.Calls.{IsClaim, IsGet}
use Rattle.commons.specs.Packets.{holds_in_slot, own_in_slot}
use Rattle.commons.specs.declared.packet.Seg.{Seg}
use Rattle.commons.proofs.Bags.{bag-nil, bag-single, bag-of_one, one-same}
use Rattle.ground.specs.Seats.{Seated}
use Rattle.stack_lf.specs.Sides.{side_of}
use Rattle.word_tests.specs.Carrying.{Carries}

-- whoever carries nothing needs to hold nothing
pub carries_none : (p : Option (List Seg)) (s : Seated) → p ≡ None → Carries p s
carries_none p s e = rw e (record {
  held = λ i. omega (arith, bag-nil i);
  own = λ i. omega (arith, bag-nil i);
})

-- a packet of one element with its own buffer holds that element once
held_once : (e off len buf i : ℕ) →
    bag (holds_in_slot (Some (record { elem = e; base = None; data_off = off; data_len = len; buf_len = buf } ∷ []))) i ≡ one e i
held_once e off len buf i = bag-single e i

owned_once : (e off len buf i : ℕ) →
    bag (own_in_slot (Some (record { elem = e; base = None; data_off = off; data_len = len; buf_len = buf } ∷ []))) i ≡ one e i
owned_once e off len buf i = bag-single e i

-- a list of one element that was got is in the hand
pub got_one : (xs : List ℕ) (s t : Seated) → length xs ≡ 1 → IsGet xs (side_of s) (side_of t) →
    0 < bag t.known.view.hand (get_or xs 0 0)
got_one xs s t len get =
    let e = get_or xs 0 0 in
    let hand : bag t.known.view.hand e ≡ bag s.known.view.hand e + bag xs e = get.hand e in
    omega (arith, hand, bag-of_one xs e len, one-same e)

-- whoever claimed an element carries a packet of it
pub carries_claimed : (p : List Seg) (e off len buf : ℕ) (s t : Seated) →
    p ≡ record { elem = e; base = None; data_off = off; data_len = len; buf_len = buf } ∷ [] →
    IsClaim e (side_of s) (side_of t) → Carries (Some p) t
carries_claimed p e off len buf s t is claim = rw is (record {
  held = λ i.
      let holds : bag t.known.view.holds i ≡ bag s.known.view.holds i + one e i = claim.holds i in
      omega (arith, holds, held_once e off len buf i);
  own = λ i.
      let headers : bag t.known.view.headers i ≡ bag s.known.view.headers i + one e i = claim.headers i in
      omega (arith, headers, owned_once e off len buf i);
})
