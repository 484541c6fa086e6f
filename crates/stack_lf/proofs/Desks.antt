-- What an offer and a take leave of a seat, from the steps that they take.
use Rattle.std.proofs.Common.{◌≡◌, ◌==◌, ℕ, ◌<◌, ◌≤◌, true, false, Some, None, List, [], ◌∷◌, refl, sym, ap, ◌∙◌, subst, arith}
use Rattle.std.specs.Prelude.{Result, Ok, Err}
use Rattle.std.proofs.lemmas.Bool.{cond-true, cond-false, eq-eqb, lt-ltb, le-ltb}
use Rattle.commons.specs.Bag.{bag}
use Rattle.commons.proofs.Bags.{bag-append}
use Rattle.commons.specs.Calls.{Offer, Take, HasEffect, Did}
use Rattle.commons.specs.Packets.{holds_of_packet, own_of_packet}
use Rattle.commons.specs.declared.packet.Seg.{Seg}
use Rattle.commons.specs.declared.refusal.Refusal.{Refusal}
use Rattle.commons.specs.declared.refusal.Refusal.TheVariants.{NoSuchDesk, DeskTaken, DeskEmpty}
use Rattle.step_core.specs.Bags.{minus, has}
use Rattle.step_core.specs.Views.{at_desk, phase_at, working}
use Rattle.step_core.specs.declared.view.Phase.{Phase}
use Rattle.step_core.specs.declared.view.Phase.TheVariants.{ToFill, Filled}
use Rattle.step_core.specs.declared.view.View.{View}
use Rattle.ground.specs.DeskSeats.{MayOpen, Holds, Fills}
use Rattle.ground.specs.Own.{Owned}
use Rattle.ground.specs.Seats.{Seated, view_with_slot}
use Rattle.stack_lf.specs.Effects.{OffersOnWords, TakesOnWords, offered_as, taken_as}
use Rattle.stack_lf.specs.Sides.{side_of}
use Rattle.stack_lf.specs.Tries.{OfferFailed, Offered, TakeFailed, Taken, DidOnWords}
use Rattle.stack_lf.proofs.Meeting.{doing, same_seat, kept}
use Rattle.stack_lf.proofs.Storing.{bag-minus}

-- ---- how far the seat is

phase_here : (d : ℕ) (ph : Phase) → phase_at d (at_desk d ph) ≡ Some ph
phase_here d ph = cond-true (d == d) (Some ph) None (eq-eqb d d refl)

-- a view with this work is so far
phase_seen : (d : ℕ) (ph : Phase) (s : Seated) (v : View) → view_with_slot s ≡ working v (at_desk d ph) →
    phase_at d (view_with_slot s).work ≡ Some ph
phase_seen d ph s v e = ap (λ (w : View). phase_at d w.work) e ∙ phase_here d ph

pub held_phase : (d : ℕ) (s t : Seated) → Holds d s t → phase_at d (view_with_slot t).work ≡ Some ToFill
held_phase d s t h = phase_seen d ToFill t (view_with_slot s) h.1

-- and so where the packet is in
filled_phase : (d : ℕ) (p : List Seg) (t u : Seated) → Fills d p t u →
    phase_at d (view_with_slot u).work ≡ Some (Filled p)
filled_phase d p t u f = phase_seen d (Filled p) u (view_with_slot t) f.1

-- ---- an offer

-- what the seat holds, and its headers, are the same once the packet is in
same_holds : (d : ℕ) (p : List Seg) (s t u : Seated) → Holds d s t → Fills d p t u →
    (view_with_slot u).holds ≡ s.known.view.holds
same_holds d p s t u h f =
    ap (λ (x : Seated). x.known.view.holds) f.0 ∙ ap (λ (x : Seated). x.known.view.holds) h.0

-- and its headers
same_headers : (d : ℕ) (p : List Seg) (s t u : Seated) → Holds d s t → Fills d p t u →
    (view_with_slot u).headers ≡ s.known.view.headers
same_headers d p s t u h f =
    ap (λ (x : Seated). x.known.view.headers) f.0 ∙ ap (λ (x : Seated). x.known.view.headers) h.0

-- what the seat has filled it may open, where it holds the packet and its own elements are headers
pub may_open : (d : ℕ) (p : List Seg) (s t u : Seated) → Owned s.known.limits s.known.view →
    ((i : ℕ) → bag (holds_of_packet p) i ≤ bag s.known.view.holds i) →
    ((i : ℕ) → bag (own_of_packet p) i ≤ bag s.known.view.headers i) → Holds d s t → Fills d p t u →
    MayOpen d (view_with_slot u)
may_open d p s t u o held own h f = record {
  packet = p;
  phase = filled_phase d p t u f;
  held = λ i.
      subst (λ (xs : List ℕ). bag (holds_of_packet p) i ≤ bag xs i) (sym (same_holds d p s t u h f))
      (held i);
  owned = (
    λ i. let once = o.header_once i in let m = own i in omega arith,
    λ i.
        subst (λ (xs : List ℕ). bag (own_of_packet p) i ≤ bag xs i)
        (sym (same_headers d p s t u h f)) (own i),
  );
}

-- ---- the calls, in the trait's words

-- what is no longer held is no header
header_left : (v : View) (p : List Seg) (i : ℕ) → 0 < bag (offered_as p v).holds i →
    bag (offered_as p v).headers i ≡ bag (minus v.headers (own_of_packet p)) i
header_left v p i some =
    let hs : List ℕ = (offered_as p v).holds in
    let h : has hs i ≡ true = lt-ltb 0 (bag hs i) some in
    kept (has hs) (minus v.headers (own_of_packet p)) i
    ∙ cond-true (has hs i) (bag (minus v.headers (own_of_packet p)) i) 0 h

-- and of what is held no more nothing is left among the headers
header_ended : (v : View) (p : List Seg) (i : ℕ) → bag (offered_as p v).holds i ≡ 0 →
    bag (offered_as p v).headers i ≡ 0
header_ended v p i none =
    let hs : List ℕ = (offered_as p v).holds in
    let h : has hs i ≡ false = le-ltb 0 (bag hs i) (omega arith) in
    kept (has hs) (minus v.headers (own_of_packet p)) i
    ∙ cond-false (has hs i) (bag (minus v.headers (own_of_packet p)) i) 0 h

-- the seat's view after an offer, and after a take
offer_effect : (d : ℕ) (p : List Seg) (s t : Seated) →
    ((i : ℕ) → bag (holds_of_packet p) i ≤ bag s.known.view.holds i) →
    ((i : ℕ) → bag (own_of_packet p) i ≤ bag s.known.view.headers i) → OffersOnWords d p (Ok tt) s t →
    HasEffect (Offer d p (Ok tt)) (side_of s) (side_of t)
offer_effect d p s t held own g =
    subst (λ (z : Seated). HasEffect (Offer d p (Ok tt)) (side_of s) (side_of z)) (sym g.1)
    (record {
      limits = refl;
      hand = refl;
      holds = λ i.
          let m = held i in
          omega (arith, bag-minus s.known.view.holds (holds_of_packet p) i);
      own = own;
      left = λ i some.
          let m = own i in
          let e = header_left s.known.view p i some in
          omega (arith, bag-minus s.known.view.headers (own_of_packet p) i);
      ended = λ i none. header_ended s.known.view p i none;
    })

-- the packet's holds and headers come to the seat by a take
take_effect : (d : ℕ) (p : List Seg) (s t : Seated) → TakesOnWords d (Ok p) s t →
    HasEffect (Take d (Ok p)) (side_of s) (side_of t)
take_effect d p s t g =
    subst (λ (z : Seated). HasEffect (Take d (Ok p)) (side_of s) (side_of z)) (sym g.1)
    (record {
      limits = refl;
      hand = refl;
      holds = λ i. bag-append s.known.view.holds (holds_of_packet p) i;
      headers = λ i. bag-append s.known.view.headers (own_of_packet p) i;
    })

-- what an offer did, by its answer
pub offer_did : (d : ℕ) (p : List Seg) (r : Result (Unit {0}) Refusal) (s t : Seated) →
    ((i : ℕ) → bag (holds_of_packet p) i ≤ bag s.known.view.holds i) →
    ((i : ℕ) → bag (own_of_packet p) i ≤ bag s.known.view.headers i) → OffersOnWords d p r s t →
    Did DidOnWords side_of s (Offer d p r) t
offer_did d p (Ok m) s t held own g =
    doing s (Offer d p (Ok m)) t (Offered d p ∷ []) (offered_as p s.known.view) (g.0, refl)
    (offer_effect d p s t held own g) g.1 refl (λ whole c. c) g.2 tt
offer_did d p (Err NoSuchDesk) s t held own g =
    doing s (Offer d p (Err NoSuchDesk)) t [] s.known.view (g.0, refl) (ap side_of g.1)
    (g.1 ∙ same_seat s) refl (λ whole c. c) tt tt
offer_did d p (Err DeskTaken) s t held own g =
    doing s (Offer d p (Err DeskTaken)) t (OfferFailed d g.0 ∷ []) s.known.view (g.0, g.1, g.2, refl)
    (ap side_of g.3) g.3 refl (λ whole c. c) g.4 tt
offer_did d p (Err _) s t held own g = absurd g

-- and what a take did
pub take_did : (d : ℕ) (r : Result (List Seg) Refusal) (s t : Seated) → TakesOnWords d r s t →
    Did DidOnWords side_of s (Take d r) t
take_did d (Ok p) s t g =
    doing s (Take d (Ok p)) t (Taken d p ∷ []) (taken_as p s.known.view) (g.0, refl)
    (take_effect d p s t g) g.1 refl (λ whole c. c) g.2 tt
take_did d (Err NoSuchDesk) s t g =
    doing s (Take d (Err NoSuchDesk)) t [] s.known.view (g.0, refl) (ap side_of g.1)
    (g.1 ∙ same_seat s) refl (λ whole c. c) tt tt
take_did d (Err DeskEmpty) s t g =
    doing s (Take d (Err DeskEmpty)) t (TakeFailed d g.0 ∷ []) s.known.view (g.0, g.1, g.2, refl)
    (ap side_of g.3) g.3 refl (λ whole c. c) g.4 tt
take_did d (Err _) s t g = absurd g
