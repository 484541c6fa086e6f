-- What an offer and a take do over the lists is what the reference model does.
use Rattle.std.proofs.Common.{ℕ, ◌≡◌, ◌≢◌, ◌<◌, nat_le, List, length, set, Option, Some, None, Result, Err, get_or-set_same, refl, sym, ap, ◌∙◌, subst, arith}
use Rattle.std.proofs.lemmas.Bool.{cond-true, cond-false, le-leb, lt-leb}
use Rattle.commons.specs.Calls.{Call}
use Rattle.commons.specs.declared.limits.Limits.{Limits}
use Rattle.commons.specs.declared.packet.Seg.{Seg}
use Rattle.commons.specs.declared.refusal.Refusal.{Refusal}
use Rattle.commons.specs.declared.refusal.Refusal.TheVariants.{DeskEmpty, DeskTaken, NoSuchDesk}
use Rattle.commons.specs.Lists.{Lists, IsTable, DidOffer, DidTake, desk_of}
use Rattle.mbuf.specs.Acts.{Reply}
use Rattle.mbuf.specs.declared.acts.Answer.TheVariants as reply
use Rattle.mbuf.specs.Acts.{offered as offered_reply, taken as taken_reply}
use Rattle.mbuf.specs.Desks.{Offers, NothingThere, NotOffered, WasOffered, Takes, NoDesk, NoSlot, NotTaken, WasTaken}
use Rattle.mbuf.specs.Members.{Member}
use Rattle.mbuf.specs.PacketRules.{free_slot}
use Rattle.mbuf.proofs.OwnLemmas.{free_slot-is}
use Rattle.pool_model.specs.Pool.{Shared}
use Rattle.pool_model.specs.PacketModel.{offer_onto, offer_in, offer, take_from, take_into, take_off}
use Rattle.commons.specs.PlainCalls.{LeadsPlain}
use Rattle.share_book.specs.inside.Own.{shared_of}
use Rattle.share_book.proofs.SharedBuffers.{nothing}

abbrev Outcome : Type 0
Outcome = Reply × Member × Shared

-- a desk that isn't empty has a packet
other_there : (place : Option (List Seg)) (segs : List Seg) (slot desk : ℕ) (m : Member)
    (s : Shared) → place ≢ None →
    offer_onto place segs slot desk m s ≡ (reply.Refused DeskTaken, m, s)
other_there None segs slot desk m s h = absurd (h refl)
other_there (Some other) segs slot desk m s h = refl

-- an offer of a packet that is there
offer_tried : (w : ℕ) (s t : Lists) (m : Member) (slot desk : ℕ) (segs : List Seg) (cause : Refusal)
    → DidOffer w s desk segs (Err cause) t → length s.desks ≡ s.limits.desks →
    (t ≡ s) × (offer_in (Some segs) slot desk m (shared_of s) ≡ (reply.Refused cause, m, shared_of s))
offer_tried w s t m slot desk segs NoSuchDesk did len = (
  did.1,
  cond-true (nat_le (length s.desks) desk) (reply.Refused NoSuchDesk, m, shared_of s)
      (offer_onto (desk_of s desk) segs slot desk m (shared_of s))
      (le-leb (length s.desks) desk (omega (arith, did.0, len))),
)
offer_tried w s t m slot desk segs DeskTaken did len = (
  did.2,
  cond-false (nat_le (length s.desks) desk) (reply.Refused NoSuchDesk, m, shared_of s)
      (offer_onto (desk_of s desk) segs slot desk m (shared_of s))
      (lt-leb (length s.desks) desk (omega (arith, did.0, len)))
      ∙ other_there (desk_of s desk) segs slot desk m (shared_of s) did.1,
)
offer_tried w s t m slot desk segs _ did len = absurd did

-- an offer's one call meets the desk as the model does: not there, taken, or empty and then filled
pub offer_by : (w : ℕ) (s t : Lists) (m after : Member) (slot desk : ℕ) (calls : List Call)
    (answer : Result (Unit {0}) Refusal) → Offers m slot desk calls answer after →
    LeadsPlain w s calls t → IsTable s →
    ◌≡◌ {A = Outcome} (offered_reply answer, after, shared_of t) (offer slot desk m (shared_of s))
offer_by w s t m after slot desk calls answer (NothingThere f c a k) h table =
    rw (a, k, nothing w s t calls c h) (sym (ap (λ (o : Option (List Seg)). offer_in o slot desk m (shared_of s)) f))
offer_by w s t m after slot desk calls answer (NotOffered segs f cause c a k) h table =
    let led = subst (λ (cs : List Call). LeadsPlain w s cs t) c h in
    let tried = offer_tried w s led.0 m slot desk segs cause led.1 table.desks in
    let stack : shared_of t ≡ shared_of s = ap shared_of (sym led.4 ∙ tried.0) in
    rw (a, k, stack) (sym (ap (λ (o : Option (List Seg)). offer_in o slot desk m (shared_of s)) f ∙ tried.1))
offer_by w s t m after slot desk calls answer (WasOffered segs f c a k) h table =
    let led = subst (λ (cs : List Call). LeadsPlain w s cs t) c h in
    let did = led.1 in
    let stack : shared_of t ≡ record (shared_of s) { desks = set s.desks desk (Some segs) } =
    ap shared_of (sym led.4 ∙ did.2) in
    rw (a, k, stack) (sym (ap (λ (o : Option (List Seg)). offer_in o slot desk m (shared_of s)) f
    ∙ cond-false (nat_le (length s.desks) desk) (reply.Refused NoSuchDesk, m, shared_of s)
    (offer_onto (desk_of s desk) segs slot desk m (shared_of s))
    (lt-leb (length s.desks) desk (omega (arith, did.0, table.desks)))
    ∙ ap (λ (o : Option (List Seg)). offer_onto o segs slot desk m (shared_of s)) did.1))

-- a take off a desk of the pool, by the lowest free slot
take_at : (s : Lists) (m : Member) (desk : ℕ) (free : Option ℕ) → desk < s.limits.desks →
    length s.desks ≡ s.limits.desks → free_slot m.table ≡ free →
    take_off desk m (shared_of s) ≡ take_into free desk m (shared_of s)
take_at s m desk free here len f =
    cond-false (nat_le (length s.desks) desk) (reply.Refused NoSuchDesk, m, shared_of s)
    (take_into (free_slot m.table) desk m (shared_of s))
    (lt-leb (length s.desks) desk (omega (arith, here, len)))
    ∙ ap (λ (o : Option ℕ). take_into o desk m (shared_of s)) f

-- a take that is refused on a desk of the pool
take_tried : (w : ℕ) (s t : Lists) (m : Member) (slot desk : ℕ) (cause : Refusal) →
    DidTake w s desk (Err cause) t → desk < s.limits.desks →
    (t ≡ s) × (take_from (desk_of s desk) slot desk m (shared_of s) ≡ (reply.Refused cause, m, shared_of s))
take_tried w s t m slot desk NoSuchDesk did here = absurd (omega (arith, did.0, here))
take_tried w s t m slot desk DeskEmpty did here =
    (did.2, ap (λ (o : Option (List Seg)). take_from o slot desk m (shared_of s)) did.1)
take_tried w s t m slot desk _ did here = absurd did

-- a take looks for the desk, then for a free slot, then for a packet there, as the model does
pub take_by : (w : ℕ) (s t : Lists) (m after : Member) (desk : ℕ) (calls : List Call)
    (answer : Result ℕ Refusal) → Takes m desk calls answer after → LeadsPlain w s calls t →
    IsTable s → s.limits ≡ m.limits →
    ◌≡◌ {A = Outcome} (taken_reply answer after.table, after, shared_of t) (take_off desk m (shared_of s))
take_by w s t m after desk calls answer (NoDesk past c a k) h table same =
    rw (a, k, nothing w s t calls c h) (sym (cond-true (nat_le (length s.desks) desk)
    (reply.Refused NoSuchDesk, m, shared_of s)
    (take_into (free_slot m.table) desk m (shared_of s))
    (le-leb (length s.desks) desk (omega (arith, past, table.desks, ap (λ (l : Limits). l.desks) same)))))
take_by w s t m after desk calls answer (NoSlot here f c a k) h table same =
    let within : desk < s.limits.desks = omega (arith, here, ap (λ (l : Limits). l.desks) same) in
    rw (a, k, nothing w s t calls c h) (sym (take_at s m desk None within table.desks f))
take_by w s t m after desk calls answer (NotTaken here slot f cause c a k) h table same =
    let within : desk < s.limits.desks = omega (arith, here, ap (λ (l : Limits). l.desks) same) in
    let led = subst (λ (cs : List Call). LeadsPlain w s cs t) c h in
    let tried = take_tried w s led.0 m slot desk cause led.1 within in
    let stack : shared_of t ≡ shared_of s = ap shared_of (sym led.4 ∙ tried.0) in
    rw (a, k, stack) (sym (take_at s m desk (Some slot) within table.desks f ∙ tried.1))
take_by w s t m after desk calls answer (WasTaken here slot f segs c a k) h table same =
    let within : desk < s.limits.desks = omega (arith, here, ap (λ (l : Limits). l.desks) same) in
    let led = subst (λ (cs : List Call). LeadsPlain w s cs t) c h in
    let did = led.1 in
    let stack : shared_of t ≡ record (shared_of s) { desks = set s.desks desk None } =
    ap shared_of (sym led.4 ∙ did.2) in
    let there = get_or-set_same m.table slot (Some segs) None (free_slot-is m.table slot f).0 in
    rw (a, k, stack, there) (sym (take_at s m desk (Some slot) within table.desks f
    ∙ ap (λ (o : Option (List Seg)). take_from o slot desk m (shared_of s)) did.1))
