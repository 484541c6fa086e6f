-- What a worker's packets do over the lists is what the reference model does.
use Rattle.std.proofs.Common.{ℕ, ◌≡◌, ◌+◌, nat_lt, ◌≤◌, arith, List, [], ◌∷◌, length, get_or, set, get_or-set_same, map, take, Option, Some, None, Result, Ok, Err, refl, sym, ap, ◌∙◌, subst}
use Rattle.std.proofs.lemmas.Bool.{cond-true, cond-false, lt-ltb, le-ltb}
use Rattle.commons.specs.Bag.{bag}
use Rattle.commons.specs.Calls.{Call, Claim}
use Rattle.commons.specs.declared.packet.Seg.{Seg}
use Rattle.commons.specs.declared.refusal.Refusal.{Refusal}
use Rattle.commons.specs.declared.refusal.Refusal.TheVariants.{PacketsFull}
use Rattle.commons.specs.Lists.{Lists, IsTable, held_count, place_of}
use Rattle.mbuf.specs.declared.acts.Act.{Act}
use Rattle.mbuf.specs.declared.acts.Act.TheVariants.{Alloc, AllocBulk, Free, Append, Prepend, Adj, Trim, Chain, Attach, Detach, ClonePacket, Offer, Take, CountOf, PktLen, NbSegs, Flush}
use Rattle.mbuf.specs.Acts.{Reply}
use Rattle.mbuf.specs.declared.acts.Answer.TheVariants as reply
use Rattle.mbuf.specs.declared.freed.Freed.{Freed}
use Rattle.mbuf.specs.Acts.{Performs, allocated, allocated_bulk, freed as freed_reply}
use Rattle.commons.specs.Packets.{holds_of_packet}
use Rattle.mbuf.specs.Members.{Member}
use Rattle.mbuf.specs.PacketRules.{Allocs, Full, NotGot, Fresh, AllocsBulk, TooFull, BulkNotGot, FreshBulk, Frees, NoPacket, WasFreed, fresh_seg, free_slots, freed_nothing}
use Rattle.pool_model.specs.Pool.{Shared}
use Rattle.pool_model.specs.CacheModel.{get}
use Rattle.pool_model.specs.PacketModel.{fill_slot, alloc_in, alloc, fill_slots, alloc_bulk, free_in, free, told_beside, chained_beside, after_flush, member_act}
use Rattle.commons.specs.PlainCalls.{LeadsPlain}
use Rattle.share_book.specs.inside.Own.{shared_of}
use Rattle.share_book.proofs.CacheCalls.{got, was_flushed}
use Rattle.share_book.proofs.EndedHolds.{ended}
use Rattle.mbuf.proofs.OwnLemmas.{free_slot-is}
use Rattle.commons.proofs.PlainCalls.{LeadsPlain-split}
use Rattle.share_book.proofs.DeskCalls.{offer_by, take_by}
use Rattle.share_book.proofs.SharedBuffers.{AreHeld, attach_by, clone_by, count_by, detach_by, nothing}

-- claims move no element of the stack
claimed : (w : ℕ) (s : Lists) (es : List ℕ) (t : Lists) → LeadsPlain w s (map Claim es) t → shared_of t ≡ shared_of s
claimed w s [] t h = ap shared_of (sym h)
claimed w s (e ∷ es) t h = claimed w h.0 es t h.4 ∙ ap shared_of h.1.1

abbrev Outcome : Type 0
Outcome = Reply × Member × Shared

-- the get is the model's, and the claim behind it moves nothing of what all workers share
alloc_by : (w : ℕ) (s t : Lists) (m after : Member) (calls : List Call) (answer : Result ℕ Refusal)
    → Allocs m calls answer after → LeadsPlain w s calls t →
    ◌≡◌ {A = Outcome} (allocated answer after.table, after, shared_of t) (alloc m (shared_of s))
alloc_by w s t m after calls answer (Full f c a k) h =
    rw (a, k, nothing w s t calls c h) (sym (ap (λ (o : Option ℕ). alloc_in o m (shared_of s)) f))
alloc_by w s t m after calls answer (NotGot slot f cause g a k) h =
    let r = got w s m.limits m.cache 1 calls (Err cause) m.cache t g h in
    rw (a, k) (ap (fill_slot slot m) r ∙ sym (ap (λ (o : Option ℕ). alloc_in o m (shared_of s)) f))
alloc_by w s t m after calls answer (Fresh slot e f by left g c a k) h =
    let p = LeadsPlain-split w s by (Claim e ∷ []) t (subst (λ (cs : List Call). LeadsPlain w s cs t) c h) in
    let r = got w s m.limits m.cache 1 by (Ok (e ∷ [])) left p.0 g p.1 in
    let there = get_or-set_same m.table slot (Some (fresh_seg m.limits e ∷ [])) None (free_slot-is m.table slot f).0 in
    rw (a, k, claimed w p.0 (e ∷ []) t p.2, there)
    (ap (fill_slot slot m) r ∙ sym (ap (λ (o : Option ℕ). alloc_in o m (shared_of s)) f))

-- one get for all the elements is the model's, and claims move nothing of what all share
bulk_by : (w : ℕ) (s t : Lists) (m after : Member) (n : ℕ) (calls : List Call)
    (answer : Result (List ℕ) Refusal) → AllocsBulk m n calls answer after →
    LeadsPlain w s calls t →
    ◌≡◌ {A = Outcome} (allocated_bulk answer after.table, after, shared_of t) (alloc_bulk n m (shared_of s))
bulk_by w s t m after n calls answer (TooFull few c a k) h =
    rw (a, k, nothing w s t calls c h) (sym (cond-true (nat_lt (length (free_slots m.table)) n)
    (reply.Refused PacketsFull, m, shared_of s)
    (fill_slots (take n (free_slots m.table)) m (get m.limits n m.cache (shared_of s)))
    (lt-ltb (length (free_slots m.table)) n few)))
bulk_by w s t m after n calls answer (BulkNotGot room cause g a k) h =
    let r = got w s m.limits m.cache n calls (Err cause) m.cache t g h in
    rw (a, k) (ap (fill_slots (take n (free_slots m.table)) m) r
    ∙ sym (cond-false (nat_lt (length (free_slots m.table)) n)
    (reply.Refused PacketsFull, m, shared_of s)
    (fill_slots (take n (free_slots m.table)) m (get m.limits n m.cache (shared_of s)))
    (le-ltb (length (free_slots m.table)) n room)))
bulk_by w s t m after n calls answer (FreshBulk es long room by left g c a k) h =
    let p = LeadsPlain-split w s by (map Claim es) t (subst (λ (cs : List Call). LeadsPlain w s cs t) c h) in
    let r = got w s m.limits m.cache n by (Ok es) left p.0 g p.1 in
    rw (a, k, claimed w p.0 es t p.2) (ap (fill_slots (take n (free_slots m.table)) m) r
    ∙ sym (cond-false (nat_lt (length (free_slots m.table)) n)
    (reply.Refused PacketsFull, m, shared_of s)
    (fill_slots (take n (free_slots m.table)) m (get m.limits n m.cache (shared_of s)))
    (le-ltb (length (free_slots m.table)) n room)))

-- how often the packets that stay hold each element, where a packet is freed
abbrev pub Elsewhere : Lists → Member → (ℕ → ℕ → ℕ) → Type 0
Elsewhere s m others =
    (slot : ℕ) (segs : List Seg) → get_or m.table slot None ≡ Some segs → (i : ℕ) →
    held_count (place_of s i) ≡ bag (holds_of_packet segs) i + others slot i

-- the outcome of a free: what was put back is told, the slot is empty, the cache as left
abbrev freed_with : ℕ → Member → Freed × List ℕ × Shared → Outcome
freed_with slot m d = (reply.Freed d.0, record m { cache = d.1; table = set m.table slot None }, d.2)

-- holds end in the packet's order, and the count at the lists says when one was the last
free_by : (w : ℕ) (s t : Lists) (m after : Member) (slot : ℕ) (others : ℕ → ℕ → ℕ)
    (calls : List Call) (answer : Result Freed Refusal) → Frees m slot calls answer after →
    LeadsPlain w s calls t → Elsewhere s m others →
    ◌≡◌ {A = Outcome} (freed_reply answer, after, shared_of t) (free (others slot) slot m (shared_of s))
free_by w s t m after slot others calls answer (NoPacket f c a k) h held =
    rw (a, k, nothing w s t calls c h)
    (sym (ap (λ (o : Option (List Seg)). free_in o (others slot) slot m (shared_of s)) f))
free_by w s t m after slot others calls answer (WasFreed segs left done f ends a k) h held =
    let r =
    ended w m.limits (others slot) (holds_of_packet segs) s t m.cache freed_nothing calls left
    done ends h (held slot segs f) in
    rw (a, k) (ap (freed_with slot m) r
    ∙ sym (ap (λ (o : Option (List Seg)). free_in o (others slot) slot m (shared_of s)) f))

-- a packet holds no more than all packets
held_within : (s : Lists) (m : Member) (all : ℕ → ℕ) (others : ℕ → ℕ → ℕ) → AreHeld s all →
    Elsewhere s m others → (slot : ℕ) (segs : List Seg) → get_or m.table slot None ≡ Some segs →
    (i : ℕ) → bag (holds_of_packet segs) i ≤ all i
held_within s m all others counts held slot segs there i = omega (arith, counts i, held slot segs there i)

-- what an act does by these calls is the model's
pub performed_by : (act : Act) (w : ℕ) (s t : Lists) (m after : Member) (calls : List Call)
    (r : Reply) (all : ℕ → ℕ) (others : ℕ → ℕ → ℕ) →
    Performs act m calls r after → LeadsPlain w s calls t → IsTable s → s.limits ≡ m.limits →
    AreHeld s all → Elsewhere s m others →
    ◌≡◌ {A = Outcome} (r, after, shared_of t) (member_act act all others m (shared_of s))
performed_by Alloc w s t m after calls r all others p h table same counts held =
    rw p.2 (alloc_by w s t m after calls p.0 p.1 h)
performed_by (AllocBulk n) w s t m after calls r all others p h table same counts held =
    rw p.2 (bulk_by w s t m after n calls p.0 p.1 h)
performed_by (Free slot) w s t m after calls r all others p h table same counts held =
    rw p.2 (free_by w s t m after slot others calls p.0 p.1 h held)
performed_by (Append slot n) w s t m after calls r all others p h table same counts held =
    rw (p.3, nothing w s t calls p.2 h) (ap (told_beside (shared_of s)) p.1)
performed_by (Prepend slot n) w s t m after calls r all others p h table same counts held =
    rw (p.3, nothing w s t calls p.2 h) (ap (told_beside (shared_of s)) p.1)
performed_by (Adj slot n) w s t m after calls r all others p h table same counts held =
    rw (p.3, nothing w s t calls p.2 h) (ap (told_beside (shared_of s)) p.1)
performed_by (Trim slot n) w s t m after calls r all others p h table same counts held =
    rw (p.3, nothing w s t calls p.2 h) (ap (told_beside (shared_of s)) p.1)
performed_by (Chain head tail) w s t m after calls r all others p h table same counts held =
    rw (p.3, nothing w s t calls p.2 h) (ap (chained_beside head (shared_of s)) p.1)
performed_by (Attach mi target) w s t m after calls r all others p h table same counts held =
    rw p.2 (attach_by w s t m after mi target all calls p.0 p.1 h same counts)
performed_by (Detach slot) w s t m after calls r all others p h table same counts held =
    rw p.2 (detach_by w s t m after slot all calls p.0 p.1 h counts
    (held_within s m all others counts held))
performed_by (ClonePacket source) w s t m after calls r all others p h table same counts held =
    rw p.2 (clone_by w s t m after source all calls p.0 p.1 h table same counts
    (held_within s m all others counts held))
performed_by (Offer slot desk) w s t m after calls r all others p h table same counts held =
    rw p.2 (offer_by w s t m after slot desk calls p.0 p.1 h table)
performed_by (Take desk) w s t m after calls r all others p h table same counts held =
    rw p.2 (take_by w s t m after desk calls p.0 p.1 h table same)
performed_by (CountOf slot) w s t m after calls r all others p h table same counts held =
    rw (p.2, p.3) (count_by w s t m slot all calls p.0 (get_or m.table slot None) refl p.1 h counts)
performed_by (PktLen slot) w s t m after calls r all others p h table same counts held =
    rw (p.0, p.2, nothing w s t calls p.1 h) refl
performed_by (NbSegs slot) w s t m after calls r all others p h table same counts held =
    rw (p.0, p.2, nothing w s t calls p.1 h) refl
performed_by Flush w s t m after calls r all others p h table same counts held =
    let f = was_flushed w s m.cache calls p.0 after.cache t p.1 h in
    rw p.3 (ap (λ (x : Member). let o : Outcome = (reply.Put p.0, x, shared_of t) in o) p.2 ∙ ap (after_flush m) f)
