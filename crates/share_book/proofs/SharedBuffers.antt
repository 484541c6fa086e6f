-- What the calls on shared buffers do over the lists is what the reference model does.
use Rattle.std.proofs.Common.{ℕ, ◌≡◌, ◌≢◌, ◌+◌, ◌-◌, ◌<◌, ◌≤◌, ◌==◌, inl, inr, cond, List, [], ◌∷◌, ◌++◌, get_or, set, get_or-set_same, get_or-set_other, Option, Some, None, Result, Ok, Err, append_assoc, refl, sym, ap, ◌∙◌, subst, arith}
use Rattle.std.proofs.lemmas.Bool.{cases_eq, cond-true, cond-false, eq-eqb, ne_eqb}
use Rattle.std.proofs.lemmas.List.{append-nil}
use Rattle.std.proofs.lemmas.Grind.{flat_map-append}
use Rattle.commons.specs.Bag.{bag, one}
use Rattle.commons.specs.Calls.{Call, Claim, Raise}
use Rattle.commons.specs.declared.limits.Limits.{Limits}
use Rattle.commons.specs.declared.packet.Seg.{Seg}
use Rattle.commons.specs.declared.place.Place.TheVariants.{Held}
use Rattle.commons.specs.declared.refusal.Refusal.{Refusal}
use Rattle.commons.specs.declared.refusal.Refusal.TheVariants.{InUse, RefSpent}
use Rattle.commons.specs.Lists.{Lists, IsTable, DidRaise, after_claim, after_raise, hand_of, held_count, nowhere, place_of}
use Rattle.commons.proofs.Bags.{bag-nil, bag-append, bag-single, one-same}
use Rattle.commons.proofs.Places.{is_hand, one-apart, stands_in_hand}
use Rattle.mbuf.specs.Acts.{Reply}
use Rattle.mbuf.specs.declared.acts.Answer.TheVariants as reply
use Rattle.mbuf.specs.declared.freed.Freed.{Freed}
use Rattle.mbuf.specs.Acts.{attached as attached_reply, cloned as cloned_reply, freed as freed_reply, told_count}
use Rattle.commons.specs.Packets.{hold_of, holds_of_packet, holds_of_seg}
use Rattle.mbuf.specs.Members.{Member}
use Rattle.mbuf.specs.PacketRules.{fresh_seg, free_slot, freed_nothing}
use Rattle.mbuf.specs.Sharing.{Attaches, NotAttachable, HeldElsewhere, NotRaised, WasAttached, Detaches, NotDetachable, WasDetached, Clones, NotClonable, WasGivenUp, WasCloned, ClonesSeg, ClonesSegs, CountsOf, StopsCloning, NoElement, NoRaise, attached, buffer_of, first_seg}
use Rattle.mbuf.proofs.ActLemmas.{clonable_free}
use Rattle.mbuf.proofs.CloneLemmas.{attached_holds, buffer_held, holds-more}
use Rattle.mbuf.proofs.EndLemmas.{EndsHolds-one}
use Rattle.mbuf.proofs.OwnLemmas.{free_slot-is}
use Rattle.mbuf.proofs.SharingLemmas.{found_base, holds_alone}
use Rattle.pool_model.specs.Pool.{Shared}
use Rattle.pool_model.specs.PacketModel.{beside}
use Rattle.pool_model.specs.SharingModel.{Cloned, attach, attach_to, clone, clone_at, clone_segs, clone_to, count, detach, detach_from, give_up, with_element}
use Rattle.pool_model.proofs.SharedKeep.{clonable_there}
use Rattle.commons.specs.PlainCalls.{LeadsPlain}
use Rattle.share_book.specs.inside.Own.{shared_of}
use Rattle.share_book.proofs.CacheCalls.{got, gets_request}
use Rattle.share_book.proofs.EndedHolds.{Counts, ended, held_within, requests_count}
use Rattle.commons.proofs.PlainCalls.{LeadsPlain-split, LeadsPlain-limits}

-- the count of each element is how often all packets hold it
abbrev pub AreHeld : Lists → (ℕ → ℕ) → Type 0
AreHeld s held = (i : ℕ) → held_count (place_of s i) ≡ held i

-- what is in a hand has no count
not_counted : (s : Lists) (w e : ℕ) → 0 < hand_of s w e → held_count (place_of s e) ≡ 0
not_counted s w e h = ap held_count (is_hand w (place_of s e) h)

-- the counts once an element is claimed
pub counts_claimed : (s : Lists) (w e : ℕ) (es : List ℕ) (others : ℕ → ℕ) → 0 < hand_of s w e →
    Counts s es others → Counts (after_claim w e s) (es ++ e ∷ []) others
counts_claimed s w e es others h counts i = elim (cases_eq i e) [
  | inl same ↦
      rw (same, get_or-set_same s.places e (Held 1) nowhere (stands_in_hand s.places w e h))
      (omega (
        arith,
        not_counted s w e h,
        counts e,
        bag-append es (e ∷ []) e,
        bag-single e e,
        one-same e,
      ))
  | inr other ↦
      rw (get_or-set_other s.places e i (Held 1) nowhere other)
      (omega (arith, counts i, bag-append es (e ∷ []) i, bag-single e i, one-apart e i other))
]

-- and once one has a hold more
pub count_raised : (s : Lists) (w b i : ℕ) → 0 < held_count (place_of s b) →
    held_count (place_of (after_raise w b s) i) ≡ held_count (place_of s i) + one b i
count_raised s w b i h = elim (cases_eq i b) [
  | inl same ↦
      rw (
        same,
        get_or-set_same s.places b (Held (held_count (place_of s b) + 1)) nowhere
            (held_within s.places b h),
        one-same b,
      ) refl
  | inr other ↦
      rw (
        get_or-set_other s.places b i (Held (held_count (place_of s b) + 1)) nowhere other,
        one-apart b i other,
      ) (omega arith)
]

-- a raise is refused on the lists where the count is at its limit
pub raise_refused : (w : ℕ) (s : Lists) (b : ℕ) (cause : Refusal) (t : Lists) →
    DidRaise w s b (Err cause) t →
    (cause ≡ RefSpent) × (held_count (place_of s b) ≡ s.limits.ref_limit) × (t ≡ s)
raise_refused w s b RefSpent t d = (refl, d.0, d.1)
raise_refused w s b _ t d = absurd d

-- where nothing is called, the stack is as before
pub nothing : (w : ℕ) (s t : Lists) (calls : List Call) → calls ≡ [] → LeadsPlain w s calls t →
    shared_of t ≡ shared_of s
nothing w s t calls e h = ap shared_of (sym (subst (λ (cs : List Call). LeadsPlain w s cs t) e h))

-- ---- cloning

-- what was cloned so far, and what is left for the model
pub record ClonedTo (w : ℕ) (l : Limits) (held : ℕ → ℕ) (segs rest new more : List Seg)
    (cache left : List ℕ) (s t : Lists) : Type 0 where
  pub is : clone_segs l held segs new cache (shared_of s) ≡ clone_segs l held rest (new ++ more) left (shared_of t)
  pub counts : Counts t (holds_of_packet (new ++ more)) held
  pub table : IsTable t
  pub limits : t.limits ≡ l

-- a segment that is cloned
one_cloned : (w : ℕ) (l : Limits) (held : ℕ → ℕ) (seg : Seg) (segs new : List Seg) (cache : List ℕ)
    (s t : Lists) (calls : List Call) (one : Seg) (left : List ℕ) →
    ClonesSeg l seg cache calls one left → LeadsPlain w s calls t → IsTable s → s.limits ≡ l →
    Counts s (holds_of_packet new) held → 0 < held (buffer_of seg) →
    ClonedTo w l held (seg ∷ segs) segs new (one ∷ []) cache left s t
one_cloned w l held seg segs new cache s t calls one left c led table same counts buffer =
    let e = c.elem in
    let b = buffer_of seg in
    let p =
    LeadsPlain-split w s c.get (Claim e ∷ Raise b (Ok tt) ∷ []) t
    (subst (λ (cs : List Call). LeadsPlain w s cs t) c.called led) in
    let claim = p.2 in
    let raise = claim.4 in
    let g = got w s l cache 1 c.get (Ok (e ∷ [])) left p.0 c.got p.1 in
    let got_counts : Counts p.0 (holds_of_packet new) held =
    λ i.
    requests_count w s c.get p.0 table
    (gets_request l cache 1 c.get (Ok (e ∷ [])) left c.got) p.1 i ∙ counts i in
    let claimed : Counts claim.0 (holds_of_packet new ++ e ∷ []) held =
    subst (λ (x : Lists). Counts x (holds_of_packet new ++ e ∷ []) held) (sym claim.1.1)
    (counts_claimed p.0 w e (holds_of_packet new) held claim.1.0 got_counts) in
    let limits : claim.0.limits ≡ l =
    ap (λ (x : Lists). x.limits) claim.1.1 ∙ LeadsPlain-limits w s c.get p.0 p.1 ∙ same in
    let below : held b + bag (holds_of_packet new) b ≢ l.ref_limit =
    λ q.
    absurd (omega (
      arith,
      q,
      raise.1.0,
      claimed b,
      bag-append (holds_of_packet new) (e ∷ []) b,
      ap (λ (x : Limits). x.ref_limit) limits,
    ))
    in
    let some : 0 < held_count (place_of claim.0 b) = omega (arith, claimed b, buffer) in
    let stack : shared_of t ≡ shared_of p.0 =
    ap shared_of (sym raise.4) ∙ ap shared_of raise.1.1 ∙ ap shared_of claim.1.1 in
    let met : ℕ → List ℕ → Shared → Cloned =
    λ x kept u.
    cond (held b + bag (holds_of_packet new) b == l.ref_limit)
    (give_up l held (holds_of_packet new ++ x ∷ []) RefSpent kept u)
    (clone_segs l held segs (new ++ attached x seg ∷ []) kept u) in
    let refused : Refusal → List ℕ → Shared → Cloned =
    λ cause kept u. give_up l held (holds_of_packet new) cause kept u in
    record {
      is = ap (λ (r : Result (List ℕ) Refusal × List ℕ × Shared). with_element r met refused) (sym g)
          ∙ cond-false (held b + bag (holds_of_packet new) b == l.ref_limit)
          (give_up l held (holds_of_packet new ++ e ∷ []) RefSpent left (shared_of p.0))
          (clone_segs l held segs (new ++ attached e seg ∷ []) left (shared_of p.0))
          (ne_eqb (held b + bag (holds_of_packet new) b) l.ref_limit below)
          ∙ ap (λ (u : Shared). clone_segs l held segs (new ++ attached e seg ∷ []) left u)
          (sym stack) ∙ ap
          (λ (x : Seg). clone_segs l held segs (new ++ x ∷ []) left (shared_of t)) (sym c.is);
      counts = λ i.
          ap (λ (x : Lists). held_count (place_of x i)) (sym raise.4 ∙ raise.1.1)
          ∙ omega (
            arith,
            count_raised claim.0 w b i some,
            claimed i,
            bag-append (holds_of_packet new) (e ∷ []) i,
            bag-single e i,
            attached_holds e seg one i c.is,
            ap (λ (es : List ℕ). bag es i) (holds-more new one),
            bag-append (holds_of_packet new) (holds_of_seg one) i,
          );
      table = subst IsTable raise.4 raise.3;
      limits = ap (λ (x : Lists). x.limits) (sym raise.4 ∙ raise.1.1) ∙ limits;
    }

-- segments that are cloned one after another
cloned_by : (w : ℕ) (l : Limits) (held : ℕ → ℕ) (segs rest new : List Seg) (cache : List ℕ)
    (s t : Lists) (calls : List Call) (more : List Seg) (left : List ℕ) →
    ClonesSegs l segs cache calls more left → LeadsPlain w s calls t → IsTable s → s.limits ≡ l →
    Counts s (holds_of_packet new) held → ((i : ℕ) → bag (holds_of_packet segs) i ≤ held i) →
    ClonedTo w l held (segs ++ rest) rest new more cache left s t
cloned_by w l held [] rest new cache s t calls more left c led table same counts within =
    let e : s ≡ t = subst (λ (cs : List Call). LeadsPlain w s cs t) c.0 led in
    let n : new ++ more ≡ new = ap (λ (x : List Seg). new ++ x) c.1 ∙ append-nil new in
    record {
      is = rw (n, c.2, ← e) refl;
      counts = rw (n, ← e) counts;
      table = subst IsTable e table;
      limits = ap (λ (x : Lists). x.limits) (sym e) ∙ same;
    }
cloned_by w l held (seg ∷ segs) rest new cache s t calls more left c led table same counts within =
    let first = c.0 in
    let others = c.1 in
    let between = c.2 in
    let one = c.3 in
    let later = c.4 in
    let p = LeadsPlain-split w s first others t (subst (λ (cs : List Call). LeadsPlain w s cs t) c.5 led) in
    let buffer : 0 < held (buffer_of seg) =
    omega (arith, within (buffer_of seg), buffer_held (seg ∷ segs) 0 seg (omega arith)) in
    let a = one_cloned w l held seg (segs ++ rest) new cache s p.0 first one between c.7 p.1 table same counts buffer in
    let b =
    cloned_by w l held segs rest (new ++ one ∷ []) between p.0 t others later left c.8 p.2
    a.table a.limits a.counts
    (λ i. omega (arith, within i, bag-append (holds_of_seg seg) (holds_of_packet segs) i)) in
    let n : new ++ one ∷ [] ++ later ≡ new ++ more =
    append_assoc new (one ∷ []) later ∙ ap (λ (x : List Seg). new ++ x) (sym c.6) in
    record {
      is = a.is ∙ b.is ∙ ap (λ (x : List Seg). clone_segs l held rest x left (shared_of t)) n;
      counts = rw (← n) b.counts;
      table = b.table;
      limits = b.limits;
    }

-- a segment that isn't cloned
stopped_by : (w : ℕ) (l : Limits) (held : ℕ → ℕ) (seg : Seg) (segs new : List Seg) (cache : List ℕ)
    (s t : Lists) (calls : List Call) (cause : Refusal) (over : Option ℕ) (left : List ℕ) →
    StopsCloning l seg cache calls cause over left → LeadsPlain w s calls t → IsTable s →
    s.limits ≡ l → Counts s (holds_of_packet new) held → 0 < held (buffer_of seg) →
    (clone_segs l held (seg ∷ segs) new cache (shared_of s)
    ≡ give_up l held (holds_of_packet new ++ hold_of over) cause left (shared_of t))
    × Counts t (holds_of_packet new ++ hold_of over) held
stopped_by w l held seg segs new cache s t calls cause over left (NoElement g o k) led table same counts buffer =
    let b = buffer_of seg in
    let met : ℕ → List ℕ → Shared → Cloned =
    λ x kept u.
    cond (held b + bag (holds_of_packet new) b == l.ref_limit)
    (give_up l held (holds_of_packet new ++ x ∷ []) RefSpent kept u)
    (clone_segs l held segs (new ++ attached x seg ∷ []) kept u) in
    let refused : Refusal → List ℕ → Shared → Cloned =
    λ cause kept u. give_up l held (holds_of_packet new) cause kept u in
    let r = got w s l cache 1 calls (Err cause) cache t g led in
    let n : holds_of_packet new ++ hold_of over ≡ holds_of_packet new =
    ap (λ (x : Option ℕ). holds_of_packet new ++ hold_of x) o
    ∙ append-nil (holds_of_packet new) in (
      rw (n, k) (ap (λ (x : Result (List ℕ) Refusal × List ℕ × Shared). with_element x met refused) (sym r)),
      rw n (λ i. requests_count w s calls t table (gets_request l cache 1 calls (Err cause) cache g) led i ∙ counts i),
    )
stopped_by w l held seg segs new cache s t calls cause over left (NoRaise e gets g called o) led
    table same counts buffer =
    let b = buffer_of seg in
    let met : ℕ → List ℕ → Shared → Cloned =
    λ x kept u.
    cond (held b + bag (holds_of_packet new) b == l.ref_limit)
    (give_up l held (holds_of_packet new ++ x ∷ []) RefSpent kept u)
    (clone_segs l held segs (new ++ attached x seg ∷ []) kept u) in
    let refused : Refusal → List ℕ → Shared → Cloned =
    λ cause kept u. give_up l held (holds_of_packet new) cause kept u in
    let p =
    LeadsPlain-split w s gets (Claim e ∷ Raise b (Err cause) ∷ []) t
    (subst (λ (cs : List Call). LeadsPlain w s cs t) called led) in
    let claim = p.2 in
    let raise = claim.4 in
    let r = got w s l cache 1 gets (Ok (e ∷ [])) left p.0 g p.1 in
    let got_counts : Counts p.0 (holds_of_packet new) held =
    λ i.
    requests_count w s gets p.0 table (gets_request l cache 1 gets (Ok (e ∷ [])) left g) p.1
    i ∙ counts i in
    let claimed : Counts claim.0 (holds_of_packet new ++ e ∷ []) held =
    subst (λ (x : Lists). Counts x (holds_of_packet new ++ e ∷ []) held) (sym claim.1.1)
    (counts_claimed p.0 w e (holds_of_packet new) held claim.1.0 got_counts) in
    let limits : claim.0.limits ≡ l =
    ap (λ (x : Lists). x.limits) claim.1.1 ∙ LeadsPlain-limits w s gets p.0 p.1 ∙ same in
    let spent = raise_refused w claim.0 b cause raise.0 raise.1 in
    let apart : b ≢ e =
    λ q.
    absurd (omega (
      arith,
      got_counts b,
      buffer,
      ap (λ (x : ℕ). held_count (place_of p.0 x)) q,
      not_counted p.0 w e claim.1.0,
    )) in
    let full : held b + bag (holds_of_packet new) b ≡ l.ref_limit =
    omega (
      arith,
      spent.1,
      claimed b,
      bag-append (holds_of_packet new) (e ∷ []) b,
      bag-single e b,
      one-apart e b apart,
      ap (λ (x : Limits). x.ref_limit) limits,
    ) in
    let after : t ≡ claim.0 = sym raise.4 ∙ spent.2 in
    let stack : shared_of t ≡ shared_of p.0 = ap shared_of after ∙ ap shared_of claim.1.1 in (
      rw (o, spent.0, stack) (ap (λ (x : Result (List ℕ) Refusal × List ℕ × Shared). with_element x met refused) (sym r)
          ∙ cond-true (held b + bag (holds_of_packet new) b == l.ref_limit)
          (give_up l held (holds_of_packet new ++ e ∷ []) RefSpent left (shared_of p.0))
          (clone_segs l held segs (new ++ attached e seg ∷ []) left (shared_of p.0))
          (eq-eqb (held b + bag (holds_of_packet new) b) l.ref_limit full)),
      rw o (subst (λ (x : Lists). Counts x (holds_of_packet new ++ e ∷ []) held) (sym after) claimed),
    )

-- ---- the calls

abbrev Outcome : Type 0
Outcome = Reply × Member × Shared

-- segment by segment a clone's calls are the model's, and one that stops gives back all that it got
pub clone_by : (w : ℕ) (s t : Lists) (m after : Member) (source : ℕ) (held : ℕ → ℕ)
    (calls : List Call) (answer : Result ℕ Refusal) → Clones m source calls answer after →
    LeadsPlain w s calls t → IsTable s → s.limits ≡ m.limits → AreHeld s held →
    ((slot : ℕ) (segs : List Seg) → get_or m.table slot None ≡ Some segs → (i : ℕ) →
    bag (holds_of_packet segs) i ≤ held i) →
    ◌≡◌ {A = Outcome} (cloned_reply answer after.table, after, shared_of t) (clone held source m (shared_of s))
clone_by w s t m after source held calls answer (NotClonable cause f c a k) led table same counts within =
    rw (a, k, nothing w s t calls c led)
    (sym (ap (λ (r : Result (List Seg × ℕ) Refusal). clone_at r held m (shared_of s)) f))
clone_by w s t m after source held calls answer (WasCloned segs slot f new left g a k) led table same counts within =
    let free = clonable_free (get_or m.table source None) (free_slot m.table) segs slot f in
    let here = clonable_there (get_or m.table source None) (free_slot m.table) segs slot f in
    let there = get_or-set_same m.table slot (Some new) None (free_slot-is m.table slot free).0 in
    let done =
    cloned_by w m.limits held segs [] [] m.cache s t calls new left g led table same
    (λ i. omega (arith, counts i, bag-nil i)) (within source segs here) in
    let is : clone_segs m.limits held segs [] m.cache (shared_of s) ≡ (Ok new, left, shared_of t) =
    ap (λ (x : List Seg). clone_segs m.limits held x [] m.cache (shared_of s)) (sym (append-nil segs)) ∙ done.is in
    rw (a, k, there) (sym (
    ap (λ (r : Result (List Seg × ℕ) Refusal). clone_at r held m (shared_of s)) f
    ∙ ap (clone_to slot m) is))
clone_by w s t m after source held calls answer (WasGivenUp segs slot f cause left g a k) led table same counts within =
    let here = clonable_there (get_or m.table source None) (free_slot m.table) segs slot f in
    let both =
    LeadsPlain-split w s (g.so_far ++ g.stop) g.ends t
    (subst (λ (cs : List Call). LeadsPlain w s cs t) g.called led) in
    let p = LeadsPlain-split w s g.so_far g.stop both.0 both.1 in
    let whole : (i : ℕ) → bag (holds_of_packet segs) i
    ≡ bag (holds_of_packet g.cloned) i
    + (bag (holds_of_seg g.seg) i + bag (holds_of_packet g.others) i) =
    λ i.
    ap (λ (x : List Seg). bag (holds_of_packet x) i) g.whole
    ∙ ap (λ (es : List ℕ). bag es i) (flat_map-append holds_of_seg g.cloned (g.seg ∷ g.others))
    ∙ bag-append (holds_of_packet g.cloned) (holds_of_seg g.seg ++ holds_of_packet g.others) i
    ∙ ap (λ (n : ℕ). bag (holds_of_packet g.cloned) i + n)
    (bag-append (holds_of_seg g.seg) (holds_of_packet g.others) i) in
    let b = buffer_of g.seg in
    let buffer : 0 < held b =
    omega (
      arith,
      within source segs here b,
      whole b,
      buffer_held (g.seg ∷ g.others) 0 g.seg (omega arith),
      bag-append (holds_of_seg g.seg) (holds_of_packet g.others) b,
    ) in
    let done =
    cloned_by w m.limits held g.cloned (g.seg ∷ g.others) [] m.cache s p.0 g.so_far g.new g.kept
    g.clones p.1 table same (λ i. omega (arith, counts i, bag-nil i))
    (λ i. omega (arith, within source segs here i, whole i)) in
    let stop =
    stopped_by w m.limits held g.seg g.others g.new g.kept p.0 both.0 g.stop cause g.over
    g.stopped g.stops p.2 done.table done.limits done.counts buffer in
    let ends =
    ended w m.limits held (holds_of_packet g.new ++ hold_of g.over) both.0 t g.stopped
    freed_nothing g.ends left g.done g.ended both.2 stop.1 in
    let is : clone_segs m.limits held segs [] m.cache (shared_of s) ≡ (Err cause, left, shared_of t) =
    ap (λ (x : List Seg). clone_segs m.limits held x [] m.cache (shared_of s)) g.whole ∙ done.is
    ∙ stop.0 ∙ ap (λ (d : Freed × List ℕ × Shared). let r : Cloned = (Err cause, d.1, d.2) in r)
    (sym ends) in
    rw (a, k) (sym (ap (λ (r : Result (List Seg × ℕ) Refusal). clone_at r held m (shared_of s)) f
    ∙ ap (clone_to slot m) is))

-- a packet that is attached, and one that is where the count allows it
abbrev with_attached : ℕ → Seg → ℕ → Member → Reply × Member
with_attached e seg mi m = (reply.Attached, record m { table = set m.table mi (Some (attached e seg ∷ [])) })

-- where the count of the buffer's element is the limit the attach is refused, else it is done
abbrev attach_if : (ℕ → ℕ) → Seg → ℕ → ℕ → Member → Reply × Member
attach_if held seg e mi m =
    cond (held (buffer_of seg) == m.limits.ref_limit) (reply.Refused RefSpent, m)
    (with_attached e seg mi m)

-- an attach
pub attach_by : (w : ℕ) (s t : Lists) (m after : Member) (mi target : ℕ) (held : ℕ → ℕ)
    (calls : List Call) (answer : Result (Unit {0}) Refusal) →
    Attaches m mi target calls answer after → LeadsPlain w s calls t → s.limits ≡ m.limits →
    AreHeld s held →
    ◌≡◌ {A = Outcome} (attached_reply answer, after, shared_of t) (beside (shared_of s) (attach held mi target m))
attach_by w s t m after mi target held calls answer (NotAttachable cause f c a k) led same counts =
    rw (a, k, nothing w s t calls c led) (sym
    (ap (λ (r : Result (ℕ × Seg) Refusal). beside (shared_of s) (attach_to r held mi m)) f))
attach_by w s t m after mi target held calls answer (HeldElsewhere e n seg f other c a k) led same counts =
    let h = subst (λ (cs : List Call). LeadsPlain w s cs t) c led in
    let stack : shared_of t ≡ shared_of s = ap shared_of (sym h.4) ∙ ap shared_of h.1.1 in
    let more : held e ≢ 1 = λ q. other (h.1.0 ∙ counts e ∙ q) in
    rw (a, k, stack) (sym (ap (λ (r : Result (ℕ × Seg) Refusal). beside (shared_of s) (attach_to r held mi m)) f
    ∙ ap (beside (shared_of s)) (cond-false (held e == 1) (attach_if held seg e mi m)
    (reply.Refused InUse, m) (ne_eqb (held e) 1 more))))
attach_by w s t m after mi target held calls answer (NotRaised e seg f cause c a k) led same counts =
    let h = subst (λ (cs : List Call). LeadsPlain w s cs t) c led in
    let raise = h.4 in
    let spent = raise_refused w h.0 (buffer_of seg) cause raise.0 raise.1 in
    let stack : shared_of t ≡ shared_of s = ap shared_of (sym raise.4 ∙ spent.2) ∙ ap shared_of h.1.1 in
    let alone : held e ≡ 1 = sym (h.1.0 ∙ counts e) in
    let full : held (buffer_of seg) ≡ m.limits.ref_limit =
    sym (counts (buffer_of seg))
    ∙ ap (λ (x : Lists). held_count (place_of x (buffer_of seg))) (sym h.1.1) ∙ spent.1
    ∙ ap (λ (x : Lists). x.limits.ref_limit) h.1.1 ∙ ap (λ (x : Limits). x.ref_limit) same in
    rw (a, k, spent.0, stack) (sym (ap
    (λ (r : Result (ℕ × Seg) Refusal). beside (shared_of s) (attach_to r held mi m)) f
    ∙ ap (beside (shared_of s)) (cond-true (held e == 1) (attach_if held seg e mi m)
    (reply.Refused InUse, m) (eq-eqb (held e) 1 alone)
    ∙ cond-true (held (buffer_of seg) == m.limits.ref_limit) (reply.Refused RefSpent, m)
    (with_attached e seg mi m) (eq-eqb (held (buffer_of seg)) m.limits.ref_limit full))))
attach_by w s t m after mi target held calls answer (WasAttached e seg f c a k) led same counts =
    let h = subst (λ (cs : List Call). LeadsPlain w s cs t) c led in
    let raise = h.4 in
    let stack : shared_of t ≡ shared_of s = ap shared_of (sym raise.4) ∙ ap shared_of raise.1.1 ∙ ap shared_of h.1.1 in
    let alone : held e ≡ 1 = sym (h.1.0 ∙ counts e) in
    let was : held_count (place_of h.0 (buffer_of seg)) ≡ held (buffer_of seg) =
    ap (λ (x : Lists). held_count (place_of x (buffer_of seg))) h.1.1
    ∙ counts (buffer_of seg) in
    let limit : h.0.limits.ref_limit ≡ m.limits.ref_limit =
    ap (λ (x : Lists). x.limits.ref_limit) h.1.1 ∙ ap (λ (x : Limits). x.ref_limit) same in
    let below : held (buffer_of seg) ≢ m.limits.ref_limit = λ q. absurd (omega (arith, raise.1.0, was, limit, q)) in
    rw (a, k, stack) (sym (ap (λ (r : Result (ℕ × Seg) Refusal). beside (shared_of s) (attach_to r held mi m)) f
    ∙ ap (beside (shared_of s)) (cond-true (held e == 1) (attach_if held seg e mi m)
    (reply.Refused InUse, m) (eq-eqb (held e) 1 alone)
    ∙ cond-false (held (buffer_of seg) == m.limits.ref_limit) (reply.Refused RefSpent, m)
    (with_attached e seg mi m) (ne_eqb (held (buffer_of seg)) m.limits.ref_limit below))))

-- one hold of an element, and the others
less_one : (n base i : ℕ) (held : ℕ → ℕ) → n ≡ held i → 0 < held base → n ≡ bag (base ∷ []) i + (held i - one base i)
less_one n base i held e some = elim (cases_eq i base) [
  | inl same ↦ rw same (omega (arith, ap held same, e, some, bag-single base base, one-same base))
  | inr other ↦ omega (arith, e, bag-single base i, one-apart base i other)
]

-- a detach
pub detach_by : (w : ℕ) (s t : Lists) (m after : Member) (slot : ℕ) (held : ℕ → ℕ)
    (calls : List Call) (answer : Result Freed Refusal) → Detaches m slot calls answer after →
    LeadsPlain w s calls t → AreHeld s held →
    ((slot : ℕ) (segs : List Seg) → get_or m.table slot None ≡ Some segs → (i : ℕ) →
    bag (holds_of_packet segs) i ≤ held i) →
    ◌≡◌ {A = Outcome} (freed_reply answer, after, shared_of t) (detach held slot m (shared_of s))
detach_by w s t m after slot held calls answer (NotDetachable cause f c a k) led counts within =
    rw (a, k, nothing w s t calls c led)
    (sym (ap (λ (r : Result (ℕ × ℕ) Refusal). detach_from r held slot m (shared_of s)) f))
detach_by w s t m after slot held calls answer (WasDetached e base f left done g a k) led counts within =
    let found = found_base (get_or m.table slot None) e base f in
    let some : 0 < held base =
    omega (
      arith,
      within slot (found.own ∷ []) found.here base,
      holds_alone (Some base) found.own base found.base_is,
      bag-single base base,
      one-same base,
    ) in
    let r =
    ended w m.limits (λ i. held i - one base i) (base ∷ []) s t m.cache freed_nothing calls left
    done (EndsHolds-one m.limits base m.cache freed_nothing calls left done g) led
    (λ i. less_one (held_count (place_of s i)) base i held (counts i) some) in
    rw (a, k) (ap (λ (d : Freed × List ℕ × Shared). let o : Outcome = (
      reply.Freed d.0,
      record m { cache = d.1; table = set m.table slot (Some (fresh_seg m.limits e ∷ [])) },
      d.2,
    ) in o) r
    ∙ sym (ap (λ (x : Result (ℕ × ℕ) Refusal). detach_from x held slot m (shared_of s)) f))

-- and a count
pub count_by : (w : ℕ) (s t : Lists) (m : Member) (slot : ℕ) (held : ℕ → ℕ) (calls : List Call)
    (answer : Result ℕ Refusal) (o : Option (List Seg)) → get_or m.table slot None ≡ o →
    CountsOf o calls answer → LeadsPlain w s calls t → AreHeld s held →
    ◌≡◌ {A = Outcome} (told_count answer, m, shared_of t) (count held slot m, m, shared_of s)
count_by w s t m slot held calls answer None f c led counts = rw (f, c.1, nothing w s t calls c.0 led) refl
count_by w s t m slot held calls answer (Some segs) f c led counts =
    let h = subst (λ (cs : List Call). LeadsPlain w s cs t) c.1 led in
    let stack : shared_of t ≡ shared_of s = ap shared_of (sym h.4) ∙ ap shared_of h.1.1 in
    let n : c.0 ≡ held (first_seg segs).elem = h.1.0 ∙ counts (first_seg segs).elem in
    rw (f, c.2, stack, n) refl
