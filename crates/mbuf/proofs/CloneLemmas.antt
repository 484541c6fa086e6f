-- Segments that are cloned one after another.
use Rattle.std.proofs.Common.{◌≡◌, ℕ, zero, suc, ◌+◌, ◌<◌, ◌≤◌, inl, inr, List, [], ◌∷◌, ◌++◌, length, length-set, take, drop, get_or, set, get_or-set_same, Option, Some, None, refl, sym, ap, ◌∙◌, subst, append_assoc, arith}
use Rattle.std.proofs.lemmas.Bool.{cases_lt}
use Rattle.std.proofs.lemmas.List.{append-nil, drop_more, set-set, take-append-drop}
use Rattle.std.proofs.lemmas.Grind.{flat_map-append}
use Rattle.commons.specs.Bag.{bag, one}
use Rattle.commons.specs.declared.limits.Limits.{Limits}
use Rattle.commons.specs.declared.packet.Seg.{Seg}
use Rattle.commons.specs.declared.refusal.Refusal.{Refusal}
use Rattle.commons.specs.Calls.{Reading, Call, Side, calls_of, Calls}
use Rattle.commons.proofs.Bags.{bag-cons, bag-append, bag-head, bag-single}
use Rattle.commons.proofs.Leading.{calls_of-append, Leads-append}
use Rattle.commons.proofs.Places.{one-apart, apart_or_same}
use Rattle.commons.specs.Packets.{hold_of, holds_of_packet, holds_of_seg}
use Rattle.mbuf.specs.PacketRules.{freed_nothing}
use Rattle.mbuf.specs.Sharing.{attached, buffer_of, ClonesSeg, ClonesSegs, GivesUp, StopsCloning}
use Rattle.mbuf.specs.declared.freed.Freed.{Freed}
use Rattle.mbuf.proofs.EndLemmas.{Ended}

-- what one segment more holds
pub holds-more : (segs : List Seg) (seg : Seg) →
    holds_of_packet (segs ++ seg ∷ []) ≡ holds_of_packet segs ++ holds_of_seg seg
holds-more segs seg =
    flat_map-append holds_of_seg segs (seg ∷ [])
    ∙ ap (λ (es : List ℕ). holds_of_packet segs ++ es) (append-nil (holds_of_seg seg))

-- a clone holds the buffer of the segment and its own element
pub attached_holds : (e : ℕ) (seg new : Seg) (i : ℕ) → new ≡ attached e seg →
    bag (holds_of_seg new) i ≡ one (buffer_of seg) i + one e i
attached_holds e seg new i is = rw is (omega (arith, bag-cons (buffer_of seg) (e ∷ []) i, bag-single e i))

-- only the one element is in the bag of one
pub single_is : (e i : ℕ) → 0 < bag (e ∷ []) i → i ≡ e
single_is e i h = elim (apart_or_same e i) [
  | inl same ↦ same
  | inr other ↦ absurd (omega (arith, h, bag-single e i, one-apart e i other))
]

-- what was in the hand wasn't held
pub unheld : (hand held : ℕ) → (0 < held → hand ≡ 0) → 0 < hand → held ≡ 0
unheld hand held apart h = elim (cases_lt 0 held) [
  | inl some ↦ absurd (omega (arith, apart some, h))
  | inr none ↦ omega (arith, none)
]

-- ---- the segments so far

-- calls were made by which these segments were cloned
abbrev pub ClonedSo : {S : Type 0} (did : S → Call → List Reading → S → Type 0) (side : S → Side)
    (s t : S) → Limits → List Seg → List ℕ → List Seg → List ℕ → Type 0
ClonedSo did side s t l segs cache new left = Calls did side s t (λ calls. ClonesSegs l segs cache calls new left)

-- segments that are cloned, and then one more
ClonesSegs-append : (l : Limits) (segs : List Seg) (seg : Seg) (cache : List ℕ) (a : List Call)
    (new : List Seg) (between : List ℕ) (b : List Call) (one : Seg) (left : List ℕ) →
    ClonesSegs l segs cache a new between → ClonesSeg l seg between b one left →
    ClonesSegs l (segs ++ seg ∷ []) cache (a ++ b) (new ++ one ∷ []) left
ClonesSegs-append l [] seg cache a new between b one left h k = (
  b,
  [],
  left,
  one,
  [],
  ap (λ (calls : List Call). calls ++ b) h.0
      ∙ sym (append-nil b),
  ap (λ (segs : List Seg). segs ++ one ∷ []) h.1,
  subst (λ (c : List ℕ). ClonesSeg l seg c b one left) h.2 k,
  (refl, refl, refl),
)
ClonesSegs-append l (first ∷ segs) seg cache a new between b one left h k = (
  h.0,
  h.1 ++ b,
  h.2,
  h.3,
  h.4 ++ one ∷ [],
  ap (λ (calls : List Call). calls ++ b) h.5
      ∙ append_assoc h.0 h.1 b,
  ap (λ (s : List Seg). s ++ one ∷ []) h.6,
  h.7,
  ClonesSegs-append l segs seg h.2 h.1 h.4 between b one left h.8 k,
)

-- one segment more
pub cloned_more : {S : Type 0} (did : S → Call → List Reading → S → Type 0) (side : S → Side)
    (s t u : S) (l : Limits) (segs : List Seg) (seg : Seg) (cache : List ℕ) (new : List Seg)
    (one : Seg) (between left : List ℕ) →
    ClonedSo did side s t l segs cache new between →
    Calls did side t u (λ calls. ClonesSeg l seg between calls one left) →
    ClonedSo did side s u l (segs ++ seg ∷ []) cache (new ++ one ∷ []) left
cloned_more did side s t u l segs seg cache new one between left h k = (
  h.0 ++ k.0,
  Leads-append did side h.0 k.0 s t u h.1 k.1,
  subst (λ (calls : List Call). ClonesSegs l (segs ++ seg ∷ []) cache calls (new ++ one ∷ []) left)
      (sym (calls_of-append h.0 k.0))
      (ClonesSegs-append l segs seg cache (calls_of h.0) new between (calls_of k.0) one left h.2 k.2),
)

-- a segment that isn't cloned, after others that were, and the end of what was held for them
pub given_up : {S : Type 0} (did : S → Call → List Reading → S → Type 0) (side : S → Side)
    (s t u v : S) (l : Limits) (segs : List Seg) (k : ℕ) (d : Seg) (cache : List ℕ) (new : List Seg)
    (kept : List ℕ) (cause : Refusal) (over : Option ℕ) (stopped left : List ℕ) (done : Freed) →
    k < length segs → ClonedSo did side s t l (take k segs) cache new kept →
    Calls did side t u (λ calls. StopsCloning l (get_or segs k d) kept calls cause over stopped) →
    Ended did side u v l (holds_of_packet new ++ hold_of over) stopped freed_nothing left done →
    Calls did side s v (λ calls. GivesUp l segs cache calls cause left)
given_up did side s t u v l segs k d cache new kept cause over stopped left done within a b e = (
  a.0 ++ b.0 ++ e.0,
  Leads-append did side (a.0 ++ b.0) e.0 s u v (Leads-append did side a.0 b.0 s t u a.1 b.1) e.1,
  record {
    cloned = take k segs;
    seg = get_or segs k d;
    others = drop (k + 1) segs;
    whole = sym (take-append-drop k segs) ∙ ap (λ (rest : List Seg). take k segs ++ rest) (drop_more segs k d within);
    so_far = calls_of a.0;
    stop = calls_of b.0;
    ends = calls_of e.0;
    called =
        calls_of-append (a.0 ++ b.0) e.0
        ∙ ap (λ (calls : List Call). calls ++ calls_of e.0) (calls_of-append a.0 b.0);
    new = new;
    kept = kept;
    clones = a.2;
    over = over;
    stopped = stopped;
    stops = b.2;
    done = done;
    ended = e.2;
  },
)

-- a segment's buffer is held with its packet
seg_held : (base : Option ℕ) (seg : Seg) → seg.base ≡ base → 0 < bag (holds_of_seg seg) (buffer_of seg)
seg_held None seg e = rw e (bag-head seg.elem [])
seg_held (Some b) seg e = rw e (bag-head b (seg.elem ∷ []))

-- A packet holds the buffer of each of its segments, the base's or the segment's own.
pub buffer_held : (segs : List Seg) (k : ℕ) (d : Seg) → k < length segs →
    0 < bag (holds_of_packet segs) (buffer_of (get_or segs k d))
buffer_held [] k d within = absurd (omega (arith, within))
buffer_held (seg ∷ segs) zero d within =
    omega (
      arith,
      seg_held seg.base seg refl,
      bag-append (holds_of_seg seg) (holds_of_packet segs) (buffer_of seg),
    )
buffer_held (seg ∷ segs) (suc k) d within =
    omega (
      arith,
      buffer_held segs k d (omega (arith, within)),
      bag-append (holds_of_seg seg) (holds_of_packet segs) (buffer_of (get_or segs k d)),
    )

-- an element that is new now, or was new before, wasn't held at first
pub new_only : (a b first later : ℕ) → (0 < a → first ≡ 0) → (0 < b → later ≡ 0) → first ≤ later → 0 < a + b → first ≡ 0
new_only a b first later before now grows some = elim (cases_lt 0 a) [
  | inl here ↦ before here
  | inr none ↦ omega (arith, now (omega (arith, some, none)), grows)
]

-- where nothing is held in the end that wasn't held before, the headers are as before
pub same_headers : (h0 h1 h2 o0 o2 add : ℕ) → o2 ≡ o0 → h1 ≡ h0 + add → (0 < add → o0 ≡ 0) →
    (0 < o2 → h2 ≡ h1) → (0 < h2 → 0 < o2) → (0 < h0 → 0 < o0) → h2 ≡ h0
same_headers h0 h1 h2 o0 o2 add same more unheld kept held held0 = elim (cases_lt 0 o0) [
  | inl some ↦ elim (cases_lt 0 add) [
    | inl here ↦ absurd (omega (arith, unheld here, some))
    | inr none ↦ omega (arith, none, more, kept (omega (arith, same, some)))
  ]
  | inr none ↦ elim (cases_lt 0 h2) [
    | inl here ↦ absurd (omega (arith, held here, same, none))
    | inr gone ↦ elim (cases_lt 0 h0) [
      | inl here ↦ absurd (omega (arith, held0 here, none))
      | inr zero0 ↦ omega (arith, gone, zero0)
    ]
  ]
]

-- what stands in the clone's place once one segment more follows
pub record Follows (old cur : List (List Seg)) (slot k : ℕ) (seg : Seg) (now : List Seg) : Type 0 where
  pub here : get_or (set cur slot now) slot [] ≡ now
  pub so_far : take (k + 1) (get_or (set cur slot now) slot []) ≡ take k (get_or cur slot []) ++ seg ∷ []
  pub packets : set cur slot now ≡ set old slot (get_or (set cur slot now) slot [])

-- A segment that is laid behind the first k leaves those, and makes them one more.
pub followed : (old cur : List (List Seg)) (slot k : ℕ) (seg : Seg) (now : List Seg) → slot < length old →
    cur ≡ set old slot (get_or cur slot []) →
    take (k + 1) now ≡ take k (get_or cur slot []) ++ seg ∷ [] → Follows old cur slot k seg now
followed old cur slot k seg now within so is =
    let p = get_or cur slot [] in
    let bound : slot < length cur =
    omega (arith, within, ap (λ (x : List (List Seg)). length x) so, length-set old slot p) in
    let here : get_or (set cur slot now) slot [] ≡ now = get_or-set_same cur slot now [] bound in
    record {
      here = here;
      so_far = ap (λ (x : List Seg). take (k + 1) x) here ∙ is;
      packets =
          ap (λ (x : List (List Seg)). set x slot now) so ∙ set-set old slot p now
          ∙ ap (λ (x : List Seg). set old slot x) (sym here);
    }

-- What is laid in a place stands there, and in no other.
pub laid_there : (old : List (List Seg)) (slot : ℕ) (now : List Seg) → slot < length old →
    set old slot now ≡ set old slot (get_or (set old slot now) slot [])
laid_there old slot now within =
    ap (λ (x : List Seg). set old slot x) (sym (get_or-set_same old slot now [] within))
