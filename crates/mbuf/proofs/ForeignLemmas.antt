-- Foreign clones: what they hold in either pool, what stays a worker's own, and segments that are
-- freed or cloned one after another by calls on both pools.
use Rattle.std.proofs.Common.{◌≡◌, ℕ, suc, ◌+◌, ◌<◌, ◌≤◌, List, [], ◌∷◌, ◌++◌, length, take, drop, get_or, set, replicate, Option, Some, None, refl, sym, ap, ◌∙◌, subst, append_assoc, arith}
use Rattle.std.proofs.Math.Seq.{take-suc}
use Rattle.std.proofs.lemmas.List.{append-nil, drop_more, map-append, take-append-drop}
use Rattle.std.proofs.lemmas.List.Folds.{sum_by-replicate}
use Rattle.std.proofs.lemmas.List.Sums.{sum_by-set, sum_by-cons, get_or-le-sum_by}
use Rattle.std.proofs.lemmas.Grind.{flat_map-append}
use Rattle.commons.specs.Bag.{bag, one}
use Rattle.commons.specs.Calls.{Call, Reading, SameSide, Side, calls_of}
use Rattle.commons.specs.declared.limits.Limits.{Limits}
use Rattle.commons.specs.declared.packet.Seg.{Seg}
use Rattle.commons.specs.declared.refusal.Refusal.{Refusal}
use Rattle.commons.specs.Packets.{hold_of, holds_of_packet, holds_of_seg, held_in, holds_in_slot, own_in, own_in_slot, own_of_packet}
use Rattle.commons.proofs.Bags.{bag-append, bag-cons, bag-head, bag-nil, bag-single}
use Rattle.commons.proofs.Leading.{calls_of-append, Leads-append}
use Rattle.commons.proofs.PacketBags.{own_in-empty, own_in-held, own_in-set, own_in-slot, stands_within}
use Rattle.mbuf.specs.Foreign.{BothCalls, ClonesForeign, ClonesForeignSeg, GivesUpForeign, OwnForeign, StopsForeign, bases_in, bases_in_slot, bases_of_packet}
use Rattle.mbuf.specs.inside.ForeignSteps.{GivesBack}
use Rattle.mbuf.specs.inside.Kept.{KeepsHolds}
use Rattle.mbuf.specs.Members.{Member, slots}
use Rattle.mbuf.specs.Own.{OwnWith, no_guests}
use Rattle.mbuf.specs.Sharing.{first_seg}
use Rattle.mbuf.specs.Twins.{OwnTwin, TwinMember}
use Rattle.mbuf.proofs.OwnLemmas.{own_headed, own_new, own_same}

-- ---- bases

-- what a packet holds are its own elements and its bases
pub held_parts : (segs : List Seg) (i : ℕ) →
    bag (holds_of_packet segs) i ≡ bag (own_of_packet segs) i + bag (bases_of_packet segs) i
held_parts [] i = omega (arith, bag-nil i)
held_parts (seg ∷ segs) i = omega (
  arith,
  held_parts segs i,
  bag-cons seg.elem (own_of_packet segs) i,
  bag-append (hold_of seg.base) (bases_of_packet segs) i,
  bag-append (holds_of_seg seg) (holds_of_packet segs) i,
  bag-append (hold_of seg.base) (seg.elem ∷ []) i,
  bag-single seg.elem i,
)

-- what is held in a slot are own elements and bases
held_parts-slot : (slot : Option (List Seg)) (i : ℕ) →
    bag (holds_in_slot slot) i ≡ bag (own_in_slot slot) i + bag (bases_in_slot slot) i
held_parts-slot None i = omega (arith, bag-nil i)
held_parts-slot (Some segs) i = held_parts segs i

-- what is held in a table are own elements and bases
pub held_in-parts : (table : List (Option (List Seg))) (i : ℕ) → held_in table i ≡ own_in table i + bases_in table i
held_in-parts [] i = omega arith
held_in-parts (slot ∷ table) i = omega (
  arith,
  held_in-parts table i,
  held_parts-slot slot i,
  sum_by-cons (λ (s : Option (List Seg)). bag (own_in_slot s) i) slot table,
  sum_by-cons (λ (s : Option (List Seg)). bag (bases_in_slot s) i) slot table,
  sum_by-cons (λ (s : Option (List Seg)). bag (holds_in_slot s) i) slot table,
)

-- a slot with other contents
pub bases_in-set : (table : List (Option (List Seg))) (k : ℕ) (new : Option (List Seg)) (i : ℕ) → k < length table →
    bases_in (set table k new) i + bag (bases_in_slot (get_or table k None)) i
    ≡ bases_in table i + bag (bases_in_slot new) i
bases_in-set table k new i l = sum_by-set (λ (slot : Option (List Seg)). bag (bases_in_slot slot) i) table k new None l

-- what is in a slot has no more bases than the table
pub bases_in-slot : (table : List (Option (List Seg))) (k : ℕ) (i : ℕ) → k < length table →
    bag (bases_in_slot (get_or table k None)) i ≤ bases_in table i
bases_in-slot table k i l = get_or-le-sum_by (λ (slot : Option (List Seg)). bag (bases_in_slot slot) i) table k None l

-- where nothing stands, there are no bases
pub bases_in-empty : (n i : ℕ) → bases_in (replicate n None) i ≡ 0
bases_in-empty n i =
    sum_by-replicate (λ (slot : Option (List Seg)). bag (bases_in_slot slot) i) n None
    ∙ rw (bag-nil i) (omega arith)

-- ---- the segments so far

-- one segment more adds its base
pub bases-more : (segs : List Seg) (seg : Seg) (i : ℕ) →
    bag (bases_of_packet (segs ++ seg ∷ [])) i ≡ bag (bases_of_packet segs) i + bag (hold_of seg.base) i
bases-more segs seg i =
    ap (λ (es : List ℕ). bag es i)
    (flat_map-append (λ (s : Seg). hold_of s.base) segs (seg ∷ [])
    ∙ ap (λ (es : List ℕ). bases_of_packet segs ++ es) (append-nil (hold_of seg.base)))
    ∙ bag-append (bases_of_packet segs) (hold_of seg.base) i

-- one segment more adds its own element
pub own-more : (segs : List Seg) (seg : Seg) (i : ℕ) →
    bag (own_of_packet (segs ++ seg ∷ [])) i ≡ bag (own_of_packet segs) i + one seg.elem i
own-more segs seg i =
    ap (λ (es : List ℕ). bag es i) (map-append (λ (s : Seg). s.elem) segs (seg ∷ []))
    ∙ bag-append (own_of_packet segs) (seg.elem ∷ []) i
    ∙ ap (λ (n : ℕ). bag (own_of_packet segs) i + n) (bag-single seg.elem i)

-- one segment more, taken from all
pub next_seg : (segs : List Seg) (k : ℕ) (d : Seg) → k < length segs →
    take (k + 1) segs ≡ take k segs ++ get_or segs k d ∷ []
next_seg segs k d within =
    let e : k + 1 ≡ suc k = omega arith in
    ap (λ (n : ℕ). take n segs) e ∙ take-suc segs k d within

-- the bases so far are among all
pub bases_so_far : (segs : List Seg) (k i : ℕ) → bag (bases_of_packet (take k segs)) i ≤ bag (bases_of_packet segs) i
bases_so_far segs k i =
    let whole =
    ap (λ (es : List ℕ). bag es i) (
    sym (flat_map-append (λ (s : Seg). hold_of s.base) (take k segs) (drop k segs))
    ∙ ap bases_of_packet (take-append-drop k segs)) in
    omega (arith, whole, bag-append (bases_of_packet (take k segs)) (bases_of_packet (drop k segs)) i)

-- the own elements so far are among all
pub own_so_far : (segs : List Seg) (k i : ℕ) → bag (own_of_packet (take k segs)) i ≤ bag (own_of_packet segs) i
own_so_far segs k i =
    let whole =
    ap (λ (es : List ℕ). bag es i) (
    sym (map-append (λ (s : Seg). s.elem) (take k segs) (drop k segs))
    ∙ ap own_of_packet (take-append-drop k segs)) in
    omega (arith, whole, bag-append (own_of_packet (take k segs)) (own_of_packet (drop k segs)) i)

-- ---- calls on two pools, one after another

-- What led on on either pool leads through, and what is so of both parts is so of the whole.
pub both_calls : {S T : Type 0} (first_did : S → Call → List Reading → S → Type 0) (first_side : S → Side)
    (s s' s'' : S) (second_did : T → Call → List Reading → T → Type 0) (second_side : T → Side)
    (t t' t'' : T) (before now whole : List Call → List Call → Type 0) →
    ((a b x y : List Call) → before a b → now x y → whole (a ++ x) (b ++ y)) →
    BothCalls first_did first_side s s' second_did second_side t t' before →
    BothCalls first_did first_side s' s'' second_did second_side t' t'' now →
    BothCalls first_did first_side s s'' second_did second_side t t'' whole
both_calls first_did first_side s s' s'' second_did second_side t t' t'' before now whole joined h k = (
  h.0 ++ k.0,
  Leads-append first_did first_side h.0 k.0 s s' s'' h.1 k.1,
  (
    h.2.0 ++ k.2.0,
    Leads-append second_did second_side h.2.0 k.2.0 t t' t'' h.2.1 k.2.1,
    subst (λ (calls : List Call). whole (calls_of (h.0 ++ k.0)) calls) (sym (calls_of-append h.2.0 k.2.0))
        (subst (λ (calls : List Call). whole calls (calls_of h.2.0 ++ calls_of k.2.0)) (sym (calls_of-append h.0 k.0))
        (joined (calls_of h.0) (calls_of h.2.0) (calls_of k.0) (calls_of k.2.0) h.2.2 k.2.2)),
  ),
)

-- segments that are cloned, and then one more
pub ClonesForeign-more : (l : Limits) (segs : List Seg) (seg : Seg) (cache : List ℕ) (a b : List Call)
    (new : List Seg) (between : List ℕ) (x y : List Call) (one : Seg) (left : List ℕ) →
    ClonesForeign l segs cache a b new between → ClonesForeignSeg l seg between x y one left →
    ClonesForeign l (segs ++ seg ∷ []) cache (a ++ x) (b ++ y) (new ++ one ∷ []) left
ClonesForeign-more l [] seg cache a b new between x y one left h k = (
  x,
  [],
  y,
  [],
  left,
  one,
  [],
  ap (λ (calls : List Call). calls ++ x) h.0 ∙ sym (append-nil x),
  ap (λ (calls : List Call). calls ++ y) h.1 ∙ sym (append-nil y),
  ap (λ (segs : List Seg). segs ++ one ∷ []) h.2,
  subst (λ (c : List ℕ). ClonesForeignSeg l seg c x y one left) h.3 k,
  (refl, refl, refl, refl),
)
ClonesForeign-more l (s ∷ segs) seg cache a b new between x y one left h k = (
  h.0,
  h.1 ++ x,
  h.2,
  h.3 ++ y,
  h.4,
  h.5,
  h.6 ++ one ∷ [],
  ap (λ (calls : List Call). calls ++ x) h.7 ∙ append_assoc h.0 h.1 x,
  ap (λ (calls : List Call). calls ++ y) h.8 ∙ append_assoc h.2 h.3 y,
  ap (λ (list : List Seg). list ++ one ∷ []) h.9,
  h.10,
  ClonesForeign-more l segs seg h.4 h.1 h.3 h.6 between x y one left h.11 k,
)

-- ---- what stays a worker's own

-- As many holds of guests more or less as there are guests more or less: the packets stay a
-- worker's own in the first pool.
pub own_guests : (guests later : ℕ → ℕ) (m : Member) (s t : Side) (cache : List ℕ) → OwnWith guests m s →
    t.limits ≡ s.limits → ((i : ℕ) → t.hand i ≡ bag cache i) →
    ((i : ℕ) → t.holds i + guests i ≡ s.holds i + later i) →
    ((i : ℕ) → 0 < t.holds i → t.headers i ≡ s.headers i) → OwnWith later (record m { cache = cache }) t
own_guests guests later m s t cache own same hand holds headers =
    let held : (i : ℕ) → t.holds i ≡ held_in m.table i + later i = λ i. omega (arith, holds i, own.held i) in
    record {
      limits = own.limits ∙ sym same;
      cached = hand;
      held = held;
      headed =
          λ i.
          own_headed (own_in m.table i) (own_in m.table i) (held_in m.table i) (later i) (t.holds i) (t.headers i)
          (s.headers i) (omega arith) (own.headed i) (own_in-held m.table i) (held i) (headers i);
    }

-- the guests are the same, one by one
pub own_same_guests : (guests later : ℕ → ℕ) (m : Member) (s : Side) → OwnWith guests m s →
    ((i : ℕ) → later i ≡ guests i) → OwnWith later m s
own_same_guests guests later m s own same = record {
  limits = own.limits;
  cached = own.cached;
  held = λ i. omega (arith, own.held i, same i);
  headed = own.headed;
}

-- a clone was freed, and its slot is free
pub own_freed : (m : Member) (s t : Side) (cache : List ℕ) (slot : ℕ) (segs : List Seg) → OwnForeign m s →
    t.limits ≡ s.limits → slot < length m.table → get_or m.table slot None ≡ Some segs →
    ((i : ℕ) → t.hand i ≡ bag cache i) →
    ((i : ℕ) → s.holds i ≡ t.holds i + bag (own_of_packet segs) i) →
    ((i : ℕ) → 0 < t.holds i → t.headers i ≡ s.headers i) →
    OwnForeign (record m { cache = cache; table = set m.table slot None }) t
own_freed m s t cache slot segs own same within there hand holds headers =
    let left : (i : ℕ) → t.holds i ≡ own_in (set m.table slot None) i = λ i.
    let u = rw there at (own_in-set m.table slot None i within) in
    omega (arith, holds i, own.held i, u, bag-nil i) in
    record {
      limits = own.limits ∙ sym same;
      cached = hand;
      held = left;
      headed =
          λ i.
          own_headed (own_in (set m.table slot None) i) (own_in m.table i) (own_in (set m.table slot None) i) 0
          (t.holds i) (t.headers i) (s.headers i)
          (omega (arith, own_in-set m.table slot None i within, bag-nil i)) (own.headed i) (omega arith)
          (omega (arith, left i)) (headers i);
    }

-- a new clone stands in a free slot
pub own_cloned_into : (m : Member) (s t : Side) (cache : List ℕ) (slot : ℕ) (new : List Seg) → OwnForeign m s →
    t.limits ≡ s.limits → slot < length m.table → get_or m.table slot None ≡ None →
    ((i : ℕ) → t.hand i ≡ bag cache i) →
    ((i : ℕ) → t.holds i ≡ s.holds i + bag (own_of_packet new) i) →
    ((i : ℕ) → t.headers i ≡ s.headers i + bag (own_of_packet new) i) →
    OwnForeign (record m { cache = cache; table = set m.table slot (Some new) }) t
own_cloned_into m s t cache slot new own same within free hand holds headers = record {
  limits = own.limits ∙ sym same;
  cached = hand;
  held =
      λ i. let u = rw free at (own_in-set m.table slot (Some new) i within) in
      omega (arith, u, holds i, own.held i, bag-nil i);
  headed =
      λ i. let u = rw free at (own_in-set m.table slot (Some new) i within) in
      omega (arith, u, headers i, own.headed i, bag-nil i);
}

-- a clone was given up
pub own_not_cloned : (m : Member) (s t : Side) (cache : List ℕ) → OwnForeign m s → t.limits ≡ s.limits →
    ((i : ℕ) → t.hand i ≡ bag cache i) → ((i : ℕ) → t.holds i ≡ s.holds i) →
    ((i : ℕ) → t.headers i ≡ s.headers i) → OwnForeign (record m { cache = cache }) t
own_not_cloned m s t cache own same hand holds headers = record {
  limits = own.limits ∙ sym same;
  cached = hand;
  held = λ i. holds i ∙ own.held i;
  headed = λ i. omega (arith, own.headed i, headers i);
}

-- clones whose lengths change stay a worker's own
pub own_resized : (m after : Member) (s : Side) → OwnForeign m s → KeepsHolds m after → OwnForeign after s
own_resized m after s own kept = record {
  limits = kept.limits ∙ own.limits;
  cached = λ i. own.cached i ∙ ap (λ (c : List ℕ). bag c i) (sym kept.cache);
  held = λ i. omega (arith, own.held i, kept.own i);
  headed = λ i. omega (arith, own.headed i, kept.own i);
}

-- clones whose lengths change keep their bases
pub bases_kept : (m after : Member) (i : ℕ) → KeepsHolds m after → bases_in after.table i ≡ bases_in m.table i
bases_kept m after i kept =
    omega (arith, kept.held i, kept.own i, held_in-parts m.table i, held_in-parts after.table i)

-- what a clone holds that stands in a slot is held in the second pool
pub own_in_slot_held : (m : Member) (s : Side) (slot : ℕ) (segs : List Seg) (i : ℕ) → OwnForeign m s →
    get_or m.table slot None ≡ Some segs → bag (own_of_packet segs) i ≤ s.holds i
own_in_slot_held m s slot segs i own there =
    omega (
      arith,
      own.held i,
      own_in-slot m.table slot i (stands_within m.table slot segs there),
      ap (λ (o : Option (List Seg)). bag (own_in_slot o) i) there,
    )

-- the bases of a clone that stands in a slot are held in the first pool, where they are guests
pub bases_in_slot_held : (m : Member) (s : Side) (table : List (Option (List Seg))) (slot : ℕ) (segs : List Seg)
    (i : ℕ) → OwnWith (bases_in table) m s → get_or table slot None ≡ Some segs →
    bag (bases_of_packet segs) i ≤ s.holds i
bases_in_slot_held m s table slot segs i own there =
    omega (
      arith,
      own.held i,
      bases_in-slot table slot i (stands_within table slot segs there),
      ap (λ (o : Option (List Seg)). bag (bases_in_slot o) i) there,
    )

-- a packet's first own element is among its own elements
pub first_own : (segs : List Seg) → 1 ≤ length segs → 0 < bag (own_of_packet segs) (first_seg segs).elem
first_own [] some = absurd (omega (arith, some))
first_own (seg ∷ segs) some = bag-head seg.elem (own_of_packet segs)

-- ---- clones that are given up

-- a segment that isn't cloned, after others that were, and the end of what was held for them
pub given_up_into : {S T : Type 0} (first_did : S → Call → List Reading → S → Type 0) (first_side : S → Side)
    (s s' s'' s''' : S) (second_did : T → Call → List Reading → T → Type 0) (second_side : T → Side)
    (t t' t'' t''' : T) (l k : Limits) (segs : List Seg) (n : ℕ) (d : Seg) (first_cache second_cache : List ℕ)
    (new : List Seg) (kept : List ℕ) (cause : Refusal) (over : Option ℕ)
    (stopped first_left second_left : List ℕ) → n < length segs →
    BothCalls first_did first_side s s' second_did second_side t t'
    (λ a b. ClonesForeign k (take n segs) second_cache a b new kept) →
    BothCalls first_did first_side s' s'' second_did second_side t' t''
    (λ a b. StopsForeign k (get_or segs n d) kept a b cause over stopped) →
    BothCalls first_did first_side s'' s''' second_did second_side t'' t'''
    (λ a b. GivesBack l k new over first_cache stopped a b first_left second_left) →
    BothCalls first_did first_side s s''' second_did second_side t t'''
    (λ a b. GivesUpForeign l k segs first_cache second_cache a b cause first_left second_left)
given_up_into first_did first_side s s' s'' s''' second_did second_side t t' t'' t''' l k segs n d first_cache
    second_cache new kept cause over stopped first_left second_left within a b e = (
      a.0 ++ b.0 ++ e.0,
      Leads-append first_did first_side (a.0 ++ b.0) e.0 s s'' s''' (Leads-append first_did first_side a.0 b.0 s s' s'' a.1 b.1)
          e.1,
      (
        a.2.0 ++ b.2.0 ++ e.2.0,
        Leads-append second_did second_side (a.2.0 ++ b.2.0) e.2.0 t t'' t'''
            (Leads-append second_did second_side a.2.0 b.2.0 t t' t'' a.2.1 b.2.1) e.2.1,
        record {
          cloned = take n segs;
          seg = get_or segs n d;
          others = drop (n + 1) segs;
          whole = sym (take-append-drop n segs) ∙ ap (λ (rest : List Seg). take n segs ++ rest) (drop_more segs n d within);
          calls = record {
            first_clone = calls_of a.0;
            second_clone = calls_of a.2.0;
            first_stop = calls_of b.0;
            second_stop = calls_of b.2.0;
            first_end = calls_of e.0;
            second_end = e.2.2.second_end;
            over_end = e.2.2.over_end;
          };
          first_called =
              calls_of-append (a.0 ++ b.0) e.0
              ∙ ap (λ (calls : List Call). calls ++ calls_of e.0) (calls_of-append a.0 b.0);
          second_called =
              calls_of-append (a.2.0 ++ b.2.0) e.2.0
              ∙ ap (λ (calls : List Call). calls ++ calls_of e.2.0) (calls_of-append a.2.0 b.2.0)
              ∙ ap (λ (calls : List Call). calls_of a.2.0 ++ calls_of b.2.0 ++ calls) e.2.2.called
              ∙ sym (append_assoc (calls_of a.2.0 ++ calls_of b.2.0) e.2.2.second_end e.2.2.over_end);
          new = new;
          kept = kept;
          clones = a.2.2;
          over = over;
          stopped = stopped;
          stops = b.2.2;
          between = e.2.2.between;
          freed = e.2.2.freed;
          ended = e.2.2.ended;
          done = e.2.2.done;
          over_ended = e.2.2.over_ended;
        },
      ),
    )

-- ---- both pools

-- what is so of equal packets and clones
pub own_twin_at : (m m' n n' : Member) (s t : Side) → m' ≡ m → n' ≡ n →
    OwnTwin (record { first = m; second = n }) s t → OwnTwin (record { first = m'; second = n' }) s t
own_twin_at m m' n n' s t a b h = rw (a, b) h

-- a new worker has no guests, and no foreign clones, which are its own where it has nothing
pub own_new_twin : (s t : Side) (number : ℕ) → ((i : ℕ) → s.hand i ≡ 0) → ((i : ℕ) → s.holds i ≡ 0) →
    ((i : ℕ) → t.hand i ≡ 0) → ((i : ℕ) → t.holds i ≡ 0) → OwnTwin (record {
      first = record { limits = s.limits; number = number; cache = []; table = replicate slots None };
      second = record { limits = t.limits; number = number; cache = []; table = replicate slots None };
    }) s t
own_new_twin s t number no_hand no_hold no_hand' no_hold' =
    let m : Member = record { limits = s.limits; number = number; cache = []; table = replicate slots None } in
    record {
      first = own_same_guests no_guests (bases_in (replicate slots None)) m s (own_new s number no_hand no_hold)
          (bases_in-empty slots);
      second = record {
        limits = refl;
        cached = λ i. omega (arith, no_hand' i, bag-nil i);
        held = λ i. omega (arith, no_hold' i, own_in-empty slots i);
        headed = λ i. omega (arith, own_in-empty slots i);
      };
    }

-- what is the same of each element on both sides is so for the worker of both pools
pub own_same_twin : (twin : TwinMember) (s t s' t' : Side) → OwnTwin twin s t → SameSide s s' → SameSide t t' →
    OwnTwin twin s' t'
own_same_twin twin s t s' t' own same same' = record {
  first = own_same (bases_in twin.second.table) twin.first s s' own.first same;
  second = record {
    limits = own.second.limits ∙ sym same'.limits;
    cached = λ i. same'.hand i ∙ own.second.cached i;
    held = λ i. same'.holds i ∙ own.second.held i;
    headed = λ i. omega (arith, own.second.headed i, same'.headers i);
  };
}
