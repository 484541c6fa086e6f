-- Packets that attach to buffers, get their own back and are cloned keep each element in one
-- place, and leave the desks.
use Rattle.std.proofs.Common.{ℕ, ◌≡◌, ◌≢◌, ◌+◌, ◌-◌, ◌<◌, ◌≤◌, ◌==◌, inl, inr, List, [], ◌∷◌, ◌++◌, get_or, set, Option, Some, None, Result, Ok, Err, refl, ap, ◌∙◌, arith}
use Rattle.std.specs.Prelude.{min, if◌then◌else◌}
use Rattle.std.proofs.lemmas.Bool.{cases_Bool, cases_lt, eqb-false, eqb-true}
use Rattle.std.proofs.lemmas.List.{map-append}
use Rattle.commons.specs.Bag.{bag, one}
use Rattle.commons.specs.declared.limits.Limits.{Limits}
use Rattle.commons.specs.declared.packet.Seg.{Seg}
use Rattle.commons.specs.declared.refusal.Refusal.{Refusal}
use Rattle.commons.specs.declared.refusal.Refusal.TheVariants.{RefSpent}
use Rattle.commons.proofs.Sames.{ok-is}
use Rattle.commons.proofs.Bags.{bag-nil, bag-append, bag-single, bag-of_one}
use Rattle.commons.proofs.Places.{one-is}
use Rattle.commons.specs.Packets.{holds_in_slot, holds_of_packet, holds_of_seg, own_of_packet, held_in}
use Rattle.mbuf.specs.Members.{Member}
use Rattle.mbuf.specs.PacketRules.{fresh_seg, free_slot, freed_nothing}
use Rattle.mbuf.specs.Sharing.{attached, buffer_of, clonable, detachable, pair_in}
use Rattle.mbuf.proofs.ActLemmas.{clonable_free}
use Rattle.mbuf.proofs.CloneLemmas.{attached_holds, buffer_held, holds-more}
use Rattle.commons.proofs.PacketBags.{held_in-slot, stands_within}
use Rattle.mbuf.proofs.OwnLemmas.{free_slot-is}
use Rattle.mbuf.proofs.SharingLemmas.{found_base, found_pair, holds_alone}
use Rattle.pool_model.specs.Pool.{Shared}
use Rattle.pool_model.specs.CacheModel.{get}
use Rattle.pool_model.specs.SharingModel.{Cloned, attach_to, clone_at, clone_segs, clone_to, detach_from, give_up, with_element}
use Rattle.pool_model.proofs.CacheBags.{IsGot, get-IsGot}
use Rattle.pool_model.proofs.HeldBags.{end_holds-IsEnded}
use Rattle.pool_model.proofs.Links.{Fewer, buffer_in, buffer_packet, fresh_links, indirect_in}
use Rattle.pool_model.proofs.LinkSteps.{OfBases, attach_links, clone_bases, clone_links, pair_apart}
use Rattle.pool_model.proofs.Leaves.{Keeps, StaysWithin, near, nothing_keeps, one_at_least, one_more, set_keeps}
use Rattle.pool_model.specs.PacketModel.{beside}

-- further holds of what is held already leave it held once as an element
raise_min : (n add : ℕ) → (0 < add → 0 < n) → min 1 (n + add) ≡ min 1 n
raise_min n add h = elim (cases_lt 0 add) [
  | inl some ↦ omega (arith, h some)
  | inr none ↦ omega (arith, none)
]

-- a packet holds no more than all packets do
packet_within : (outside held : ℕ → ℕ) (m : Member) →
    ((i : ℕ) → held i ≡ outside i + held_in m.table i) → (slot : ℕ) (segs : List Seg) →
    get_or m.table slot None ≡ Some segs → (i : ℕ) → bag (holds_of_packet segs) i ≤ held i
packet_within outside held m all slot segs there i =
    omega (
      arith,
      all i,
      held_in-slot m.table slot i (stands_within m.table slot segs there),
      ap (λ (o : Option (List Seg)). bag (holds_in_slot o) i) there,
    )

-- an attach moves no element
pub attach_to-keeps : (outside : ℕ → ℕ) (found : Result (ℕ × Seg) Refusal) (held : ℕ → ℕ)
    (mi target : ℕ) (m : Member) (s : Shared) → pair_in m mi target ≡ found →
    ((i : ℕ) → held i ≡ outside i + held_in m.table i) →
    Keeps outside m s (beside s (attach_to found held mi m))
attach_to-keeps outside (Err cause) held mi target m s f all = nothing_keeps outside m s _ refl
attach_to-keeps outside (Ok (e, seg)) held mi target m s f all = elim (cases_Bool (held e == 1)) [
  | inl alone ↦ elim (cases_Bool (held (buffer_of seg) == m.limits.ref_limit)) [
    | inl full ↦ rw (alone, full) (nothing_keeps outside m s _ refl)
    | inr below ↦
        let found = found_pair (get_or m.table mi None) (get_or m.table target None) (mi == target) e seg f in
        let apart : mi ≢ target =
        eqb-false mi target (pair_apart (get_or m.table mi None) (get_or m.table target None)
        (mi == target) (e, seg) f) in
        let b = buffer_of seg in
        let some : 0 < held b =
        omega (
          arith,
          packet_within outside held m all target (seg ∷ found.others) found.there b,
          buffer_held (seg ∷ found.others) 0 seg (omega arith),
        ) in
        rw (alone, below) (set_keeps outside m s s _ mi (Some (found.own ∷ []))
        (Some (attached e seg ∷ [])) m.cache found.here
        (stands_within m.table mi (found.own ∷ []) found.here) refl (omega arith) (λ i few now.
        let same = raise_min (held i) (one b i) (λ here. rw (← (one-is b i here)) some) in
        omega (
          arith,
          now,
          same,
          all i,
          holds_alone None found.own i found.direct,
          holds_alone (Some b) (attached e seg) i refl,
          bag-nil i,
          bag-single b i,
          ap (λ (x : ℕ). one x i) found.elem,
        ))
        (λ i few now low limited.
        let more =
        one_more held b m.limits.ref_limit i (eqb-false (held b) m.limits.ref_limit below)
        (omega (arith, all i, limited)) in
        omega (
          arith,
          now,
          more,
          all i,
          holds_alone None found.own i found.direct,
          holds_alone (Some b) (attached e seg) i refl,
          bag-nil i,
          bag-single b i,
          ap (λ (x : ℕ). one x i) found.elem,
        ))
        (λ i. omega (arith, bag-nil i)) (λ i. omega (arith, bag-nil i))
        (λ i. omega (arith, bag-nil i, ap (λ (x : ℕ). bag (x ∷ []) i) found.elem))
        (λ i few based indirect.
        attach_links m.table mi target e seg found apart outside
        (omega (arith, all e, eqb-true (held e) 1 alone)) i
        (set m.table mi (Some (attached e seg ∷ []))) based indirect))
  ]
  | inr used ↦ rw used (nothing_keeps outside m s _ refl)
]

-- a detach moves a base whose last hold ends
pub detach_from-keeps : (outside : ℕ → ℕ) (found : Result (ℕ × ℕ) Refusal) (held : ℕ → ℕ) (slot : ℕ)
    (m : Member) (s : Shared) → detachable (get_or m.table slot None) ≡ found →
    ((i : ℕ) → held i ≡ outside i + held_in m.table i) →
    Keeps outside m s (detach_from found held slot m s)
detach_from-keeps outside (Err cause) held slot m s f all = nothing_keeps outside m s _ refl
detach_from-keeps outside (Ok (e, base)) held slot m s f all =
    let found = found_base (get_or m.table slot None) e base f in
    let ends = end_holds-IsEnded m.limits (λ j. held j - one base j) (base ∷ []) (freed_nothing, m.cache, s) in
    set_keeps outside m s _ _ slot (Some (found.own ∷ [])) (Some (fresh_seg m.limits e ∷ [])) _
    found.here (stands_within m.table slot (found.own ∷ []) found.here) ends.desks ends.changes
    (λ i few now.
    omega (
      arith,
      now,
      all i,
      ends.moved i,
      holds_alone (Some base) found.own i found.base_is,
      holds_alone None (fresh_seg m.limits e) i refl,
      bag-nil i,
      bag-single base i,
      ap (λ (x : ℕ). one x i) found.elem,
    ))
    (λ i few now low limited.
    omega (
      arith,
      now,
      limited,
      holds_alone (Some base) found.own i found.base_is,
      holds_alone None (fresh_seg m.limits e) i refl,
      bag-nil i,
      ap (λ (x : ℕ). one x i) found.elem,
    ))
    (λ i. omega (arith, bag-nil i)) (λ i. omega (arith, bag-nil i))
    (λ i. omega (arith, bag-nil i, ap (λ (x : ℕ). bag (x ∷ []) i) found.elem))
    (λ i few based indirect. let fresh =
    fresh_links m.limits e i in Fewer (omega (arith, based, fresh.0))
    (omega (arith, indirect, fresh.1)))

-- what all share, with the desks as in a state before and with as many changes of the stack, or
-- more
record Follows (from s : Shared) : Type 0 where
  desks : s.desks ≡ from.desks
  changes : from.changes ≤ s.changes

-- a state that follows one that follows a first one follows the first
follows_on : (from s t : Shared) → t.desks ≡ s.desks → s.changes ≤ t.changes → Follows from s → Follows from t
follows_on from s t same more f = record { desks = same ∙ f.desks; changes = omega (arith, more, f.changes) }

-- Where each element is that was in this many places, with what was cloned or given up. The desks
-- are as in the state that this began with, and no change of the stack is taken back. The own
-- elements of what was cloned were in the cache or the common list, where each was so often.
abbrev NearTo : ℕ → (ℕ → ℕ) → (ℕ → ℕ) → (ℕ → ℕ) → Shared → Cloned → Type 0
NearTo limit held places had from (Ok new, cache, t) =
    ((i : ℕ) → places i ≤ 1 →
    bag cache i + bag t.common i + min 1 (held i + bag (holds_of_packet new) i) ≡ places i)
    × Follows from t
    × ((i : ℕ) → bag (own_of_packet new) i + (bag cache i + bag t.common i) ≡ had i)
    × ((i : ℕ) → places i ≤ 1 → StaysWithin limit (held i) (held i + bag (holds_of_packet new) i))
NearTo limit held places had from (Err cause, cache, t) =
    ((i : ℕ) → places i ≤ 1 → bag cache i + bag t.common i + min 1 (held i) ≡ places i)
    × Follows from t

-- what follows a get of one element
element-near : (limit : ℕ) (held places had : ℕ → ℕ) (from : Shared) (cache : List ℕ) (s : Shared)
    (r : Result (List ℕ) Refusal × List ℕ × Shared) (met : ℕ → List ℕ → Shared → Cloned)
    (refused : Refusal → List ℕ → Shared → Cloned) →
    IsGot 1 cache s r → Follows from s →
    ((e : ℕ) (left : List ℕ) (t : Shared) →
    ((i : ℕ) → one e i + (bag left i + bag t.common i) ≡ bag cache i + bag s.common i) →
    Follows from t → NearTo limit held places had from (met e left t)) →
    ((cause : Refusal) (left : List ℕ) (t : Shared) →
    ((i : ℕ) → bag left i + bag t.common i ≡ bag cache i + bag s.common i) → Follows from t →
    NearTo limit held places had from (refused cause left t)) →
    NearTo limit held places had from (with_element r met refused)
element-near limit held places had from cache s (Ok [], left, t) met refused got same a b =
    absurd (omega (arith, got.long))
element-near limit held places had from cache s (Ok (e ∷ es), left, t) met refused got same a b =
    a e left t (λ i. omega (arith, bag-of_one (e ∷ es) i got.long, got.moved i))
    (follows_on from s t got.desks got.changes same)
element-near limit held places had from cache s (Err cause, left, t) met refused got same a b =
    b cause left t (λ i. omega (arith, got.moved i))
    (follows_on from s t got.desks got.changes same)

-- with one segment more a packet has that segment's element more
own-more : (segs : List Seg) (seg : Seg) → own_of_packet (segs ++ seg ∷ []) ≡ own_of_packet segs ++ seg.elem ∷ []
own-more segs seg = map-append (λ (s : Seg). s.elem) segs (seg ∷ [])

-- cloning moves elements from the cache or the common list, or leaves them there
clone_segs-near : (l : Limits) (held places had : ℕ → ℕ) (from : Shared) (segs new : List Seg)
    (cache : List ℕ) (s : Shared) →
    ((i : ℕ) → places i ≤ 1 →
    bag cache i + bag s.common i + min 1 (held i + bag (holds_of_packet new) i) ≡ places i)
    → Follows from s → ((j : ℕ) → bag (holds_of_packet segs) j ≤ held j) →
    ((i : ℕ) → bag (own_of_packet new) i + (bag cache i + bag s.common i) ≡ had i) →
    ((i : ℕ) → places i ≤ 1 → StaysWithin l.ref_limit (held i) (held i + bag (holds_of_packet new) i)) →
    NearTo l.ref_limit held places had from (clone_segs l held segs new cache s)
clone_segs-near l held places had from [] new cache s before same within own counts = (before, same, own, counts)
clone_segs-near l held places had from (seg ∷ segs) new cache s before same within own counts =
    let b = buffer_of seg in
    let some : 0 < held b = omega (arith, within b, buffer_held (seg ∷ segs) 0 seg (omega arith)) in
    let later : (j : ℕ) → bag (holds_of_packet segs) j ≤ held j =
    λ j. omega (arith, within j, bag-append (holds_of_seg seg) (holds_of_packet segs) j) in
    element-near l.ref_limit held places had from cache s (get l 1 cache s)
    (λ e left t.
    if held b + bag (holds_of_packet new) b == l.ref_limit
    then give_up l held (holds_of_packet new ++ e ∷ []) RefSpent left t
    else clone_segs l held segs (new ++ attached e seg ∷ []) left t)
    (λ cause left t. give_up l held (holds_of_packet new) cause left t) (get-IsGot l 1 cache s) same
    (λ e left t moved there. elim (cases_Bool (held b + bag (holds_of_packet new) b == l.ref_limit)) [
      | inl full ↦
          let ends = end_holds-IsEnded l held (holds_of_packet new ++ e ∷ []) (freed_nothing, left, t) in
          rw full (
            λ i few.
                omega (
                  arith,
                  ends.moved i,
                  few,
                  before i few,
                  moved i,
                  bag-append (holds_of_packet new) (e ∷ []) i,
                  bag-single e i,
                ),
            follows_on from t _ ends.desks ends.changes there,
          )
      | inr below ↦ rw below (clone_segs-near l held places had from segs (new ++ attached e seg ∷ []) left t (λ i few.
          let more : bag (holds_of_packet (new ++ attached e seg ∷ [])) i
          ≡ bag (holds_of_packet new) i + (one b i + one e i) =
          omega (
            arith,
            ap (λ (es : List ℕ). bag es i) (holds-more new (attached e seg)),
            bag-append (holds_of_packet new) (holds_of_seg (attached e seg)) i,
            attached_holds e seg (attached e seg) i refl,
          ) in
          let raised =
          raise_min (held i + (bag (holds_of_packet new) i + one e i)) (one b i)
          (λ here. omega (arith, ap held (one-is b i here), some)) in
          rw more (omega (arith, raised, few, before i few, moved i))) there later
          (λ i. rw own-more (omega (arith, own i, moved i, bag-append (own_of_packet new) (e ∷ []) i, bag-single e i)))
          (λ i few low limited.
          let more : bag (holds_of_packet (new ++ attached e seg ∷ [])) i
          ≡ bag (holds_of_packet new) i + (one b i + one e i) =
          omega (
            arith,
            ap (λ (es : List ℕ). bag es i) (holds-more new (attached e seg)),
            bag-append (holds_of_packet new) (holds_of_seg (attached e seg)) i,
            attached_holds e seg (attached e seg) i refl,
          ) in
          let so_far = counts i few low limited in
          let raised =
          one_more (λ j. held j + bag (holds_of_packet new) j) b l.ref_limit i
          (eqb-false (held b + bag (holds_of_packet new) b) l.ref_limit below) so_far in
          omega (arith, more, raised, low, few, before i few, moved i, one_at_least held b i some)))
    ])
    (λ cause left t moved there.
    let ends = end_holds-IsEnded l held (holds_of_packet new) (freed_nothing, left, t) in
    (λ i few. omega (arith, ends.moved i, before i few, moved i), follows_on from t _ ends.desks ends.changes there))

-- the clone's elements are held where it stands
clone_to-keeps : (outside : ℕ → ℕ) (r : Cloned) (held : ℕ → ℕ) (slot : ℕ) (m : Member) (s : Shared)
    → free_slot m.table ≡ Some slot → ((i : ℕ) → held i ≡ outside i + held_in m.table i) →
    NearTo m.limits.ref_limit held (λ i. near (outside i) m s i)
    (λ i. bag m.cache i + bag s.common i) s r →
    OfBases (λ i. indirect_in m.table i < held_in m.table i) r → Keeps outside m s (clone_to slot m r)
clone_to-keeps outside (Ok new, cache, t) held slot m s free all after bases =
    let empty = free_slot-is m.table slot free in
    set_keeps outside m s t _ slot None (Some new) cache empty.1 empty.0 after.1.desks
    after.1.changes (λ i few now. omega (arith, now, after.0 i few, all i, bag-nil i))
    (λ i few now low limited. omega (arith, now, after.3 i few low (omega (arith, all i, limited)), all i, bag-nil i))
    (λ i. omega (arith, after.2 i)) (λ i. omega arith) (λ i. omega arith)
    (λ i few based indirect.
    clone_links (outside i) (bag m.cache i + bag s.common i) m.table
    (set m.table slot (Some new)) new i (bases i) few (omega (arith, after.2 i))
    (omega (arith, based)) (omega (arith, indirect)))
clone_to-keeps outside (Err cause, cache, t) held slot m s free all after bases = record {
  limits = refl;
  number = refl;
  slots = refl;
  desks = after.1.desks;
  changes = after.1.changes;
  placed = λ i few. omega (arith, after.0 i few, all i);
  counts = λ i few low limited. limited;
  fresh = λ i. omega (arith, bag-nil i);
  stands = λ i. omega (arith, bag-nil i);
  own = λ i. omega arith;
  links = λ i few. Fewer (omega arith) (omega arith);
}

-- what is to be cloned stands there
pub clonable_there : (source : Option (List Seg)) (free : Option ℕ) (segs : List Seg) (slot : ℕ) →
    clonable source free ≡ Ok (segs, slot) → source ≡ Some segs
clonable_there None free segs slot e = absurd cc
clonable_there (Some x) None segs slot e = absurd cc
clonable_there (Some x) (Some n) segs slot e = ap (λ (p : List Seg × ℕ). Some p.0) (ok-is (x, n) (segs, slot) e)

-- a clone's elements come from cache and stack, and its bases are buffers that the source uses
pub clone_at-keeps : (outside : ℕ → ℕ) (found : Result (List Seg × ℕ) Refusal) (held : ℕ → ℕ)
    (source : ℕ) (m : Member) (s : Shared) →
    clonable (get_or m.table source None) (free_slot m.table) ≡ found →
    ((i : ℕ) → held i ≡ outside i + held_in m.table i) →
    Keeps outside m s (clone_at found held m s)
clone_at-keeps outside (Err cause) held source m s f all = nothing_keeps outside m s _ refl
clone_at-keeps outside (Ok (segs, slot)) held source m s f all =
    let here = clonable_there (get_or m.table source None) (free_slot m.table) segs slot f in
    let free = clonable_free (get_or m.table source None) (free_slot m.table) segs slot f in
    clone_to-keeps outside (clone_segs m.limits held segs [] m.cache s) held slot m s free all
    (clone_segs-near m.limits held (λ i. near (outside i) m s i)
    (λ i. bag m.cache i + bag s.common i) s segs [] m.cache s
    (λ i few. omega (arith, all i, bag-nil i)) (record { desks = refl; changes = omega arith })
    (packet_within outside held m all source segs here) (λ i. omega (arith, bag-nil i))
    (λ i few low limited. omega (arith, limited, bag-nil i)))
    (clone_bases m.limits held (λ i. indirect_in m.table i < held_in m.table i) segs [] m.cache s
    (λ i some. absurd (omega (arith, some)))
    (λ k d within.
    buffer_in m.table source (buffer_of (get_or segs k d)) segs
    (stands_within m.table source segs here) here (buffer_packet segs k d within)))
