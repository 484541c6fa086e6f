-- The table that slots and packets show.
use Rattle.std.proofs.Common.{◌≡◌, ℕ, zero, suc, ◌+◌, ◌<◌, ◌≤◌, Bool, true, false, List, [], ◌∷◌, length, get_or, set, replicate, Option, Some, None, refl, sym, ap, ◌∙◌, subst, arith}
use Rattle.std.specs.Prelude.{is_none, position, IsSome}
use Rattle.std.specs.List.{position_or_len}
use Rattle.std.proofs.lemmas.List.{get_or_past, get_or_default, set-get_or}
use Rattle.commons.specs.declared.limits.Limits.{Limits}
use Rattle.commons.specs.declared.packet.Seg.{Seg}
use Rattle.mbuf.specs.Members.{Member}
use Rattle.mbuf.specs.inside.Kept.{unless_free, shown}

-- a table has a slot for each flag
pub length-shown : (flags : List Bool) (packets : List (List Seg)) → length packets ≡ length flags →
    length (shown flags packets) ≡ length flags
length-shown [] packets e = refl
length-shown (free ∷ flags) [] e = absurd (omega (arith, e))
length-shown (free ∷ flags) (segs ∷ packets) e = ap suc (length-shown flags packets (omega (arith, e)))

-- where nothing is taken, each slot is empty
pub all_free : (n : ℕ) (packets : List (List Seg)) → length packets ≡ n →
    shown (replicate n true) packets ≡ replicate n None
all_free zero packets e = refl
all_free (suc n) [] e = absurd (omega (arith, e))
all_free (suc n) (segs ∷ packets) e =
    ap (λ (t : List (Option (List Seg))). None ∷ t) (all_free n packets (omega (arith, e)))

-- what a slot shows
pub get_or-shown : (flags : List Bool) (packets : List (List Seg)) (k : ℕ) → k < length flags →
    length packets ≡ length flags →
    get_or (shown flags packets) k None ≡ unless_free (get_or flags k false) (get_or packets k [])
get_or-shown [] packets k within e = absurd (omega (arith, within))
get_or-shown (free ∷ flags) [] k within e = absurd (omega (arith, e))
get_or-shown (free ∷ flags) (segs ∷ packets) zero within e = refl
get_or-shown (free ∷ flags) (segs ∷ packets) (suc k) within e =
    get_or-shown flags packets k (omega (arith, within)) (omega (arith, e))

-- a slot that is taken or given back, with its packet
pub shown-set : (flags : List Bool) (packets : List (List Seg)) (k : ℕ) (free : Bool)
    (segs : List Seg) → k < length flags → length packets ≡ length flags →
    shown (set flags k free) (set packets k segs) ≡ set (shown flags packets) k (unless_free free segs)
shown-set [] packets k free segs within e = absurd (omega (arith, within))
shown-set (other ∷ flags) [] k free segs within e = absurd (omega (arith, e))
shown-set (other ∷ flags) (packet ∷ packets) zero free segs within e = refl
shown-set (other ∷ flags) (packet ∷ packets) (suc k) free segs within e =
    ap (λ (t : List (Option (List Seg))). unless_free other packet ∷ t)
    (shown-set flags packets k free segs (omega (arith, within)) (omega (arith, e)))

-- a slot that is given back, whatever is kept in it
pub shown-emptied : (flags : List Bool) (packets : List (List Seg)) (k : ℕ) (segs : List Seg) →
    length packets ≡ length flags →
    shown (set flags k true) (set packets k segs) ≡ set (shown flags packets) k None
shown-emptied [] packets k segs e = refl
shown-emptied (other ∷ flags) [] k segs e = absurd (omega (arith, e))
shown-emptied (other ∷ flags) (packet ∷ packets) zero segs e = refl
shown-emptied (other ∷ flags) (packet ∷ packets) (suc k) segs e =
    ap (λ (t : List (Option (List Seg))). unless_free other packet ∷ t)
    (shown-emptied flags packets k segs (omega (arith, e)))

-- a slot whose flag is set shows nothing, whatever lies there
pub shown-free : (flags : List Bool) (packets : List (List Seg)) (k : ℕ) → length packets ≡ length flags →
    shown (set flags k true) packets ≡ set (shown flags packets) k None
shown-free flags packets k e =
    ap (λ (p : List (List Seg)). shown (set flags k true) p) (sym (set-get_or packets k []))
    ∙ shown-emptied flags packets k (get_or packets k []) e

-- a packet that changes in its slot
pub shown-packet : (flags : List Bool) (packets : List (List Seg)) (k : ℕ) (segs : List Seg) →
    k < length flags → length packets ≡ length flags →
    IsSome (get_or (shown flags packets) k None) →
    shown flags (set packets k segs) ≡ set (shown flags packets) k (Some segs)
shown-packet [] packets k segs within e some = absurd (omega (arith, within))
shown-packet (free ∷ flags) [] k segs within e some = absurd (omega (arith, e))
shown-packet (true ∷ flags) (packet ∷ packets) zero segs within e some = absurd cc
shown-packet (false ∷ flags) (packet ∷ packets) zero segs within e some = refl
shown-packet (free ∷ flags) (packet ∷ packets) (suc k) segs within e some =
    ap (λ (t : List (Option (List Seg))). unless_free free packet ∷ t)
    (shown-packet flags packets k segs (omega (arith, within)) (omega (arith, e)) some)

-- what is kept in a free slot isn't shown
pub shown_hidden : (flags : List Bool) (packets : List (List Seg)) (k : ℕ) (segs : List Seg) →
    get_or flags k false ≡ true → shown flags (set packets k segs) ≡ shown flags packets
shown_hidden [] packets k segs e = refl
shown_hidden (free ∷ flags) [] k segs e = refl
shown_hidden (free ∷ flags) (packet ∷ packets) zero segs e = rw e refl
shown_hidden (free ∷ flags) (packet ∷ packets) (suc k) segs e =
    ap (λ (t : List (Option (List Seg))). unless_free free packet ∷ t)
    (shown_hidden flags packets k segs e)

-- the lowest free slot is the first that shows nothing
before_free : (flags : List Bool) (packets : List (List Seg)) → length packets ≡ length flags →
    position_or_len is_none (shown flags packets) ≡ position_or_len (λ (free : Bool). free) flags
before_free [] packets e = refl
before_free (free ∷ flags) [] e = absurd (omega (arith, e))
before_free (true ∷ flags) (segs ∷ packets) e = refl
before_free (false ∷ flags) (segs ∷ packets) e = ap (λ (n : ℕ). 1 + n) (before_free flags packets (omega (arith, e)))

-- The lowest free slot of the table is that of the first flag that is up.
pub free_slot-shown : (flags : List Bool) (packets : List (List Seg)) →
    length packets ≡ length flags →
    position is_none (shown flags packets) ≡ position (λ (free : Bool). free) flags
free_slot-shown flags packets e = rw (before_free flags packets e, length-shown flags packets e) refl

-- no packet past the last slot
pub past_shown : (flags : List Bool) (packets : List (List Seg)) (k : ℕ) →
    length packets ≡ length flags → length flags ≤ k → get_or (shown flags packets) k None ≡ None
past_shown flags packets k e past =
    get_or_past (shown flags packets) k None (omega (arith, length-shown flags packets e, past))

-- what shows something has its flag down
not_free : (free : Bool) (segs : List Seg) → IsSome (unless_free free segs) → free ≡ false
not_free true segs h = absurd cc
not_free false segs h = refl

-- a slot that shows something isn't free
pub taken_slot : (flags : List Bool) (packets : List (List Seg)) (k : ℕ) → k < length flags →
    length packets ≡ length flags → IsSome (get_or (shown flags packets) k None) →
    get_or flags k false ≡ false
taken_slot flags packets k within e some =
    not_free (get_or flags k false) (get_or packets k [])
    (subst (λ (o : Option (List Seg)). IsSome o) (get_or-shown flags packets k within e) some)

-- a slot that shows something shows what lies there
some_is : (free : Bool) (segs : List Seg) → IsSome (unless_free free segs) → unless_free free segs ≡ Some segs
some_is true segs h = absurd cc
some_is false segs h = refl

-- a slot that shows something shows its packet
pub shown_some : (flags : List Bool) (packets : List (List Seg)) (k : ℕ) → k < length flags →
    length packets ≡ length flags → IsSome (get_or (shown flags packets) k None) →
    get_or (shown flags packets) k None ≡ Some (get_or packets k [])
shown_some flags packets k within e some =
    let at = get_or-shown flags packets k within e in
    at ∙ some_is (get_or flags k false) (get_or packets k []) (subst (λ (o : Option (List Seg)). IsSome o) at some)

-- what a worker has, part by part
pub member_is : (l l' : Limits) (n n' : ℕ) (cache : List ℕ)
    (table table' : List (Option (List Seg))) → l ≡ l' → n ≡ n' → table ≡ table' →
    ◌≡◌ {A = Member} (record { limits = l; number = n; cache = cache; table = table })
    (record { limits = l'; number = n'; cache = cache; table = table' })
member_is l l' n n' cache table table' a b d = rw (a, b, d) refl

-- the packet that is lent from a slot that shows something is the one that it shows
pub stands : (flags : List Bool) (packets : List (List Seg)) (k : ℕ) (segs : List Seg) →
    k < length flags → length packets ≡ length flags →
    IsSome (get_or (shown flags packets) k None) →
    segs ≡ get_or packets k segs → get_or (shown flags packets) k None ≡ Some segs
stands flags packets k segs within e some lent =
    shown_some flags packets k within e some
    ∙ ap (λ (s : List Seg). Some s)
    (get_or_default packets k [] segs (omega (arith, within, e)) ∙ sym lent)
