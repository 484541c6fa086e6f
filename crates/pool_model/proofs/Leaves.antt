-- What an act leaves of a worker and of what all share.
use Rattle.std.proofs.Common.{ℕ, ◌≡◌, ◌≢◌, ◌+◌, ◌<◌, ◌≤◌, inl, inr, List, [], length, length-set, get_or, get_or-set_same, set, Option, Some, None, refl, sym, ap, arith}
use Rattle.std.specs.Prelude.{min}
use Rattle.std.proofs.lemmas.Bool.{cases_eq}
use Rattle.commons.specs.Bag.{bag, one}
use Rattle.commons.specs.declared.packet.Seg.{Seg}
use Rattle.commons.specs.Packets.{holds_in_slot, own_in_slot, held_in, own_in}
use Rattle.commons.proofs.Bags.{bag-nil, one-same}
use Rattle.commons.proofs.Places.{one-apart}
use Rattle.commons.proofs.PacketBags.{held_in-set, own_in-set, own_in-slot}
use Rattle.mbuf.specs.declared.acts.Act.{Act}
use Rattle.mbuf.specs.declared.acts.Act.TheVariants.{Offer, Take}
use Rattle.mbuf.specs.Acts.{Reply}
use Rattle.mbuf.specs.Fresh.{new_elements}
use Rattle.mbuf.specs.Members.{Member}
use Rattle.pool_model.specs.Pool.{Shared}
use Rattle.pool_model.proofs.Links.{LinksAfter, Fewer, based_in, based_in-set, based_slot, indirect_in, indirect_in-own, indirect_in-set, indirect_slot, links_beside}

-- how often an element is in a member's cache, in the common list, and held there or by this many
-- others
abbrev pub near : ℕ → Member → Shared → ℕ → ℕ
near others m s i = bag m.cache i + bag s.common i + min 1 (others + held_in m.table i)

-- one count more after the other stays within a limit
abbrev pub StaysWithin : ℕ → ℕ → ℕ → Type 0
StaysWithin limit before after = 1 ≤ limit → before ≤ limit → after ≤ limit

-- What leaves the desks: the worker keeps its limits, its number and as many slots, no change of
-- the stack is taken back, no count passes the reference limit, and each element stays in one
-- place, where
-- outside is how often the packets of others and those on desks hold each. The elements that the
-- worker is told of as new were in its cache or the common list; they are own elements of its
-- packets then, which have no others but what they had. No element becomes a base and an indirect
-- segment's at once.
pub record Keeps (outside : ℕ → ℕ) (m : Member) (s : Shared) (done : Reply × Member × Shared) : Type 0 where
  pub limits : done.1.limits ≡ m.limits
  pub number : done.1.number ≡ m.number
  pub slots : length done.1.table ≡ length m.table
  pub desks : done.2.desks ≡ s.desks
  pub changes : s.changes ≤ done.2.changes
  pub placed : (i : ℕ) → near (outside i) m s i ≤ 1 → near (outside i) done.1 done.2 i ≡ near (outside i) m s i
  pub counts : (i : ℕ) → near (outside i) m s i ≤ 1 →
      StaysWithin m.limits.ref_limit (outside i + held_in m.table i)
      (outside i + held_in done.1.table i)
  pub fresh : (i : ℕ) → bag (new_elements done.0) i ≤ bag m.cache i + bag s.common i
  pub stands : (i : ℕ) → bag (new_elements done.0) i ≤ own_in done.1.table i
  pub own : (i : ℕ) → own_in done.1.table i ≤ own_in m.table i + bag (new_elements done.0) i
  pub links : (i : ℕ) → near (outside i) m s i ≤ 1 →
      LinksAfter (outside i + held_in m.table i) (own_in m.table i) (based_in m.table i)
      (indirect_in m.table i) (based_in done.1.table i) (indirect_in done.1.table i)

-- a reply that tells of no new element
pub none_given : (reply : Reply) (i n : ℕ) → new_elements reply ≡ [] → bag (new_elements reply) i ≤ n
none_given reply i n none = omega (arith, ap (λ (es : List ℕ). bag es i) none, bag-nil i)

-- one hold more of an element whose count isn't the limit
pub one_more : (held : ℕ → ℕ) (e limit i : ℕ) → held e ≢ limit → held i ≤ limit → held i + one e i ≤ limit
one_more held e limit i below within = elim (cases_eq e i) [
  | inl same ↦ omega (arith, ap held same, ap (λ (x : ℕ). one e x) same, one-same e, below, within)
  | inr other ↦ omega (arith, one-apart e i (λ same. other (sym same)), within)
]

-- an element that is held is held at least once
pub one_at_least : (held : ℕ → ℕ) (e i : ℕ) → 0 < held e → one e i ≤ held i
one_at_least held e i some = elim (cases_eq e i) [
  | inl same ↦ omega (arith, ap held same, ap (λ (x : ℕ). one e x) same, one-same e, some)
  | inr other ↦ omega (arith, one-apart e i (λ same. other (sym same)))
]

-- where nothing is done, and no new element told of, all is kept
pub nothing_keeps : (outside : ℕ → ℕ) (m : Member) (s : Shared) (reply : Reply) →
    new_elements reply ≡ [] → Keeps outside m s (reply, m, s)
nothing_keeps outside m s reply none = record {
  limits = refl;
  number = refl;
  slots = refl;
  desks = refl;
  changes = omega arith;
  placed = λ i few. refl;
  counts = λ i few low within. within;
  fresh = λ i. none_given reply i _ none;
  stands = λ i. none_given reply i _ none;
  own = λ i. omega arith;
  links = λ i few. Fewer (omega arith) (omega arith);
}

-- elements move between the cache and the common list
pub cache_keeps : (outside : ℕ → ℕ) (m : Member) (s t : Shared) (reply : Reply) (cache : List ℕ) →
    new_elements reply ≡ [] → t.desks ≡ s.desks → s.changes ≤ t.changes →
    ((i : ℕ) → bag cache i + bag t.common i ≡ bag m.cache i + bag s.common i) →
    Keeps outside m s (reply, record m { cache = cache }, t)
cache_keeps outside m s t reply cache none desks changes moved = record {
  limits = refl;
  number = refl;
  slots = refl;
  desks = desks;
  changes = changes;
  placed = λ i few. omega (arith, moved i);
  counts = λ i few low within. within;
  fresh = λ i. none_given reply i _ none;
  stands = λ i. none_given reply i _ none;
  own = λ i. omega arith;
  links = λ i few. Fewer (omega arith) (omega arith);
}

-- the own elements of what stands in a slot are among the table's
in_slot_of : (table : List (Option (List Seg))) (slot : ℕ) (new : Option (List Seg)) (i : ℕ) →
    slot < length table → bag (own_in_slot new) i ≤ own_in (set table slot new) i
in_slot_of table slot new i within =
    let here = get_or-set_same table slot new None within in
    omega (
      arith,
      ap (λ (o : Option (List Seg)). bag (own_in_slot o) i) here,
      own_in-slot (set table slot new) slot i (omega (arith, length-set table slot new, within)),
    )

-- a packet or nothing comes into a slot, in the place of what stood there
pub set_keeps : (outside : ℕ → ℕ) (m : Member) (s t : Shared) (reply : Reply) (slot : ℕ)
    (old new : Option (List Seg)) (cache : List ℕ) → get_or m.table slot None ≡ old →
    slot < length m.table → t.desks ≡ s.desks → s.changes ≤ t.changes →
    ((i : ℕ) → near (outside i) m s i ≤ 1 →
    held_in (set m.table slot new) i + bag (holds_in_slot old) i
    ≡ held_in m.table i + bag (holds_in_slot new) i →
    bag cache i + bag t.common i + min 1 (outside i + held_in (set m.table slot new) i) ≡ near (outside i) m s i) →
    ((i : ℕ) → near (outside i) m s i ≤ 1 →
    held_in (set m.table slot new) i + bag (holds_in_slot old) i
    ≡ held_in m.table i + bag (holds_in_slot new) i →
    StaysWithin m.limits.ref_limit (outside i + held_in m.table i) (outside i + held_in (set m.table slot new) i)) →
    ((i : ℕ) → bag (new_elements reply) i ≤ bag m.cache i + bag s.common i) →
    ((i : ℕ) → bag (new_elements reply) i ≤ bag (own_in_slot new) i) →
    ((i : ℕ) → bag (own_in_slot new) i ≤ bag (own_in_slot old) i + bag (new_elements reply) i) →
    ((i : ℕ) → near (outside i) m s i ≤ 1 →
    based_in (set m.table slot new) i + based_slot old i
    ≡ based_in m.table i + based_slot new i →
    indirect_in (set m.table slot new) i + indirect_slot old i ≡ indirect_in m.table i + indirect_slot new i →
    LinksAfter (outside i + held_in m.table i) (own_in m.table i) (based_in m.table i)
    (indirect_in m.table i) (based_in (set m.table slot new) i)
    (indirect_in (set m.table slot new) i)) →
    Keeps outside m s (reply, record m { cache = cache; table = set m.table slot new }, t)
set_keeps outside m s t reply slot old new cache there within desks changes placed counts fresh
    stands own links =
    record {
      limits = refl;
      number = refl;
      slots = length-set m.table slot new;
      desks = desks;
      changes = changes;
      placed = λ i few. placed i few (rw there at (held_in-set m.table slot new i within));
      counts = λ i few. counts i few (rw there at (held_in-set m.table slot new i within));
      fresh = fresh;
      stands = λ i. omega (arith, stands i, in_slot_of m.table slot new i within);
      own = λ i. let change = rw there at (own_in-set m.table slot new i within) in omega (arith, change, own i);
      links =
          λ i few.
          links i few (rw there at (based_in-set m.table slot new i within))
          (rw there at (indirect_in-set m.table slot new i within));
    }

-- what becomes of the desks: they stay, or an offer puts a packet onto its own, which is empty, or
-- a take empties its own
pub data DesksAfter (act : Act) (before after : List (Option (List Seg))) : Type 0 where
  Same : after ≡ before → DesksAfter act before after
  Onto : (slot desk : ℕ) (packet : List Seg) → act ≡ Offer slot desk →
      get_or before desk None ≡ None → after ≡ set before desk (Some packet) →
      DesksAfter act before after
  Off : (desk : ℕ) → act ≡ Take desk → after ≡ set before desk None → DesksAfter act before after

-- How often an element is near a worker, with the packets on desks among the others.
abbrev pub near_desks : ℕ → Member → Shared → ℕ → ℕ
near_desks others m s i = near (others + held_in s.desks i) m s i

-- What any act leaves: the worker keeps its limits, its number and as many slots, no change of the
-- stack is taken back, no count passes the reference limit, and each element stays in one place,
-- where
-- others is how often the packets of others hold each. The elements that the worker is told of as
-- new were in its cache or the common list; these and what the packets had, and no others, are own
-- elements of its packets and of those on desks.
-- No element becomes a base and an indirect segment's at once.
pub record Leaves (act : Act) (others : ℕ → ℕ) (m : Member) (s : Shared) (done : Reply × Member × Shared) : Type 0 where
  pub limits : done.1.limits ≡ m.limits
  pub number : done.1.number ≡ m.number
  pub slots : length done.1.table ≡ length m.table
  pub desks : DesksAfter act s.desks done.2.desks
  pub changes : s.changes ≤ done.2.changes
  pub placed : (i : ℕ) → near_desks (others i) m s i ≤ 1 →
      near_desks (others i) done.1 done.2 i ≡ near_desks (others i) m s i
  pub counts : (i : ℕ) → near_desks (others i) m s i ≤ 1 →
      StaysWithin m.limits.ref_limit (others i + held_in s.desks i + held_in m.table i)
      (others i + held_in done.2.desks i + held_in done.1.table i)
  pub fresh : (i : ℕ) → bag (new_elements done.0) i ≤ bag m.cache i + bag s.common i
  pub stands : (i : ℕ) → bag (new_elements done.0) i ≤ own_in done.1.table i
  pub own : (i : ℕ) → own_in done.1.table i + own_in done.2.desks i
      ≤ own_in m.table i + own_in s.desks i + bag (new_elements done.0) i
  pub links : (i : ℕ) → near_desks (others i) m s i ≤ 1 →
      LinksAfter (others i + held_in s.desks i + held_in m.table i)
      (own_in m.table i + own_in s.desks i) (based_in m.table i + based_in s.desks i)
      (indirect_in m.table i + indirect_in s.desks i)
      (based_in done.1.table i + based_in done.2.desks i) (indirect_in done.1.table i + indirect_in done.2.desks i)

-- an act that writes no desk leaves what it keeps, the desks' holds counted among the others'
pub leaves_kept : {act : Act} {others : ℕ → ℕ} {m : Member} {s : Shared}
    {done : Reply × Member × Shared} → Keeps (λ i. others i + held_in s.desks i) m s done →
    Leaves act others m s done
leaves_kept {others = others} {m = m} {s = s} {done = done} k = record {
  limits = k.limits;
  number = k.number;
  slots = k.slots;
  desks = Same k.desks;
  changes = k.changes;
  placed = λ i few. omega (arith, k.placed i few, ap (λ (desks : List (Option (List Seg))). held_in desks i) k.desks);
  counts =
      λ i few low within.
      omega (
        arith,
        k.counts i few low within,
        ap (λ (desks : List (Option (List Seg))). held_in desks i) k.desks,
      );
  fresh = k.fresh;
  stands = k.stands;
  own = λ i. omega (arith, k.own i, ap (λ (desks : List (Option (List Seg))). own_in desks i) k.desks);
  links =
      λ i few.
      rw k.desks (links_beside (others i + held_in s.desks i + held_in m.table i)
      (own_in m.table i) (based_in m.table i) (indirect_in m.table i) (based_in done.1.table i)
      (indirect_in done.1.table i)
      (own_in s.desks i) (based_in s.desks i) (indirect_in s.desks i) (indirect_in-own s.desks i) (k.links i few));
}
