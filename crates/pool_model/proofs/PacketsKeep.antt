-- What a worker does with its own packets keeps each element in one place, and leaves the desks.
use Rattle.std.proofs.Common.{ℕ, ◌≡◌, ◌+◌, ◌<◌, ◌≤◌, ◌==◌, inl, inr, nat_lt, List, [], ◌∷◌, ◌++◌, length, length-set, get_or, map, set, take, Option, Some, None, Result, Ok, Err, refl, sym, ◌∙◌, ap, arith}
use Rattle.std.specs.Prelude.{is_none}
use Rattle.std.specs.List.{position_or_len}
use Rattle.std.proofs.lemmas.Bool.{cases_Bool, ltb-false, eqb-false}
use Rattle.commons.specs.Bag.{bag}
use Rattle.commons.specs.declared.limits.Limits.{Limits}
use Rattle.commons.specs.declared.packet.Seg.{Seg}
use Rattle.commons.specs.declared.refusal.Refusal.{Refusal}
use Rattle.commons.specs.Packets.{holds_in_slot, held_in, max_segs}
use Rattle.commons.proofs.Bags.{bag-nil, bag-single, bag-of_one}
use Rattle.commons.proofs.PacketBags.{stands_within}
use Rattle.mbuf.specs.Members.{Member}
use Rattle.mbuf.specs.Acts.{first_elem, new_packet, told_both}
use Rattle.mbuf.specs.declared.acts.NewPacket.{NewPacket}
use Rattle.mbuf.specs.Fresh.{new_elements}
use Rattle.mbuf.specs.PacketRules.{chain_in, resize_in, resize_to, fresh_seg, free_slots, freed_nothing, stood}
use Rattle.mbuf.proofs.ChainLemmas.{KeepsHolds-chain}
use Rattle.mbuf.proofs.FreeLemmas.{first_free, holds_stood, stood_there, taken_first}
use Rattle.mbuf.proofs.ResizeLemmas.{SamePacketHolds}
use Rattle.pool_model.specs.Pool.{Shared}
use Rattle.pool_model.specs.CacheModel.{get}
use Rattle.pool_model.specs.PacketModel.{alloc_bulk, alloc_in, chained_beside, fill_slot, fill_slots, flush_member, free_in, told_beside}
use Rattle.pool_model.proofs.CacheBags.{IsGot, flush-IsPut, get-IsGot}
use Rattle.pool_model.proofs.HeldBags.{end_holds-IsEnded}
use Rattle.pool_model.proofs.Links.{Fewer, SameIndirect, fresh_links, held_split, packet_split, stood_links}
use Rattle.pool_model.proofs.LinkSteps.{chain_indirect}
use Rattle.pool_model.proofs.Leaves.{Keeps, cache_keeps, none_given, nothing_keeps, set_keeps}

-- making a packet moves its element from the cache or the common list
fill_slot-keeps : (outside : ℕ → ℕ) (slot : ℕ) (m : Member) (s : Shared)
    (r : Result (List ℕ) Refusal × List ℕ × Shared) → slot < length m.table →
    get_or m.table slot None ≡ None → IsGot 1 m.cache s r →
    Keeps outside m s (fill_slot slot m r)
fill_slot-keeps outside slot m s (Ok [], cache, t) within e got = absurd (omega (arith, got.long))
fill_slot-keeps outside slot m s (Ok (x ∷ xs), cache, t) within e got =
    set_keeps outside m s t _ slot None (Some (fresh_seg m.limits x ∷ [])) cache e within got.desks got.changes
    (λ i few held. omega (arith, few, held, got.moved i, bag-of_one (x ∷ xs) i got.long, bag-single x i, bag-nil i))
    (λ i few held low limited.
    omega (
      arith,
      few,
      held,
      low,
      limited,
      got.moved i,
      bag-of_one (x ∷ xs) i got.long,
      bag-single x i,
      bag-nil i,
    ))
    (λ i. omega (arith, got.moved i, bag-of_one (x ∷ xs) i got.long, bag-single x i))
    (λ i. omega arith) (λ i. omega arith)
    (λ i few based indirect. let fresh =
    fresh_links m.limits x i in Fewer (omega (arith, based, fresh.0))
    (omega (arith, indirect, fresh.1)))
fill_slot-keeps outside slot m s (Err cause, cache, t) within e got =
    cache_keeps outside m s t _ cache refl got.desks got.changes (λ i. omega (arith, got.moved i))

-- making a packet in a free slot moves its element there, and where none is free nothing changes
pub alloc_in-keeps : (outside : ℕ → ℕ) (slot : Option ℕ) (m : Member) (s : Shared) →
    ((n : ℕ) → slot ≡ Some n → (n < length m.table) × (get_or m.table n None ≡ None)) →
    Keeps outside m s (alloc_in slot m s)
alloc_in-keeps outside None m s free = nothing_keeps outside m s _ refl
alloc_in-keeps outside (Some slot) m s free =
    let empty = free slot refl in
    fill_slot-keeps outside slot m s (get m.limits 1 m.cache s) empty.0 empty.1 (get-IsGot m.limits 1 m.cache s)

-- making several packets moves the elements of all of them
length-stood : (l : Limits) (es slots : List ℕ) (table : List (Option (List Seg))) →
    length (stood l es slots table) ≡ length table
length-stood l [] slots table = refl
length-stood l (e ∷ es) [] table = refl
length-stood l (e ∷ es) (slot ∷ slots) table =
    length-stood l es slots (set table slot (Some (fresh_seg l e ∷ [])))
    ∙ length-set table slot (Some (fresh_seg l e ∷ []))

-- the reply to making several packets tells of their elements in order
bulk_elems : (l : Limits) (es : List ℕ) (table : List (Option (List Seg))) → length es ≤ length (free_slots table) →
    map (λ (packet : NewPacket). packet.elem) (map
    (new_packet (stood l es (take (length es) (free_slots table)) table))
    (take (length es) (free_slots table))) ≡ es
bulk_elems l [] table room = refl
bulk_elems l (e ∷ es) table room =
    let slot = position_or_len is_none table in
    let free = first_free table (omega (arith, room)) in
    let next = set table slot (Some (fresh_seg l e ∷ [])) in
    let slots = taken_first table slot (fresh_seg l e ∷ []) free in
    let there = stood_there l (e ∷ es) table room 0 0 (omega arith) in
    let head = ap first_elem (rw slots at there) in
    rw slots (ap (λ (x : ℕ). x ∷ map (λ (packet : NewPacket). packet.elem)
    (map (new_packet (stood l es (take (length es) (free_slots next)) next))
    (take (length es) (free_slots next)))) head
    ∙ ap (λ (xs : List ℕ). e ∷ xs) (bulk_elems l es next (omega (arith, room, ap (λ (s : List ℕ). length s) slots))))

-- the elements of the get leave cache and stack, and each stands in a free slot, held once
fill_slots-keeps : (outside : ℕ → ℕ) (n : ℕ) (m : Member) (s : Shared)
    (r : Result (List ℕ) Refusal × List ℕ × Shared) → n ≤ length (free_slots m.table) →
    IsGot n m.cache s r →
    Keeps outside m s (fill_slots (take n (free_slots m.table)) m r)
fill_slots-keeps outside n m s (Ok es, cache, t) room got =
    let long : n ≡ length es = sym got.long in record {
      limits = refl;
      number = refl;
      slots = length-stood m.limits es (take n (free_slots m.table)) m.table;
      desks = got.desks;
      changes = got.changes;
      placed =
          λ i few.
          rw (long, (holds_stood m.limits es m.table (omega (arith, room, long)) i).0)
          (omega (arith, few, got.moved i));
      counts =
          λ i few low limited.
          rw (long, (holds_stood m.limits es m.table (omega (arith, room, long)) i).0)
          (omega (arith, few, low, limited, got.moved i));
      fresh = λ i. rw (long, bulk_elems m.limits es m.table (omega (arith, room, long))) (omega (arith, got.moved i));
      stands =
          λ i.
          rw (
            long,
            bulk_elems m.limits es m.table (omega (arith, room, long)),
            (holds_stood m.limits es m.table (omega (arith, room, long)) i).1,
          ) (omega arith);
      own =
          λ i.
          rw (
            long,
            bulk_elems m.limits es m.table (omega (arith, room, long)),
            (holds_stood m.limits es m.table (omega (arith, room, long)) i).1,
          ) (omega arith);
      links =
          λ i few.
          rw long (
          let same = stood_links m.limits es m.table (omega (arith, room, long)) i in
          Fewer (omega (arith, same.0)) (omega (arith, same.1)));
    }
fill_slots-keeps outside n m s (Err cause, cache, t) room got =
    cache_keeps outside m s t _ cache refl got.desks got.changes (λ i. omega (arith, got.moved i))

-- with too few free slots nothing changes, and else each slot gets one element of the get
pub alloc_bulk-keeps : (outside : ℕ → ℕ) (n : ℕ) (m : Member) (s : Shared) → Keeps outside m s (alloc_bulk n m s)
alloc_bulk-keeps outside n m s = elim (cases_Bool (nat_lt (length (free_slots m.table)) n)) [
  | inl e ↦ rw e (nothing_keeps outside m s _ refl)
  | inr e ↦
      rw e (fill_slots-keeps outside n m s (get m.limits n m.cache s)
      (ltb-false (length (free_slots m.table)) n e) (get-IsGot m.limits n m.cache s))
]

-- freeing a packet moves its elements to the cache or the common list, but those that are held
-- elsewhere
pub free_in-keeps : (outside : ℕ → ℕ) (content : Option (List Seg)) (elsewhere : ℕ → ℕ) (slot : ℕ)
    (m : Member) (s : Shared) → get_or m.table slot None ≡ content →
    ((i : ℕ) → slot < length m.table → elsewhere i ≡ outside i + held_in (set m.table slot None) i)
    → Keeps outside m s (free_in content elsewhere slot m s)
free_in-keeps outside None elsewhere slot m s e rest = nothing_keeps outside m s _ refl
free_in-keeps outside (Some segs) elsewhere slot m s e rest =
    let within = stands_within m.table slot segs e in
    let ends = end_holds-IsEnded m.limits elsewhere (holds_in_slot (Some segs)) (freed_nothing, m.cache, s) in
    set_keeps outside m s _ _ slot (Some segs) None _ e within ends.desks ends.changes
    (λ i few held. omega (arith, held, ends.moved i, rest i within, bag-nil i))
    (λ i few held low limited. omega (arith, held, limited, bag-nil i))
    (λ i. omega (arith, bag-nil i)) (λ i. omega (arith, bag-nil i)) (λ i. omega (arith, bag-nil i))
    (λ i few based indirect. Fewer (omega (arith, based)) (omega (arith, indirect)))

-- a change of lengths moves no element
resize_to-keeps : (outside : ℕ → ℕ) (o : Option (List Seg)) (segs : List Seg) (cause : Refusal)
    (slot : ℕ) (m : Member) (s : Shared) → get_or m.table slot None ≡ Some segs →
    ((new : List Seg) → o ≡ Some new → SamePacketHolds new segs) →
    ((new : List Seg) → o ≡ Some new → SameIndirect new segs) →
    Keeps outside m s (told_beside s (resize_to o cause slot m))
resize_to-keeps outside None segs cause slot m s e same indirect = nothing_keeps outside m s _ refl
resize_to-keeps outside (Some new) segs cause slot m s e same links =
    set_keeps outside m s s _ slot (Some segs) (Some new) m.cache e
    (stands_within m.table slot segs e) refl (omega arith)
    (λ i few held. omega (arith, held, ap (λ (es : List ℕ). bag es i) (same new refl).0))
    (λ i few held low limited. omega (arith, held, limited, ap (λ (es : List ℕ). bag es i) (same new refl).0))
    (λ i. omega (arith, bag-nil i)) (λ i. omega (arith, bag-nil i))
    (λ i. omega (arith, ap (λ (es : List ℕ). bag es i) (same new refl).1))
    (λ i few based indirect. Fewer
    (omega (
      arith,
      based,
      packet_split segs i,
      packet_split new i,
      ap (λ (es : List ℕ). bag es i) (same new refl).0,
      ap (λ (es : List ℕ). bag es i) (same new refl).1,
    ))
    (omega (arith, indirect, links new refl i)))

-- a change of lengths leaves the packet its elements and its bases
pub resize_in-keeps : (outside : ℕ → ℕ) (o : Option (List Seg))
    (change : List Seg → Option (List Seg)) (cause : Refusal) (slot : ℕ) (m : Member) (s : Shared)
    → get_or m.table slot None ≡ o →
    ((segs new : List Seg) → change segs ≡ Some new → SamePacketHolds new segs) →
    ((segs new : List Seg) → change segs ≡ Some new → SameIndirect new segs) →
    Keeps outside m s (told_beside s (resize_in o change cause slot m))
resize_in-keeps outside None change cause slot m s e same links = nothing_keeps outside m s _ refl
resize_in-keeps outside (Some segs) change cause slot m s e same links =
    resize_to-keeps outside (change segs) segs cause slot m s e (λ new f. same segs new f)
    (λ new f. links segs new f)

-- what is reported of a length and of segments is of no new element
new-told_both : (slot : Option (List Seg)) → new_elements (told_both slot) ≡ []
new-told_both None = refl
new-told_both (Some segs) = refl

-- a chain moves no element: the segments of one packet go to the end of the other's
pub chain_in-keeps : (outside : ℕ → ℕ) (one two : Option (List Seg)) (head tail : ℕ) (m : Member)
    (s : Shared) → get_or m.table head None ≡ one → get_or m.table tail None ≡ two →
    Keeps outside m s (chained_beside head s (chain_in one two head tail m))
chain_in-keeps outside None two head tail m s e f = nothing_keeps outside m s _ refl
chain_in-keeps outside (Some first) None head tail m s e f = nothing_keeps outside m s _ refl
chain_in-keeps outside (Some first) (Some second) head tail m s e f = elim (cases_Bool (head == tail)) [
  | inl same ↦ rw same (nothing_keeps outside m s _ refl)
  | inr apart ↦ elim (cases_Bool (nat_lt max_segs (length first + length second))) [
    | inl long ↦ rw (apart, long) (nothing_keeps outside m s _ refl)
    | inr few ↦
        let kept =
        KeepsHolds-chain m head tail first second (stands_within m.table head first e)
        (stands_within m.table tail second f) (eqb-false head tail apart) e f in
        rw (apart, few) (record {
          limits = refl;
          number = refl;
          slots =
              length-set (set m.table head (Some (first ++ second))) tail None
              ∙ length-set m.table head (Some (first ++ second));
          desks = refl;
          changes = omega arith;
          placed = λ i one. omega (arith, kept.held i);
          counts = λ i one low limited. omega (arith, kept.held i, limited);
          fresh =
              λ i. let told =
              get_or (set (set m.table head (Some (first ++ second))) tail None) head None in
              none_given (told_both told) i _ (new-told_both told);
          stands =
              λ i. let told =
              get_or (set (set m.table head (Some (first ++ second))) tail None) head None in
              none_given (told_both told) i _ (new-told_both told);
          own = λ i. omega (arith, kept.own i);
          links = λ i one. Fewer
              (omega (
                arith,
                kept.held i,
                kept.own i,
                held_split m.table i,
                held_split (set (set m.table head (Some (first ++ second))) tail None) i,
              ))
              (omega (
                arith,
                chain_indirect m.table head tail first second i
                    (stands_within m.table head first e) (stands_within m.table tail second f)
                    (eqb-false head tail apart) e f,
              ));
        })
  ]
]

-- a flush moves elements from the cache to the common list
pub flush_member-keeps : (outside : ℕ → ℕ) (m : Member) (s : Shared) → Keeps outside m s (flush_member m s)
flush_member-keeps outside m s =
    let put = flush-IsPut m.cache s in
    cache_keeps outside m s _ _ _ refl put.desks put.changes
    (λ i. omega (arith, put.moved i, bag-nil i))
