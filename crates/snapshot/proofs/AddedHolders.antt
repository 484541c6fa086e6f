-- Holders that are added to the lists of elements.
use Rattle.std.proofs.Common.{ℕ, ◌≡◌, ◌≢◌, ◌+◌, ◌<◌, ◌≤◌, Bool, inl, inr, List, [], ◌∷◌, ◌++◌, length, get_or, set, take, drop, replicate, Option, Some, None, Vec, refl, sym, ap, subst, ◌∙◌, append_assoc, arith}
use Rattle.std.specs.Prelude.{sum_by}
use Rattle.std.specs.declared.alloc.Global.{Global}
use Rattle.std.proofs.Math.ListN.{length-set}
use Rattle.std.proofs.lemmas.Bool.{cases_eq, cases_lt}
use Rattle.std.proofs.lemmas.List.{append-nil, drop_all, drop_more, flat_map_more, get_or-map, get_or-set_other, get_or-set_same, length-map, map-set, replicate-append-replicate, take_more}
use Rattle.std.proofs.lemmas.List.Sums.{get_or-le-sum_by}
use Rattle.commons.specs.Bag.{bag, one}
use Rattle.commons.specs.Packets.{held_in, hold_of, holds_in_slot, holds_of_packet, holds_of_seg, no_seg}
use Rattle.commons.specs.declared.packet.Seg.{Seg}
use Rattle.commons.proofs.Bags.{bag-head, bag-nil, one-same}
use Rattle.commons.proofs.Places.{one-apart}
use Rattle.pool_model.specs.Guests.{local_packet, local_place, local_seg, local_table}
use Rattle.pool_model.proofs.LocalPools.{local_table-cons, local_table-nil}
use Rattle.pool_statement.specs.declared.statement.Holder.{Holder}
use Rattle.pool_statement.specs.declared.statement.Holder.TheVariants.{Worker, Desk}
use Rattle.pool_model.specs.Statements.{desks_of}
use Rattle.snapshot.specs.declared.snapshot.ShareData.{ShareData}
use Rattle.snapshot.specs.inside.Adding.{AreAdded, lists_of, share_holds, workers_in}
use Rattle.snapshot.proofs.LocalHolds.{packet-more, table-more, table-part}
use Rattle.snapshot.proofs.Meetings.{bag-suc}

-- ---- one hold

-- the list of one element becomes longer by one
added-one : (elem : ℕ) (holder : Holder) (old new : List (List Holder)) → elem < length old →
    new ≡ set old elem (get_or old elem [] ++ holder ∷ []) →
    AreAdded (λ i. replicate (one elem i) holder) old new
added-one elem holder old new l e =
    let list : List Holder = get_or old elem [] ++ holder ∷ [] in record {
      len = ap length e ∙ length-set old elem list;
      each = λ i. elim (cases_eq elem i) [
        | inl q ↦ subst (λ (k : ℕ). get_or new k [] ≡ get_or old k [] ++ replicate (one elem k) holder) q
            (ap (λ (t : List (List Holder)). get_or t elem []) e ∙ get_or-set_same old elem list [] l
            ∙ ap (λ (n : ℕ). get_or old elem [] ++ replicate n holder) (sym (one-same elem)))
        | inr q ↦
            let apart : i ≢ elem = λ p. q (sym p) in
            ap (λ (t : List (List Holder)). get_or t i []) e ∙ get_or-set_other old elem i list [] apart
            ∙ sym (append-nil (get_or old i []))
            ∙ ap (λ (n : ℕ). get_or old i [] ++ replicate n holder)
            (sym (one-apart elem i apart))
      ];
    }

-- the same of a table of vectors, one of which is pushed to
pub added-push : (elem : ℕ) (holder : Holder) (table : List (Vec Holder Global)) (before after : Vec Holder Global) →
    elem < length (lists_of table) →
    before ≡ get_or table elem before → after.items ≡ before.items ++ holder ∷ [] →
    AreAdded (λ i. replicate (one elem i) holder) (lists_of table) (lists_of (set table elem after))
added-push elem holder table before after l e pushed =
    let there : elem < length table = omega (arith, length-map table (λ (v : Vec Holder Global). v.items)) in
    let list : before.items ≡ get_or (lists_of table) elem [] = ap (λ (v : Vec Holder Global). v.items) e
    ∙ sym (get_or-map (λ (v : Vec Holder Global). v.items) table elem before [] there) in
    added-one elem holder (lists_of table) (lists_of (set table elem after)) l
    (map-set (λ (v : Vec Holder Global). v.items) table elem after
    ∙ ap (λ (xs : List Holder). set (lists_of table) elem xs)
    (pushed ∙ ap (λ (xs : List Holder). xs ++ holder ∷ []) list))

-- an element that stands in a list of elements below a bound is below it
pub elem_below : (n e : ℕ) (es : List ℕ) → 0 < bag es e → ((i : ℕ) → n ≤ i → bag es i ≡ 0) → e < n
elem_below n e es some none = elim (cases_lt e n) [
  | inl h ↦ h
  | inr h ↦ absurd (omega (arith, none e h))
]

-- and so is a base
pub base_below : (n e : ℕ) (base : Option ℕ) → base ≡ Some e → ((i : ℕ) → n ≤ i → bag (hold_of base) i ≡ 0) → e < n
base_below n e base is none = elem_below n e (hold_of base) (rw is (bag-head e [])) none

-- ---- holds together

-- no holder
pub added-none : (more : ℕ → List Holder) (table : List (List Holder)) → ((i : ℕ) → more i ≡ []) →
    AreAdded more table table
added-none more table none = record {
  len = refl;
  each = λ i. sym (append-nil (get_or table i [])) ∙ ap (λ (xs : List Holder). get_or table i [] ++ xs) (sym (none i));
}

-- the same holders, put differently
pub added-same : (f g : ℕ → List Holder) (a b : List (List Holder)) → AreAdded f a b →
    ((i : ℕ) → f i ≡ g i) → AreAdded g a b
added-same f g a b added same = record {
  len = added.len;
  each = λ i. added.each i
      ∙ ap (λ (xs : List Holder). get_or a i [] ++ xs) (same i);
}

-- some, and then others
added-both : (first later both : ℕ → List Holder) (a b c : List (List Holder)) →
    AreAdded first a b → AreAdded later b c →
    ((i : ℕ) → first i ++ later i ≡ both i) → AreAdded both a c
added-both first later both a b c f g joined = record {
  len = g.len ∙ f.len;
  each =
      λ i. g.each i ∙ ap (λ (xs : List Holder). xs ++ later i) (f.each i)
      ∙ append_assoc (get_or a i []) (first i) (later i)
      ∙ ap (λ (xs : List Holder). get_or a i [] ++ xs) (joined i);
}

-- one holder so often, and then again
pub added-times : (holder : Holder) (m n total : ℕ → ℕ) (a b c : List (List Holder)) →
    AreAdded (λ i. replicate (m i) holder) a b → AreAdded (λ i. replicate (n i) holder) b c →
    ((i : ℕ) → m i + n i ≡ total i) → AreAdded (λ i. replicate (total i) holder) a c
added-times holder m n total a b c f g sum =
    added-both (λ i. replicate (m i) holder) (λ i. replicate (n i) holder) (λ i. replicate (total i) holder) a b c f g
    (λ i. replicate-append-replicate (m i) (n i) holder ∙ ap (λ (k : ℕ). replicate k holder) (sum i))

-- one element of a list more
pub added-elem : (holder : Holder) (elems : List ℕ) (k : ℕ) (a b c : List (List Holder)) → k < length elems →
    AreAdded (λ i. replicate (bag (take k elems) i) holder) a b →
    AreAdded (λ i. replicate (one (get_or elems k 0) i) holder) b c →
    AreAdded (λ i. replicate (bag (take (k + 1) elems) i) holder) a c
added-elem holder elems k a b c l f g =
    added-times holder (bag (take k elems)) (one (get_or elems k 0)) (bag (take (k + 1) elems)) a b c f g
    (λ i. sym (bag-suc elems k i l))

-- one segment more
pub added-seg : (holder : Holder) (foreign : Bool) (segs : List Seg) (k : ℕ) (a b c : List (List Holder)) →
    k < length segs →
    AreAdded (λ i. replicate (bag (holds_of_packet (local_packet foreign (take k segs))) i) holder) a b →
    AreAdded (λ i. replicate (bag (holds_of_seg (local_seg foreign (get_or segs k no_seg))) i) holder) b c →
    AreAdded (λ i. replicate (bag (holds_of_packet (local_packet foreign (take (k + 1) segs))) i) holder) a c
added-seg holder foreign segs k a b c l f g =
    added-times holder (bag (holds_of_packet (local_packet foreign (take k segs))))
    (bag (holds_of_seg (local_seg foreign (get_or segs k no_seg))))
    (bag (holds_of_packet (local_packet foreign (take (k + 1) segs)))) a b c f g
    (λ i. sym (packet-more foreign segs k i no_seg l))

-- ---- a table of slots

-- a packet in a table of which nothing is held holds nothing
pub slot_unheld : (foreign : Bool) (slots : List (Option (List Seg))) (k : ℕ) (slot : Option (List Seg))
    (found segs : List Seg) (i : ℕ) →
    k < length slots → slot ≡ get_or slots k slot → slot ≡ Some found → segs ≡ found →
    held_in (local_table foreign slots) i ≡ 0 → bag (holds_of_packet (local_packet foreign segs)) i ≡ 0
slot_unheld foreign slots k slot found segs i l e is same none =
    let f : Option (List Seg) → ℕ = λ s. bag (holds_in_slot (local_place foreign s)) i in
    omega (
      arith,
      none,
      table-part foreign slots k i slot l,
      ap f (sym e ∙ is ∙ ap (λ (s : List Seg). Some s) (sym same)),
    )

-- the slots so far and this one give each element the holder as often as all of them hold it
added-slot : (holder : Holder) (foreign : Bool) (slots : List (Option (List Seg))) (k : ℕ) (slot : Option (List Seg))
    (a b c : List (List Holder)) → k < length slots → slot ≡ get_or slots k slot →
    AreAdded (λ i. replicate (held_in (local_table foreign (take k slots)) i) holder) a b →
    AreAdded (λ i. replicate (bag (holds_in_slot (local_place foreign slot)) i) holder) b c →
    AreAdded (λ i. replicate (held_in (local_table foreign (take (k + 1) slots)) i) holder) a c
added-slot holder foreign slots k slot a b c l e f g =
    added-times holder (held_in (local_table foreign (take k slots)))
    (bag (holds_in_slot (local_place foreign slot)))
    (held_in (local_table foreign (take (k + 1) slots))) a b c f g
    (λ i. ap (λ (s : Option (List Seg)). held_in (local_table foreign (take k slots)) i
    + bag (holds_in_slot (local_place foreign s)) i) e
    ∙ sym (table-more foreign slots k i slot l))

-- one slot more, in which a packet stands
pub added-full : (holder : Holder) (foreign : Bool) (slots : List (Option (List Seg))) (k : ℕ)
    (slot : Option (List Seg)) (found segs : List Seg)
    (a b c : List (List Holder)) → k < length slots →
    slot ≡ get_or slots k slot → slot ≡ Some found → segs ≡ found →
    AreAdded (λ i. replicate (held_in (local_table foreign (take k slots)) i) holder) a b →
    AreAdded (λ i. replicate (bag (holds_of_packet (local_packet foreign segs)) i) holder) b c →
    AreAdded (λ i. replicate (held_in (local_table foreign (take (k + 1) slots)) i) holder) a c
added-full holder foreign slots k slot found segs a b c l e is same f g =
    added-slot holder foreign slots k slot a b c l e f
    (added-same (λ i. replicate (bag (holds_of_packet (local_packet foreign segs)) i) holder)
    (λ i. replicate (bag (holds_in_slot (local_place foreign slot)) i) holder) b c g
    (λ i.
    ap (λ (s : Option (List Seg)). replicate (bag (holds_in_slot (local_place foreign s)) i) holder)
    (ap (λ (s : List Seg). Some s) same ∙ sym is)))

-- and one in which nothing stands
pub added-empty : (holder : Holder) (foreign : Bool) (slots : List (Option (List Seg))) (k : ℕ)
    (slot : Option (List Seg)) (a b : List (List Holder)) → k < length slots →
    slot ≡ get_or slots k slot → slot ≡ None →
    AreAdded (λ i. replicate (held_in (local_table foreign (take k slots)) i) holder) a b →
    AreAdded (λ i. replicate (held_in (local_table foreign (take (k + 1) slots)) i) holder) a b
added-empty holder foreign slots k slot a b l e none f =
    added-slot holder foreign slots k slot a b b l e f
    (added-none (λ i. replicate (bag (holds_in_slot (local_place foreign slot)) i) holder) b
    (λ i. ap (λ (s : Option (List Seg)). replicate (bag (holds_in_slot (local_place foreign s)) i) holder) none
    ∙ ap (λ (n : ℕ). replicate n holder) (bag-nil i)))

-- ---- shares

-- a share holds nothing of what all shares hold nothing of
pub share_unheld : (foreign : Bool) (guests : List (List ℕ)) (shares : List ShareData) (k : ℕ) (share : ShareData)
    (i : ℕ) → k < length shares → share ≡ get_or shares k share →
    sum_by (λ share. share_holds foreign guests share i) shares ≡ 0 → share_holds foreign guests share i ≡ 0
share_unheld foreign guests shares k share i l e none =
    let f : ShareData → ℕ = λ s. share_holds foreign guests s i in
    omega (arith, none, get_or-le-sum_by f shares k share l, ap f e)

-- one share more
pub added-share : (foreign : Bool) (guests : List (List ℕ)) (shares : List ShareData) (k : ℕ) (share : ShareData)
    (own : List ℕ) (a b c : List (List Holder)) → k < length shares → share ≡ get_or shares k share →
    own ≡ get_or guests share.worker [] →
    AreAdded (workers_in foreign guests (take k shares)) a b →
    AreAdded (λ i. replicate (held_in (local_table foreign share.slots) i + bag own i) (Worker share.worker)) b c →
    AreAdded (workers_in foreign guests (take (k + 1) shares)) a c
added-share foreign guests shares k share own a b c l e same f g =
    let copies = λ (i : ℕ) (s : ShareData). replicate (share_holds foreign guests s i) (Worker s.worker) in
    added-both (workers_in foreign guests (take k shares))
    (λ i. replicate (held_in (local_table foreign share.slots) i + bag own i) (Worker share.worker))
    (workers_in foreign guests (take (k + 1) shares)) a b c f g
    (λ i. ap (λ (es : List ℕ). workers_in foreign guests (take k shares) i
    ++ replicate (held_in (local_table foreign share.slots) i + bag es i) (Worker share.worker)) same
    ∙ flat_map_more (copies i) [] (take k shares) share
    ∙ ap (λ (xs : List ShareData). workers_in foreign guests xs i)
    (ap (λ (s : ShareData). take k shares ++ s ∷ []) e ∙ sym (take_more shares k share l)))

-- ---- desks

-- the first of these desks, this many, are noted: each element's list, with the desks that follow,
-- is as long as it will be
pub record AreNoted (foreign : Bool) (desks : List (Option (List Seg))) (k : ℕ) (old new : List (List Holder))
    : Type 0 where
  pub len : length new ≡ length old
  pub each : (i : ℕ) → get_or new i [] ++ desks_of k (local_table foreign (drop k desks)) i
      ≡ get_or old i [] ++ desks_of 0 (local_table foreign desks) i

-- one desk more, on which a packet lies
pub noted-full : (foreign : Bool) (desks : List (Option (List Seg))) (k : ℕ) (place : Option (List Seg))
    (found segs : List Seg) (a b c : List (List Holder)) → k < length desks →
    place ≡ get_or desks k place → place ≡ Some found → segs ≡ found →
    AreNoted foreign desks k a b →
    AreAdded (λ i. replicate (bag (holds_of_packet (local_packet foreign segs)) i) (Desk k)) b c →
    AreNoted foreign desks (k + 1) a c
noted-full foreign desks k place found segs a b c l e is same f g =
    let rest = drop (k + 1) desks in
    let later = local_table foreign rest in
    let first : local_table foreign (drop k desks) ≡ Some (local_packet foreign segs) ∷ later =
    ap (local_table foreign) (drop_more desks k place l
    ∙ ap (λ (s : Option (List Seg)). s ∷ rest) (sym e ∙ is ∙ ap (λ (s : List Seg). Some s) (sym same)))
    ∙ local_table-cons foreign (Some segs) rest in record {
      len = g.len ∙ f.len;
      each = λ i. ap (λ (xs : List Holder). xs ++ desks_of (k + 1) later i) (g.each i)
          ∙ append_assoc (get_or b i []) (replicate (bag (holds_of_packet (local_packet foreign segs)) i) (Desk k))
          (desks_of (k + 1) later i)
          ∙ ap (λ (ds : List (Option (List Seg))). get_or b i [] ++ desks_of k ds i) (sym first) ∙ f.each i;
    }

-- and one on which nothing lies
pub noted-empty : (foreign : Bool) (desks : List (Option (List Seg))) (k : ℕ) (place : Option (List Seg))
    (a b : List (List Holder)) → k < length desks →
    place ≡ get_or desks k place → place ≡ None → AreNoted foreign desks k a b → AreNoted foreign desks (k + 1) a b
noted-empty foreign desks k place a b l e none f =
    let rest = drop (k + 1) desks in
    let later = local_table foreign rest in
    let first : local_table foreign (drop k desks) ≡ None ∷ later =
    ap (local_table foreign) (drop_more desks k place l ∙ ap (λ (s : Option (List Seg)). s ∷ rest) (sym e ∙ none))
    ∙ local_table-cons foreign None rest in
    record {
      len = f.len;
      each = λ i. ap (λ (n : ℕ). get_or b i [] ++ (replicate n (Desk k) ++ desks_of (k + 1) later i)) (sym (bag-nil i))
          ∙ ap (λ (ds : List (Option (List Seg))). get_or b i [] ++ desks_of k ds i) (sym first) ∙ f.each i;
    }

-- all of them
pub noted-all : (foreign : Bool) (desks : List (Option (List Seg))) (k : ℕ) (a b : List (List Holder)) →
    length desks ≤ k → AreNoted foreign desks k a b →
    AreAdded (desks_of 0 (local_table foreign desks)) a b
noted-all foreign desks k a b l f = record {
  len = f.len;
  each =
      λ i. sym (append-nil (get_or b i []))
      ∙ ap (λ (ds : List (Option (List Seg))). get_or b i [] ++ desks_of k ds i)
      (sym (ap (local_table foreign) (drop_all k desks l) ∙ local_table-nil foreign)) ∙ f.each i;
}
