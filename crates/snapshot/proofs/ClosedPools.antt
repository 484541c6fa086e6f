-- A pool that acts made of a new one, once it is closed.
use Rattle.std.proofs.Common.{ℕ, ◌≡◌, ◌+◌, ◌<◌, ◌≤◌, inl, inr, nat_lt, cond, List, [], ◌∷◌, ◌++◌, length, map, Some, refl, sym, ap, ◌∙◌, arith}
use Rattle.std.specs.Prelude.{All, max, sum_by}
use Rattle.std.specs.List.{range_with_len}
use Rattle.std.proofs.lemmas.Bool.{cases_lt}
use Rattle.std.proofs.lemmas.Bool.Decides.{nat_tests}
use Rattle.std.proofs.lemmas.List.{append-nil}
use Rattle.std.proofs.lemmas.List.Elements.{All-contains, All-cons, All-nil, All-head, All-tail, All-weaker}
use Rattle.std.proofs.lemmas.List.FromFn.{get_or-map-range_with_len, length-map-range_with_len}
use Rattle.std.proofs.lemmas.List.Sums.{sum_by-cons}
use Rattle.commons.specs.Bag.{bag}
use Rattle.commons.specs.Closing.{link_in}
use Rattle.commons.specs.declared.limits.Limits.{Limits}
use Rattle.commons.specs.declared.packet.Seg.{Seg}
use Rattle.commons.specs.Packets.{IsPacket, held_in, own_in}
use Rattle.commons.proofs.Bags.{length-le}
use Rattle.commons.proofs.Tables.{all_below}
use Rattle.mbuf.specs.declared.acts.Act.{Act}
use Rattle.mbuf.specs.Members.{Member, slots}
use Rattle.pool_statement.specs.declared.guest.Guest.{Guest}
use Rattle.pool_model.specs.PacketModel.{after_acts}
use Rattle.pool_model.specs.Pool.{Pool, held_by, held_of, new_pool}
use Rattle.pool_model.specs.Statements.{statement_of}
use Rattle.pool_model.proofs.Alone.{statement_alone}
use Rattle.pool_model.proofs.Balance.{IsBalanced, after_acts-balanced, at_most_one, new_pool-balanced}
use Rattle.pool_model.proofs.Numbered.{AreNumbered, IsNumbered, acts-numbered, full_tables}
use Rattle.pool_model.proofs.PacketsStand.{ArePlaces, HasPackets, IsPlace, acts-packets}
use Rattle.snapshot.specs.Closing.{share_of, snapshot_in}
use Rattle.snapshot.specs.declared.snapshot.ShareData.{ShareData}
use Rattle.snapshot.specs.Snapshots.{elements_of, HasPacket, HasShape, HasSlots, IsLawful, most_places, pool_of, statement_in, times_held, walk, words_met}
use Rattle.snapshot.proofs.FollowedLinks.{linked, words_linked}
use Rattle.snapshot.proofs.Walks.{IsBelow, elements_after, words_and, words_of}

-- a sum over the shares is that over the members
sum-shares : (f : ShareData → ℕ) (members : List Member) →
    sum_by f (map share_of members) ≡ sum_by (λ m. f (share_of m)) members
sum-shares f [] = refl
sum-shares f (m ∷ members) =
    sum_by-cons f (share_of m) (map share_of members)
    ∙ ap (λ (n : ℕ). f (share_of m) + n) (sum-shares f members)
    ∙ sym (sum_by-cons (λ (m : Member). f (share_of m)) m members)

-- what is told of all shares
all_shares : (P : ShareData → Type 0) (members : List Member) → All (λ m. P (share_of m)) members →
    All P (map share_of members)
all_shares P [] h = All-nil P
all_shares P (m ∷ members) h =
    All-cons P (share_of m) (map share_of members)
    (All-head (λ (m : Member). P (share_of m)) m members h)
    (all_shares P members (All-tail (λ (m : Member). P (share_of m)) m members h))

-- ---- the numbers of the shares

-- workers numbered in a row hand in shares with these numbers
share_numbers : (number : ℕ) (members : List Member) → AreNumbered number members →
    map (λ share. share.worker) (map share_of members) ≡ range_with_len number (length members)
share_numbers number [] a = refl
share_numbers number (m ∷ members) a =
    rw a.0 (ap (λ (ns : List ℕ). number ∷ ns) (share_numbers (number + 1) members a.2))

-- ---- how often the snapshot's packets hold an element

-- members made of the shares hold what the members held who handed them in
held_again : (l : Limits) (members : List Member) (i : ℕ) →
    sum_by (λ (m : Member). held_in m.table i) (map (λ share.
    record { limits = l; number = share.worker; cache = share.cache; table = share.slots })
    (map share_of members)) ≡ held_by members i
held_again l [] i = refl
held_again l (m ∷ members) i =
    let again =
    λ (share : ShareData). let x : Member =
    record { limits = l; number = share.worker; cache = share.cache; table = share.slots } in
    x in
    sum_by-cons (λ (m : Member). held_in m.table i) (again (share_of m))
    (map again (map share_of members))
    ∙ ap (λ (n : ℕ). held_in m.table i + n) (held_again l members i)
    ∙ sym (sum_by-cons (λ (m : Member). held_in m.table i) m members)

held_same : (pool : Pool) (i : ℕ) → times_held (snapshot_in pool) i ≡ held_of pool.members pool.shared.desks i
held_same pool i = omega (arith, held_again pool.limits pool.members i)

-- ---- the walk

past_none : (i n : ℕ) → n ≤ i → ◌≡◌ {A = ℕ} (cond (nat_lt i n) 1 0) 0
past_none i n h = grind (arith, nat_tests)

within_one : (i n : ℕ) → i < n → ◌≡◌ {A = ℕ} (cond (nat_lt i n) 1 0) 1
within_one i n h = grind (arith, nat_tests)

-- each element of the common list is one of the pool, and stands there once
common_past : (pool : Pool) → IsBalanced pool → (i : ℕ) → pool.limits.population ≤ i → bag pool.shared.common i ≡ 0
common_past pool b i past = omega (arith, b.placed i, past_none i pool.limits.population past)

common_once : (pool : Pool) → IsBalanced pool → (i : ℕ) → bag pool.shared.common i ≤ 1
common_once pool b i = omega (arith, b.placed i, at_most_one i pool.limits.population)

common_below : (pool : Pool) → IsBalanced pool → All (IsBelow pool.limits.population) pool.shared.common
common_below pool b = all_below pool.limits.population pool.shared.common (common_past pool b)

-- an element of the common list is one of the pool, since past the population none is placed
common_within : (pool : Pool) → IsBalanced pool → (i : ℕ) → 0 < bag pool.shared.common i → i < pool.limits.population
common_within pool b i there =
    elim (cases_lt i pool.limits.population)
    [ inl h ↦ h | inr past ↦ absurd (omega (arith, there, common_past pool b i past)) ]

common_short : (pool : Pool) → IsBalanced pool → length pool.shared.common ≤ pool.limits.population
common_short pool b = length-le pool.limits.population pool.shared.common (common_once pool b) (common_past pool b)

-- the words that are met, and the walk
words_are : (pool : Pool) → IsBalanced pool → words_met (snapshot_in pool) ≡ words_of pool.shared.common ++ 0 ∷ []
words_are pool b =
    let l = pool.limits.population in
    let common = pool.shared.common in
    words_linked l l (map (link_in common) (range_with_len 0 l)) common
    (linked l common (common_within pool b) (common_once pool b)) (common_below pool b)
    (common_short pool b)

-- the links of a closed pool lead from the top through its common list to the end
walk_is : (pool : Pool) → IsBalanced pool → walk (snapshot_in pool) ≡ pool.shared.common
walk_is pool b =
    ap (elements_of pool.limits.population) (words_are pool b)
    ∙ elements_after pool.limits.population pool.shared.common (0 ∷ []) (common_below pool b)
    ∙ append-nil pool.shared.common

-- ---- the law

-- links and counts are made for each element, and shares by workers that are numbered
shaped : (l : Limits) (pool : Pool) → IsNumbered l pool → HasShape (snapshot_in pool)
shaped l pool n = record {
  links = length-map-range_with_len _ 0 pool.limits.population;
  counts = length-map-range_with_len _ 0 pool.limits.population;
  desks = n.desks ∙ sym (ap (λ (x : Limits). x.desks) n.limits);
  shares =
      share_numbers 1 pool.members n.numbers
      ∙ ap (range_with_len 1) (n.workers ∙ sym (ap (λ (x : Limits). x.workers) n.limits));
  places = all_shares (λ share. length share.slots ≤ most_places) pool.members
      (All-weaker (λ (m : Member). length m.table ≡ slots) (λ m. length m.table ≤ most_places)
      (λ m full. omega (arith, full)) pool.members (full_tables 1 pool.members n.numbers));
  guests = All-nil (λ (guest : Guest). (1 ≤ guest.worker) × (guest.worker ≤ pool.limits.workers));
  few = omega arith;
}

-- what a share or a desk of the snapshot has stood in a slot or lay on a desk of the pool
are_packets : (pool : Pool) → HasPackets pool → (segs : List Seg) → HasPacket (snapshot_in pool) segs → IsPacket segs
are_packets pool p segs h = elim h [
  | inl lies ↦ All-contains IsPlace pool.shared.desks (Some segs) p.on_desks lies
  | inr stands ↦
      let slots : ArePlaces stands.0.slots =
      All-contains (λ (share : ShareData). ArePlaces share.slots) (map share_of pool.members)
      stands.0 (all_shares (λ share. ArePlaces share.slots) pool.members p.in_slots) stands.1
      in
      All-contains IsPlace stands.0.slots (Some segs) slots stands.2
]

-- in the pool each element is in one place, and links, counts and shares show that place
lawful : (l : Limits) (pool : Pool) → IsBalanced pool → IsNumbered l pool → HasPackets pool →
    IsLawful (snapshot_in pool)
lawful l pool b n p =
    let population = pool.limits.population in
    record {
      shape = shaped l pool n;
      words = words_and (snapshot_in pool) pool.shared.common 0 (common_below pool b) (omega arith) (words_are pool b);
      ends = omega (arith, ap length (walk_is pool b), common_short pool b);
      len = sym (ap length (walk_is pool b));
      known =
          λ e past.
          omega (
            arith,
            sum-shares (λ share. bag share.cache e) pool.members,
            held_same pool e,
            b.placed e,
            past_none e population past,
          );
      packets = are_packets pool p;
      own_once = λ e. omega (arith, sum-shares (λ share. own_in share.slots e) pool.members, b.own e);
      once =
          λ e within.
          omega (
            arith,
            ap (λ (xs : List ℕ). bag xs e) (walk_is pool b),
            sum-shares (λ share. bag share.cache e) pool.members,
            held_same pool e,
            b.placed e,
            within_one e population within,
          );
      counted =
          λ e within.
          get_or-map-range_with_len (λ i. max 1 (held_of pool.members pool.shared.desks i)) 0
          population e e 0 within (omega arith)
          ∙ ap (λ (n : ℕ). max 1 n) (sym (held_same pool e));
    }

-- ---- the statement

-- shares lack only the pool's limits, which all members have
members_again : (l : Limits) (members : List Member) → All (λ m. m.limits ≡ l) members →
    map (λ share.
    record { limits = l; number = share.worker; cache = share.cache; table = share.slots })
    (map share_of members) ≡ members
members_again l [] h = refl
members_again l (m ∷ members) h =
    let first =
    ap (λ (x : Limits). let again : Member =
    record { limits = x; number = m.number; cache = m.cache; table = m.table } in again)
    (sym (All-head (λ (m : Member). m.limits ≡ l) m members h)) in
    let rest = members_again l members (All-tail (λ (m : Member). m.limits ≡ l) m members h) in
    ap (λ (ms : List Member). let again : Member =
    record { limits = l; number = m.number; cache = m.cache; table = m.table } in again ∷ ms)
    rest ∙ ap (λ (x : Member). x ∷ members) first

-- the pool with this common list and these members, and no count of changes
abbrev with_list : Pool → List ℕ → List Member → Pool
with_list pool common members = record {
  limits = pool.limits;
  shared = record { common = common; changes = 0; desks = pool.shared.desks };
  members = members;
}

-- walk and shares give common list and members again, and a statement tells of these and the desks
stated : (pool : Pool) → IsBalanced pool → HasPackets pool → statement_in (snapshot_in pool) ≡ statement_of pool
stated pool b p =
    statement_alone (pool_of (snapshot_in pool))
    ∙ ap (λ (members : List Member). statement_of (with_list pool (walk (snapshot_in pool)) members))
    (members_again pool.limits pool.members p.limits)
    ∙ ap (λ (common : List ℕ). statement_of (with_list pool common pool.members)) (walk_is pool b)

-- ---- after any acts

-- acts keep each element in one place, workers numbered, and packets packets
pub acts_lawful : (l : Limits) (acts : List (ℕ × Act)) → IsLawful (snapshot_in (after_acts acts (new_pool l)))
acts_lawful l acts =
    lawful l (after_acts acts (new_pool l))
    (after_acts-balanced acts (new_pool l) (new_pool-balanced l)) (acts-numbered l acts)
    (acts-packets l acts)

-- acts leave each worker its slots
pub acts_have_slots : (l : Limits) (acts : List (ℕ × Act)) → HasSlots (snapshot_in (after_acts acts (new_pool l)))
acts_have_slots l acts =
    let pool = after_acts acts (new_pool l) in
    all_shares (λ share. length share.slots ≡ slots) pool.members
    (full_tables 1 pool.members (acts-numbered l acts).numbers)

-- acts leave a pool whose snapshot shows it again
pub acts_stated : (l : Limits) (acts : List (ℕ × Act)) → let pool =
    after_acts acts (new_pool l) in statement_in (snapshot_in pool) ≡ statement_of pool
acts_stated l acts =
    stated (after_acts acts (new_pool l))
    (after_acts-balanced acts (new_pool l) (new_pool-balanced l)) (acts-packets l acts)
