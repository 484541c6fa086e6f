-- The shares of a snapshot as members of its pool, and where their elements are.
use Rattle.std.proofs.Common.{ℕ, ◌≡◌, ◌+◌, ◌*◌, ◌<◌, ◌≤◌, Bool, inl, inr, List, [], ◌∷◌, ◌++◌, length, get_or, map, replicate, Option, refl, sym, ap, ◌∙◌, arith}
use Rattle.std.specs.Prelude.{All, flat_map, sum_by}
use Rattle.std.specs.List.{range_with_len}
use Rattle.std.proofs.Math.Nat.{mul-le-mul}
use Rattle.std.proofs.lemmas.Bool.{cases_lt}
use Rattle.std.proofs.lemmas.List.{ext_get_or, get_or_default, get_or-replicate, length-map, length-replicate}
use Rattle.std.proofs.lemmas.List.Elements.{All-head, All-tail}
use Rattle.std.proofs.lemmas.List.Folds.{flat_map-map}
use Rattle.std.proofs.lemmas.List.FromFn.{get_or-map-range_with_len, length-map-range_with_len, length-range_with_len}
use Rattle.std.proofs.lemmas.List.Sums.{get_or-le-sum_by, sum_by-cons, sum_by-le}
use Rattle.commons.specs.Bag.{bag}
use Rattle.commons.specs.Bounds.{IsPool, max_population, max_workers}
use Rattle.commons.specs.Packets.{held_in}
use Rattle.commons.specs.declared.packet.Seg.{Seg}
use Rattle.commons.proofs.Bags.{length-le}
use Rattle.mbuf.specs.Members.{Member}
use Rattle.pool_statement.specs.declared.statement.Holder.{Holder}
use Rattle.pool_statement.specs.declared.statement.Holder.TheVariants.{Worker}
use Rattle.pool_statement.specs.declared.guest.Guest.{Guest}
use Rattle.pool_model.specs.Guests.{guest_holds, guests_of, local_member, local_table, workers_with}
use Rattle.pool_model.specs.Statements.{desks_of}
use Rattle.pool_model.proofs.GuestHolders.{length-holders_with}
use Rattle.pool_model.proofs.LocalPools.{local-desks, local-in_order, local-members}
use Rattle.snapshot.specs.declared.snapshot.ShareData.{ShareData}
use Rattle.snapshot.specs.declared.snapshot.Snapshot.{Snapshot}
use Rattle.snapshot.specs.inside.Adding.{AreAdded, AreByWorker, holders_in, share_holds, workers_in}
use Rattle.snapshot.specs.Snapshots.{HasShape, IsLawful, member_of, own_pool, pool_of, times_held, times_named}
use Rattle.snapshot.proofs.HostedGuests.{hosted-nowhere}
use Rattle.snapshot.proofs.InOrder.{in_order_each, in_order_length}
use Rattle.snapshot.proofs.Shown.{shows_guests, shows_in_order}
use Rattle.snapshot.proofs.Times.{held-is}

-- ---- who holds an element

-- neither shares nor desks hold what nobody names, and no guest is it
pub shares_unheld : (s : Snapshot) (i : ℕ) → times_named s i ≡ 0 →
    sum_by (λ share. held_in (local_table s.foreign share.slots) i) s.shares ≡ 0
shares_unheld s i h = omega (arith, h, held-is s i)

pub desks_unheld : (s : Snapshot) (i : ℕ) → times_named s i ≡ 0 → held_in (local_table s.foreign s.desks) i ≡ 0
desks_unheld s i h = omega (arith, h, held-is s i)

guests_unheld : (s : Snapshot) (i : ℕ) → times_named s i ≡ 0 → guest_holds s.guests i ≡ 0
guests_unheld s i h = omega (arith, h, held-is s i)

-- shares whose guests are elsewhere hold what their packets do
packets_hold : (foreign : Bool) (guests : List (List ℕ)) (shares : List ShareData) (i : ℕ) →
    ((w : ℕ) → bag (get_or guests w []) i ≡ 0) →
    sum_by (λ share. share_holds foreign guests share i) shares
    ≡ sum_by (λ share. held_in (local_table foreign share.slots) i) shares
packets_hold foreign guests [] i none = refl
packets_hold foreign guests (share ∷ shares) i none = omega (
  arith,
  sum_by-cons (λ (x : ShareData). share_holds foreign guests x i) share shares,
  sum_by-cons (λ (x : ShareData). held_in (local_table foreign x.slots) i) share shares,
  none share.worker,
  packets_hold foreign guests shares i none,
)

-- so with their guests they hold nothing that nobody names
pub workers_unheld : (s : Snapshot) (guests : List (List ℕ)) (i : ℕ) → AreByWorker s.limits.workers s.guests guests →
    times_named s i ≡ 0 → sum_by (λ share. share_holds s.foreign guests share i) s.shares ≡ 0
workers_unheld s guests i hosted h =
    packets_hold s.foreign guests s.shares i
    (hosted-nowhere s.limits.workers s.guests guests hosted i (guests_unheld s i h))
    ∙ shares_unheld s i h

-- workers stand as often as their guests and their packets say
workers_same : (foreign : Bool) (workers : ℕ) (guests : List Guest) (lists : List (List ℕ)) (shares : List ShareData)
    (i : ℕ) → AreByWorker workers guests lists → All (λ share. share.worker < length lists) shares →
    flat_map (λ (share : ShareData).
    replicate (held_in (local_table foreign share.slots) i + guests_of guests share.worker i) (Worker share.worker))
    shares ≡ workers_in foreign lists shares i
workers_same foreign workers guests lists [] i hosted within = refl
workers_same foreign workers guests lists (share ∷ shares) i hosted within =
    let has = λ (share : ShareData). share.worker < length lists in
    let here = sym (hosted.each share.worker i (All-head has share shares within)) in
    let rest = workers_same foreign workers guests lists shares i hosted (All-tail has share shares within) in
    let held = held_in (local_table foreign share.slots) i in
    ap (λ (later : List Holder). replicate (held + guests_of guests share.worker i) (Worker share.worker) ++ later) rest
    ∙ ap (λ (n : ℕ). replicate (held + n) (Worker share.worker) ++ workers_in foreign lists shares i) here

workers_of_shares : (s : Snapshot) (lists : List (List ℕ)) (i : ℕ) → AreByWorker s.limits.workers s.guests lists →
    All (λ share. share.worker < length lists) s.shares →
    workers_with s.guests (own_pool s).members i ≡ workers_in s.foreign lists s.shares i
workers_of_shares s lists i hosted within =
    let copies = λ (m : Member).
    replicate (held_in m.table i + guests_of s.guests m.number i) (Worker m.number) in
    ap (λ (members : List Member). workers_with s.guests members i) (local-members s.foreign (pool_of s))
    ∙ flat_map-map copies (local_member s.foreign) (map (member_of s) s.shares)
    ∙ flat_map-map (λ (m : Member). copies (local_member s.foreign m)) (member_of s) s.shares
    ∙ workers_same s.foreign s.limits.workers s.guests lists s.shares i hosted within

-- once the workers and the desks are added to empty lists, they are the holders of each element
pub all_holders : (s : Snapshot) (guests : List (List ℕ)) (a b c : List (List Holder)) →
    AreByWorker s.limits.workers s.guests guests → All (λ share. share.worker < length guests) s.shares →
    a ≡ replicate s.limits.population [] → AreAdded (workers_in s.foreign guests s.shares) a b →
    AreAdded (desks_of 0 (local_table s.foreign s.desks)) b c →
    c ≡ map (holders_in s) (range_with_len 0 s.limits.population)
all_holders s guests a b c hosted within e f g =
    let n = s.limits.population in
    let len : length c ≡ n = g.len ∙ f.len ∙ ap length e ∙ length-replicate n [] in
    ext_get_or [] c (map (holders_in s) (range_with_len 0 n)) (len ∙ sym (length-map-range_with_len (holders_in s) 0 n))
    (λ i l.
    let below : i < n = omega arith in
    let none : get_or a i [] ≡ [] =
    ap (λ (t : List (List Holder)). get_or t i []) e ∙ get_or-replicate n i [] [] below in
    g.each i
    ∙ ap (λ (xs : List Holder). xs ++ desks_of 0 (local_table s.foreign s.desks) i) (f.each i
    ∙ ap (λ (xs : List Holder). xs ++ workers_in s.foreign guests s.shares i) none
    ∙ sym (workers_of_shares s guests i hosted within))
    ∙ ap (λ (ds : List (Option (List Seg))). workers_with s.guests (own_pool s).members i ++ desks_of 0 ds i)
    (sym (local-desks s.foreign (pool_of s)))
    ∙ sym (get_or-map-range_with_len (holders_in s) 0 n i i [] below (omega arith)))

-- an element's holders are as many as its holds
pub length-holders : (s : Snapshot) (i : ℕ) → HasShape s → length (holders_in s i) ≡ times_held s i
length-holders s i shape =
    length-holders_with s.guests (own_pool s).members (own_pool s).shared.desks i
    (local-in_order s.foreign (pool_of s) (shows_in_order s shape)) (shows_guests s shape)

-- each worker's list of guests is there
pub shares_within : (s : Snapshot) (guests : List (List ℕ)) → HasShape s →
    AreByWorker s.limits.workers s.guests guests → All (λ share. share.worker < length guests) s.shares
shares_within s guests shape hosted =
    λ k d l. omega (
      arith,
      in_order_each (λ (share : ShareData). share.worker) s.shares s.limits.workers k (get_or s.shares k d) shape.shares
          l (sym (get_or_default s.shares k _ _ l)),
      in_order_length (λ (share : ShareData). share.worker) s.shares s.limits.workers shape.shares,
      l,
      hosted.len,
    )

-- ---- how many elements caches have

-- an element stands in a cache at most once, and only one of the pool does
cached_once : (s : Snapshot) (k i : ℕ) (share : ShareData) → IsLawful s → k < length s.shares →
    bag (get_or s.shares k share).cache i ≤ 1
cached_once s k i share lawful l =
    let here = get_or-le-sum_by (λ (share : ShareData). bag share.cache i) s.shares k share l in
    elim (cases_lt i s.limits.population) [
      | inl h ↦ omega (arith, here, lawful.once i h)
      | inr h ↦ omega (arith, here, lawful.known i h)
    ]

-- a lawful snapshot names nothing past the population, so no cache has it
cached_below : (s : Snapshot) (k i : ℕ) (share : ShareData) → IsLawful s → k < length s.shares →
    s.limits.population ≤ i →
    bag (get_or s.shares k share).cache i ≡ 0
cached_below s k i share lawful l h = omega (
  arith,
  get_or-le-sum_by
      (λ (share : ShareData). bag share.cache i) s.shares k share l,
  lawful.known i h,
)

-- as many shares as workers
length-shares : (s : Snapshot) → IsLawful s → length s.shares ≡ s.limits.workers
length-shares s lawful =
    sym (length-map s.shares (λ (share : ShareData). share.worker)) ∙ ap length lawful.shape.shares
    ∙ length-range_with_len 1 s.limits.workers

product_short : (shares population : ℕ) → shares ≤ max_workers → population ≤ max_population → shares * population ≤ 4294967295
product_short shares population w p = omega (arith, mul-le-mul w p)

-- a cache has at most the population's elements, and there are at most 64, so the sum fits a word
pub caches_short : (s : Snapshot) → IsPool s.limits → IsLawful s →
    sum_by (λ share. length share.cache) s.shares ≤ 4294967295
caches_short s pool lawful =
    let sum = sum_by-le (λ (share : ShareData). length share.cache) s.limits.population s.shares
    (λ k share l. length-le s.limits.population (get_or s.shares k share).cache (λ i. cached_once s k i share lawful l)
    (λ i h. cached_below s k i share lawful l h)) in
    let most =
    product_short (length s.shares) s.limits.population
    (omega (arith, length-shares s lawful, pool.workers)) pool.population in
    omega (arith, sum, most)
