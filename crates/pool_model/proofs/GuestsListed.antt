-- The statement of a pool whose elements are held for guests too lists each of them once.
use Rattle.std.proofs.Common.{ℕ, ◌≡◌, ◌+◌, ◌≤◌, inl, inr, nat_lt, cond, List, [], ◌∷◌, ◌++◌, length, length-append, get_or, map, false, Option, refl, sym, ap, ◌∙◌, arith}
use Rattle.std.specs.Prelude.{AllPairs, min, sum_by, count_by, flat_map}
use Rattle.std.specs.List.{range_with_len}
use Rattle.std.proofs.lemmas.Bool.{cases_Bool, cond-false, cond-true, le-ltb, lt-ltb, ltb-false, ltb-true}
use Rattle.std.proofs.lemmas.List.{length-map}
use Rattle.std.proofs.lemmas.List.Concat.{length-flat_map}
use Rattle.std.proofs.lemmas.List.Elements.{All-map, filter_passes}
use Rattle.std.proofs.lemmas.List.Kept.{IsStrictlyIncreasing-filter}
use Rattle.commons.specs.Bag.{bag}
use Rattle.commons.specs.declared.packet.Seg.{Seg}
use Rattle.commons.proofs.Bags.{bag-append}
use Rattle.mbuf.specs.Members.{Member}
use Rattle.pool_statement.specs.declared.guest.Guest.{Guest}
use Rattle.pool_statement.specs.declared.statement.Held.{Held}
use Rattle.pool_model.specs.Guests.{AreOfWorkers, ListsEachOnceWith, elements_with, entry_with, guest_holds, guests_of, held_with, statement_with}
use Rattle.pool_model.specs.Pool.{Pool, own_of}
use Rattle.pool_model.specs.Statements.{IsNotAfter, desk_holds, is_desk, is_worker, packet_holds, times_listed, worker_holds}
use Rattle.pool_model.proofs.Balance.{range-bag}
use Rattle.pool_model.proofs.GuestHolders.{holders_with-desk, holders_with-order, holders_with-worker, length-holders_with}
use Rattle.pool_model.proofs.Listed.{bag-filter_no, bag-filter_yes, bag-flat_map, desks_from-holds, desks_from-own, held_once, length-each, packets-holds, packets-own, packets-worker, range-rises, sum_by-map}
use Rattle.pool_model.proofs.Numbered.{AreInOrder}

-- Each element of the pool is in one place, and nothing else is anywhere, where elements are held
-- for guests too; and each is the own element of at most one segment of all packets.
pub record IsBalancedWith (guests : List Guest) (pool : Pool) : Type 0 where
  pub placed : (i : ℕ) → bag pool.shared.common i + sum_by (λ (m : Member). bag m.cache i) pool.members
      + min 1 (held_with guests pool.members pool.shared.desks i)
      ≡ cond (nat_lt i pool.limits.population) 1 0
  pub own : (i : ℕ) → own_of pool.members pool.shared.desks i ≤ 1

-- the entries of held elements are of these elements, in their order
elems-entries : (guests : List Guest) (members : List Member) (desks : List (Option (List Seg))) (xs : List ℕ) →
    map (λ (held : Held). held.elem) (map (entry_with guests members desks) xs) ≡ xs
elems-entries guests members desks [] = refl
elems-entries guests members desks (x ∷ xs) =
    ap (λ (ys : List ℕ). x ∷ ys) (elems-entries guests members desks xs)

-- a held element is listed once among the held, and no other is
elements-bag : (guests : List Guest) (pool : Pool) → IsBalancedWith guests pool → (i : ℕ) →
    bag (elements_with guests pool) i ≡ min 1 (held_with guests pool.members pool.shared.desks i)
elements-bag guests pool b i =
    let p = λ (i : ℕ). nat_lt 0 (held_with guests pool.members pool.shared.desks i) in
    let held = held_with guests pool.members pool.shared.desks i in
    elim (cases_Bool (nat_lt 0 held)) [
      | inl e ↦
          held_once (bag (elements_with guests pool) i) held i pool.limits.population _ (ltb-true 0 held e)
          (bag-filter_yes p (range_with_len 0 pool.limits.population) i e ∙ range-bag pool.limits.population i)
          (b.placed i)
      | inr e ↦ omega (
        arith,
        bag-filter_no p (range_with_len 0 pool.limits.population) i e,
        ltb-false 0 held e,
      )
    ]

-- an element of a pool is in the common list, in a cache or held
listed_once : (guests : List Guest) (pool : Pool) → IsBalancedWith guests pool → (i : ℕ) →
    times_listed (statement_with false guests pool) i ≡ cond (nat_lt i pool.limits.population) 1 0
listed_once guests pool b i =
    rw elems-entries (omega (
      arith,
      elements-bag guests pool b i,
      b.placed i,
      sum_by-map (λ (cache : List ℕ). bag cache i) (λ (m : Member). m.cache) pool.members,
    ))

-- what is available and what is in use are the population
whole_with : (guests : List Guest) (pool : Pool) → IsBalancedWith guests pool →
    length pool.shared.common + sum_by (λ member. length member.cache) pool.members
    + length (elements_with guests pool) ≡ pool.limits.population
whole_with guests pool b =
    let caches = flat_map (λ (m : Member). m.cache) pool.members in
    let held = elements_with guests pool in
    let n = length-each pool.limits.population (pool.shared.common ++ (caches ++ held)) (λ i. omega (
      arith,
      bag-append pool.shared.common (caches ++ held) i,
      bag-append caches held i,
      bag-flat_map (λ (m : Member). m.cache) pool.members i,
      elements-bag guests pool b i,
      b.placed i,
    )) in
    omega (
      arith,
      n,
      length-append pool.shared.common (caches ++ held),
      length-append caches held,
      length-flat_map (λ (m : Member). m.cache) pool.members,
    )

-- where each element is in one place, the statement lists it once
pub lists_each_once_with : (guests : List Guest) (pool : Pool) → IsBalancedWith guests pool →
    AreInOrder 1 pool.members → AreOfWorkers (length pool.members) guests →
    ListsEachOnceWith guests (statement_with false guests pool)
lists_each_once_with guests pool b numbers all =
    let members = pool.members in
    let desks = pool.shared.desks in
    let elements = elements_with guests pool in
    let entry = entry_with guests members desks in
    let test = λ (i : ℕ). nat_lt 0 (held_with guests members desks i) in
    let statement = statement_with false guests pool in
    record {
      once =
          λ i l. listed_once guests pool b i
          ∙ cond-true (nat_lt i pool.limits.population) 1 0 (lt-ltb i pool.limits.population l);
      none_else =
          λ i l. listed_once guests pool b i
          ∙ cond-false (nat_lt i pool.limits.population) 1 0 (le-ltb i pool.limits.population l);
      whole = whole_with guests pool b;
      available = omega (arith, sum_by-map (λ (cache : List ℕ). length cache) (λ (m : Member). m.cache) members);
      in_use = sym (length-map elements entry);
      ascending =
          rw elems-entries (IsStrictlyIncreasing-filter test
          (range_with_len 0 pool.limits.population) (range-rises pool.limits.population));
      held = All-map (λ (held : Held). 1 ≤ held.count) entry elements
          (λ k d h. ltb-true 0 (held_with guests members desks (get_or elements k d))
          (filter_passes test (range_with_len 0 pool.limits.population) k d h));
      holders = All-map (λ (held : Held). length held.holders ≡ held.count) entry elements
          (λ k d h. length-holders_with guests members desks (get_or elements k d) numbers all);
      in_order = All-map (λ (held : Held). AllPairs IsNotAfter held.holders) entry elements
          (λ k d h. holders_with-order guests members desks (get_or elements k d) numbers);
      counts =
          All-map (λ (held : Held). held.count ≡ packet_holds statement held.elem + guest_holds guests held.elem)
          entry elements
          (λ k d h.
          omega (
            arith,
            packets-holds members (get_or elements k d),
            desks_from-holds 0 desks (get_or elements k d),
          ));
      by_worker =
          All-map (λ (held : Held). (w : ℕ) → count_by (is_worker w) held.holders
          ≡ worker_holds statement w held.elem + guests_of guests w held.elem) entry elements
          (λ k d h w.
          holders_with-worker guests members desks (get_or elements k d) w numbers all
          ∙ ap (λ (n : ℕ). n + guests_of guests w (get_or elements k d))
          (sym (packets-worker members (get_or elements k d) w)));
      by_desk =
          All-map (λ (held : Held). (e : ℕ) →
          count_by (is_desk e) held.holders ≡ desk_holds statement e held.elem) entry elements
          (λ k d h e. holders_with-desk guests members desks (get_or elements k d) e);
      unheld =
          λ i h. let none =
          rw elems-entries at h in omega (
            arith,
            none,
            elements-bag guests pool b i,
            packets-holds members i,
            desks_from-holds 0 desks i,
            b.placed i,
          );
      own_once = λ i. omega (arith, packets-own members i, desks_from-own 0 desks i, b.own i);
    }
