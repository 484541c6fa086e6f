-- Without guests, and with bases of its own, a pool is as it is alone: what is proved of pools with
-- guests is so of each pool.
use Rattle.std.proofs.Common.{ℕ, ◌≡◌, ◌+◌, ◌≤◌, inl, inr, nat_lt, Bool, false, List, [], ◌∷◌, ◌++◌, length, map, filter, replicate, Option, refl, ap, subst, ◌∙◌, arith}
use Rattle.std.specs.Prelude.{count_by}
use Rattle.std.specs.List.{range_with_len}
use Rattle.std.proofs.lemmas.Bool.{cases_Bool}
use Rattle.std.proofs.lemmas.List.Elements.{All-nil, All-weaker}
use Rattle.commons.specs.Bounds.{IsPool}
use Rattle.commons.specs.declared.limits.Limits.{Limits}
use Rattle.commons.specs.declared.packet.Seg.{Seg}
use Rattle.commons.specs.Packets.{held_in}
use Rattle.mbuf.specs.Members.{Member}
use Rattle.mbuf.specs.declared.acts.Act.{Act}
use Rattle.pool_statement.specs.declared.guest.Guest.{Guest}
use Rattle.pool_statement.specs.declared.statement.Held.{Held}
use Rattle.pool_statement.specs.declared.statement.Holder.{Holder}
use Rattle.pool_statement.specs.declared.statement.Holder.TheVariants.{Worker}
use Rattle.pool_statement.specs.declared.statement.Statement.{Statement}
use Rattle.pool_model.specs.Guests.{ListsEachOnceWith, elements_with, entry_with, guest_holds, guests_of, held_with, holders_with, statement_with, workers_with}
use Rattle.pool_model.specs.PacketModel.{after_acts}
use Rattle.pool_model.specs.Pool.{Pool, held_of, new_pool}
use Rattle.pool_model.specs.Statements.{ListsEachOnce, desks_of, held_elements, held_entry, is_worker, packet_holds, statement_of, worker_holds, workers_of}
use Rattle.pool_model.proofs.Balance.{IsBalanced, after_acts-balanced, new_pool-balanced}
use Rattle.pool_model.proofs.GuestsListed.{IsBalancedWith, lists_each_once_with}
use Rattle.pool_model.proofs.Numbered.{AreInOrder, acts-numbered, numbered_in_order}

-- what two functions that are alike make of a list is the same
map_alike : {X Y : Type 0} (f g : X → Y) (xs : List X) → ((x : X) → f x ≡ g x) → map f xs ≡ map g xs
map_alike f g [] same = refl
map_alike f g (x ∷ xs) same =
    ap (λ y. y ∷ map f xs) (same x) ∙ ap (λ ys. g x ∷ ys) (map_alike f g xs same)

-- what passes two tests that are alike is the same
filter_alike : (p q : ℕ → Bool) (xs : List ℕ) → ((i : ℕ) → p i ≡ q i) → filter p xs ≡ filter q xs
filter_alike p q [] same = refl
filter_alike p q (x ∷ xs) same = elim (cases_Bool (q x)) [
  | inl e ↦ rw (same x, e) (ap (λ (ys : List ℕ). x ∷ ys) (filter_alike p q xs same))
  | inr e ↦ rw (same x, e) (filter_alike p q xs same)
]

-- without guests an element is held by packets alone
pub held_alone : (members : List Member) (desks : List (Option (List Seg))) (i : ℕ) →
    held_with [] members desks i ≡ held_of members desks i
held_alone members desks i = omega arith

-- without guests an element's workers are those whose packets hold it
workers_alone : (members : List Member) (i : ℕ) → workers_with [] members i ≡ workers_of members i
workers_alone [] i = refl
workers_alone (m ∷ members) i =
    let n : held_in m.table i + guests_of [] m.number i ≡ held_in m.table i = omega arith in
    ap (λ (k : ℕ). replicate k (Worker m.number) ++ workers_with [] members i) n
    ∙ ap (λ (hs : List Holder). replicate (held_in m.table i) (Worker m.number) ++ hs) (workers_alone members i)

-- without guests the entry of a held element is the one of a pool alone
entry_alone : (members : List Member) (desks : List (Option (List Seg))) (i : ℕ) →
    entry_with [] members desks i ≡ held_entry members desks i
entry_alone members desks i =
    ap (λ (n : ℕ). let e : Held = record { elem = i; count = n; holders = holders_with [] members desks i } in e)
    (held_alone members desks i)
    ∙ ap (λ (hs : List Holder). let e : Held =
    record { elem = i; count = held_of members desks i; holders = hs ++ desks_of 0 desks i } in e)
    (workers_alone members i)

-- without guests the elements held are those that packets hold
elements_alone : (pool : Pool) → elements_with [] pool ≡ held_elements pool
elements_alone pool =
    filter_alike (λ i. nat_lt 0 (held_with [] pool.members pool.shared.desks i))
    (λ i. nat_lt 0 (held_of pool.members pool.shared.desks i)) (range_with_len 0 pool.limits.population)
    (λ i. ap (nat_lt 0) (held_alone pool.members pool.shared.desks i))

-- without guests, and with bases of its own, a pool's statement is that of a pool alone
pub statement_alone : (pool : Pool) → statement_with false [] pool ≡ statement_of pool
statement_alone pool =
    let members = pool.members in
    let desks = pool.shared.desks in
    ap (λ (es : List ℕ). let s : Statement = record (statement_of pool) {
      in_use = length es;
      held = map (entry_with [] members desks) es;
    } in s) (elements_alone pool)
    ∙ ap (λ (hs : List Held). let s : Statement = record (statement_of pool) { held = hs } in s)
    (map_alike (entry_with [] members desks) (held_entry members desks) (held_elements pool) (entry_alone members desks))

-- ---- and says the same

-- a statement that lists each element of a pool alone lists it where there are no guests
pub alone_with : (s : Statement) → ListsEachOnce s → ListsEachOnceWith [] s
alone_with s h = record {
  once = h.once;
  none_else = h.none_else;
  whole = h.whole;
  available = h.available;
  in_use = h.in_use;
  ascending = h.ascending;
  held = h.held;
  holders = h.holders;
  in_order = h.in_order;
  counts =
      All-weaker (λ (held : Held). held.count ≡ packet_holds s held.elem)
      (λ held. held.count ≡ packet_holds s held.elem + guest_holds [] held.elem)
      (λ held is. omega (arith, is)) s.held h.counts;
  by_worker =
      All-weaker (λ (held : Held). (w : ℕ) → count_by (is_worker w) held.holders ≡ worker_holds s w held.elem)
      (λ held. (w : ℕ) → count_by (is_worker w) held.holders ≡ worker_holds s w held.elem + guests_of [] w held.elem)
      (λ held is w. omega (arith, is w)) s.held h.by_worker;
  by_desk = h.by_desk;
  unheld = λ i none. omega (arith, h.unheld i none);
  own_once = h.own_once;
}

-- a statement that lists each element without guests lists each element of a pool alone
pub with_alone : (s : Statement) → ListsEachOnceWith [] s → ListsEachOnce s
with_alone s h = record {
  once = h.once;
  none_else = h.none_else;
  whole = h.whole;
  available = h.available;
  in_use = h.in_use;
  ascending = h.ascending;
  held = h.held;
  holders = h.holders;
  in_order = h.in_order;
  counts =
      All-weaker (λ (held : Held). held.count ≡ packet_holds s held.elem + guest_holds [] held.elem)
      (λ held. held.count ≡ packet_holds s held.elem)
      (λ held is. omega (arith, is)) s.held h.counts;
  by_worker =
      All-weaker
      (λ (held : Held). (w : ℕ) → count_by (is_worker w) held.holders ≡ worker_holds s w held.elem + guests_of [] w held.elem)
      (λ held. (w : ℕ) → count_by (is_worker w) held.holders ≡ worker_holds s w held.elem)
      (λ held is w. omega (arith, is w)) s.held h.by_worker;
  by_desk = h.by_desk;
  unheld = λ i none. omega (arith, h.unheld i none);
  own_once = h.own_once;
}

-- ---- each element is listed once

-- a pool that is balanced is so without guests
balanced_alone : (pool : Pool) → IsBalanced pool → IsBalancedWith [] pool
balanced_alone pool b = record { placed = λ i. omega (arith, b.placed i); own = b.own }

-- where each element is in one place, the statement lists it once
lists_each_once : (pool : Pool) → IsBalanced pool → AreInOrder 1 pool.members → ListsEachOnce (statement_of pool)
lists_each_once pool b numbers =
    with_alone (statement_of pool) (subst (ListsEachOnceWith []) (statement_alone pool)
    (lists_each_once_with [] pool (balanced_alone pool b) numbers
    (All-nil (λ (guest : Guest). (1 ≤ guest.worker) × (guest.worker ≤ length pool.members)))))

-- after any acts of its workers a new pool's statement lists each element once
pub acts_list_each_once : (l : Limits) → IsPool l → (acts : List (ℕ × Act)) →
    ListsEachOnce (statement_of (after_acts acts (new_pool l)))
acts_list_each_once l p acts =
    let pool = after_acts acts (new_pool l) in
    lists_each_once pool (after_acts-balanced acts (new_pool l) (new_pool-balanced l))
    (numbered_in_order 1 pool.members (acts-numbered l acts).numbers)
