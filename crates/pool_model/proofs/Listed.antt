-- What the parts of a pool's statement list: how often an element is held, and by whom.
use Rattle.std.proofs.Common.{ℕ, ◌≡◌, ◌+◌, ◌<◌, inl, inr, nat_lt, Bool, true, false, cond, List, [], ◌∷◌, length, length-append, map, replicate, filter, Option, Some, None, refl, sym, ◌∙◌, ap, arith}
use Rattle.std.specs.Prelude.{min, sum_by, count_by, flat_map, ◌==◌, ◌*◌}
use Rattle.std.specs.List.{range_with_len}
use Rattle.std.specs.List.Sorted.{IsStrictlyIncreasing}
use Rattle.std.proofs.lemmas.List.{length-replicate}
use Rattle.std.proofs.lemmas.List.FromFn.{length-range_with_len, get_or-range_with_len}
use Rattle.std.proofs.lemmas.List.Folds.{sum_by-replicate}
use Rattle.std.proofs.lemmas.List.Sums.{sum_by-cons, sum_by-append}
use Rattle.std.proofs.lemmas.Bool.{cases_Bool, lt-ltb, le-ltb, cond-true, cond-false, true≢false}
use Rattle.commons.specs.Bag.{bag}
use Rattle.commons.specs.declared.packet.Seg.{Seg}
use Rattle.commons.proofs.Bags.{bag-nil, bag-cons, bag-append, length-is}
use Rattle.commons.proofs.Places.{one-apart}
use Rattle.pool_statement.specs.declared.statement.DeskPacket.{DeskPacket}
use Rattle.pool_statement.specs.declared.statement.PlacedPacket.{PlacedPacket}
use Rattle.pool_statement.specs.declared.statement.Holder.{Holder}
use Rattle.pool_statement.specs.declared.statement.Holder.TheVariants.{Worker, Desk}
use Rattle.commons.specs.Packets.{holds_of_packet, own_of_packet, holds_in_slot, own_in_slot, held_in, own_in}
use Rattle.mbuf.specs.Members.{Member}
use Rattle.pool_model.specs.Pool.{held_by, own_by}
use Rattle.pool_model.specs.Statements.{packets_from, packets_of, desks_from, desks_of, is_worker, is_desk}
use Rattle.pool_model.proofs.Balance.{at_most_one}

-- a sum over what is made of each element is a sum over the elements
pub sum_by-map : {X Y : Type 0} (f : Y → ℕ) (g : X → Y) (xs : List X) → sum_by f (map g xs) ≡ sum_by (λ x. f (g x)) xs
sum_by-map f g [] = refl
sum_by-map f g (x ∷ xs) =
    omega
    (arith, sum_by-cons f (g x) (map g xs), sum_by-cons (λ x. f (g x)) x xs, sum_by-map f g xs)

-- an element that passes is kept as often as it is there
pub bag-filter_yes : (p : ℕ → Bool) (xs : List ℕ) (i : ℕ) → p i ≡ true → bag (filter p xs) i ≡ bag xs i
bag-filter_yes p [] i h = refl
bag-filter_yes p (x ∷ xs) i h = elim (cases_Bool (p x)) [
  | inl e ↦ rw e (omega (arith, bag-cons x (filter p xs) i, bag-cons x xs i, bag-filter_yes p xs i h))
  | inr e ↦
      rw e (omega (
        arith,
        bag-cons x xs i,
        bag-filter_yes p xs i h,
        one-apart x i (λ q. true≢false (sym h ∙ ap p q ∙ e)),
      ))
]

-- an element that does not pass is not kept
pub bag-filter_no : (p : ℕ → Bool) (xs : List ℕ) (i : ℕ) → p i ≡ false → bag (filter p xs) i ≡ 0
bag-filter_no p [] i h = bag-nil i
bag-filter_no p (x ∷ xs) i h = elim (cases_Bool (p x)) [
  | inl e ↦
      rw e (omega (
        arith,
        bag-cons x (filter p xs) i,
        bag-filter_no p xs i h,
        one-apart x i (λ q. true≢false (sym e ∙ ap p (sym q) ∙ h)),
      ))
  | inr e ↦ rw e (bag-filter_no p xs i h)
]

-- where an element is placed once, one that is held is among the population's as often as it is
-- held at all
pub held_once : (b h i n others : ℕ) → 0 < h → b ≡ cond (nat_lt i n) 1 0 →
    others + min 1 h ≡ cond (nat_lt i n) 1 0 → b ≡ min 1 h
held_once b h i n others p q r = omega (arith, at_most_one i n)

-- a list of each number below n once, and of no other, has the length n
pub length-each : (n : ℕ) (xs : List ℕ) → ((i : ℕ) → bag xs i ≡ cond (nat_lt i n) 1 0) → length xs ≡ n
length-each n xs h =
    length-is n xs (λ i l. h i ∙ cond-true (nat_lt i n) 1 0 (lt-ltb i n l))
    (λ i l. h i ∙ cond-false (nat_lt i n) 1 0 (le-ltb i n l))

-- in lists end to end an element is as often as in all of them
pub bag-flat_map : {X : Type 0} (f : X → List ℕ) (xs : List X) (i : ℕ) →
    bag (flat_map f xs) i ≡ sum_by (λ x. bag (f x) i) xs
bag-flat_map f [] i = bag-nil i
bag-flat_map f (x ∷ xs) i =
    omega (
      arith,
      bag-append (f x) (flat_map f xs) i,
      bag-flat_map f xs i,
      sum_by-cons (λ x. bag (f x) i) x xs,
    )

-- an element's holders among the desks are as many as the holds that packets on desks have
pub length-desks : (desk : ℕ) (desks : List (Option (List Seg))) (i : ℕ) → length (desks_of desk desks i) ≡ held_in desks i
length-desks desk [] i = refl
length-desks desk (slot ∷ desks) i =
    let copies : List Holder = replicate (bag (holds_in_slot slot) i) (Desk desk) in
    omega (
      arith,
      length-append copies (desks_of (desk + 1) desks i),
      length-replicate (bag (holds_in_slot slot) i) (Desk desk),
      length-desks (desk + 1) desks i,
      sum_by-cons (λ (s : Option (List Seg)). bag (holds_in_slot s) i) slot desks,
    )

-- ---- sums over the packets that are listed

-- a number of a packet, summed over those that are listed, is summed over the places where they stand
module _ (of_packet : List Seg → ℕ) (of_slot : Option (List Seg) → ℕ) (empty : of_slot None ≡ 0)
    (full : (segs : List Seg) → of_slot (Some segs) ≡ of_packet segs) where
  -- over the packets of one worker's table
  packets_from-sum : (worker slot : ℕ) (table : List (Option (List Seg))) →
      sum_by (λ (placed : PlacedPacket). of_packet placed.segs) (packets_from worker slot table) ≡ sum_by of_slot table
  packets_from-sum worker slot [] = refl
  packets_from-sum worker slot (None ∷ table) =
      omega (arith, packets_from-sum worker (slot + 1) table, sum_by-cons of_slot None table, empty)
  packets_from-sum worker slot (Some segs ∷ table) =
      let packet : PlacedPacket = record { worker = worker; slot = slot; segs = segs } in
      omega (
        arith,
        packets_from-sum worker (slot + 1) table,
        sum_by-cons of_slot (Some segs) table,
        full segs,
        sum_by-cons (λ (placed : PlacedPacket). of_packet placed.segs) packet (packets_from worker (slot + 1) table),
      )

  -- over the packets of all members' tables
  packets-sum : (members : List Member) →
      sum_by (λ (placed : PlacedPacket). of_packet placed.segs) (flat_map packets_of members)
      ≡ sum_by (λ (m : Member). sum_by of_slot m.table) members
  packets-sum [] = refl
  packets-sum (m ∷ members) =
      omega (
        arith,
        sum_by-append (λ (placed : PlacedPacket). of_packet placed.segs) (packets_of m) (flat_map packets_of members),
        packets_from-sum m.number 0 m.table,
        packets-sum members,
        sum_by-cons (λ (m : Member). sum_by of_slot m.table) m members,
      )

  -- over the packets on desks
  desks_from-sum : (desk : ℕ) (desks : List (Option (List Seg))) →
      sum_by (λ (packet : DeskPacket). of_packet packet.segs) (desks_from desk desks) ≡ sum_by of_slot desks
  desks_from-sum desk [] = refl
  desks_from-sum desk (None ∷ desks) =
      omega (arith, desks_from-sum (desk + 1) desks, sum_by-cons of_slot None desks, empty)
  desks_from-sum desk (Some segs ∷ desks) =
      let packet : DeskPacket = record { desk = desk; segs = segs } in
      omega (
        arith,
        desks_from-sum (desk + 1) desks,
        sum_by-cons of_slot (Some segs) desks,
        full segs,
        sum_by-cons (λ (packet : DeskPacket). of_packet packet.segs) packet (desks_from (desk + 1) desks),
      )

-- the holds of all members' tables are those of the packets that are listed of them
pub packets-holds : (members : List Member) (i : ℕ) →
    sum_by (λ (placed : PlacedPacket). bag (holds_of_packet placed.segs) i)
    (flat_map packets_of members) ≡ held_by members i
packets-holds members i =
    packets-sum (λ segs. bag (holds_of_packet segs) i) (λ slot. bag (holds_in_slot slot) i) (bag-nil i)
    (λ segs. refl) members

-- the holds of the desks are those of the packets that are listed of them
pub desks_from-holds : (desk : ℕ) (desks : List (Option (List Seg))) (i : ℕ) →
    sum_by (λ (packet : DeskPacket). bag (holds_of_packet packet.segs) i) (desks_from desk desks)
    ≡ held_in desks i
desks_from-holds desk desks i =
    desks_from-sum (λ segs. bag (holds_of_packet segs) i) (λ slot. bag (holds_in_slot slot) i) (bag-nil i)
    (λ segs. refl) desk desks

-- the listed packets of all members have the own elements that the tables have
pub packets-own : (members : List Member) (i : ℕ) →
    sum_by (λ (placed : PlacedPacket). bag (own_of_packet placed.segs) i)
    (flat_map packets_of members) ≡ own_by members i
packets-own members i =
    packets-sum (λ segs. bag (own_of_packet segs) i) (λ slot. bag (own_in_slot slot) i) (bag-nil i)
    (λ segs. refl) members

-- the listed packets on desks have the own elements that the desks have
pub desks_from-own : (desk : ℕ) (desks : List (Option (List Seg))) (i : ℕ) →
    sum_by (λ (packet : DeskPacket). bag (own_of_packet packet.segs) i) (desks_from desk desks)
    ≡ own_in desks i
desks_from-own desk desks i =
    desks_from-sum (λ segs. bag (own_of_packet segs) i) (λ slot. bag (own_in_slot slot) i) (bag-nil i)
    (λ segs. refl) desk desks

-- ---- holders, counted

-- a condition that is counted so often is that number under the condition
times_flag : (b : Bool) (n : ℕ) → ◌≡◌ {A = ℕ} (n * cond b 1 0) (cond b n 0)
times_flag true n = omega arith
times_flag false n = omega arith

-- two numbers that count under the same condition count together
pub sum_flag : (b : Bool) (x y : ℕ) → ◌≡◌ {A = ℕ} (cond b x 0 + cond b y 0) (cond b (x + y) 0)
sum_flag true x y = refl
sum_flag false x y = refl

-- nothing counts as nothing, under a condition or not
pub no_flag : (b : Bool) → ◌≡◌ {A = ℕ} (cond b 0 0) 0
no_flag true = refl
no_flag false = refl

-- copies of a worker count as often as there are of them where it is that worker
pub copies-worker : (n v w : ℕ) → ◌≡◌ {A = ℕ} (count_by (is_worker w) (replicate n (Worker v))) (cond (v == w) n 0)
copies-worker n v w = sum_by-replicate (λ (h : Holder). cond (is_worker w h) 1 0) n (Worker v) ∙ times_flag (v == w) n

-- among copies of a worker there is no desk
pub copies-desk : (n v d : ℕ) → ◌≡◌ {A = ℕ} (count_by (is_desk d) (replicate n (Worker v))) 0
copies-desk n v d = sum_by-replicate (λ (h : Holder). cond (is_desk d h) 1 0) n (Worker v) ∙ omega arith

-- copies of a desk count as often as there are of them where it is that desk
desks-desk : (n v d : ℕ) → ◌≡◌ {A = ℕ} (count_by (is_desk d) (replicate n (Desk v))) (cond (v == d) n 0)
desks-desk n v d = sum_by-replicate (λ (h : Holder). cond (is_desk d h) 1 0) n (Desk v) ∙ times_flag (v == d) n

-- among copies of a desk there is no worker
desks-worker : (n v w : ℕ) → ◌≡◌ {A = ℕ} (count_by (is_worker w) (replicate n (Desk v))) 0
desks-worker n v w = sum_by-replicate (λ (h : Holder). cond (is_worker w h) 1 0) n (Desk v) ∙ omega arith

-- among the desks that hold an element there is no worker
pub no_worker : (desk : ℕ) (desks : List (Option (List Seg))) (i w : ℕ) → count_by (is_worker w) (desks_of desk desks i) ≡ 0
no_worker desk [] i w = refl
no_worker desk (slot ∷ desks) i w =
    let copies : List Holder = replicate (bag (holds_in_slot slot) i) (Desk desk) in
    omega (
      arith,
      sum_by-append (λ (h : Holder). cond (is_worker w h) 1 0) copies (desks_of (desk + 1) desks i),
      desks-worker (bag (holds_in_slot slot) i) desk w,
      no_worker (desk + 1) desks i w,
    )

-- a desk stands there as often as its packet holds the element
pub desks_of-desk : (desk : ℕ) (desks : List (Option (List Seg))) (i d : ℕ) →
    count_by (is_desk d) (desks_of desk desks i)
    ≡ sum_by
    (λ (packet : DeskPacket). cond (packet.desk == d) (bag (holds_of_packet packet.segs) i) 0)
    (desks_from desk desks)
desks_of-desk desk [] i d = refl
desks_of-desk desk (None ∷ desks) i d =
    let copies : List Holder = replicate (bag [] i) (Desk desk) in
    omega (
      arith,
      sum_by-append (λ (h : Holder). cond (is_desk d h) 1 0) copies (desks_of (desk + 1) desks i),
      desks-desk (bag [] i) desk d,
      ap (λ (n : ℕ). cond (desk == d) n 0) (bag-nil i) ∙ no_flag (desk == d),
      desks_of-desk (desk + 1) desks i d,
    )
desks_of-desk desk (Some segs ∷ desks) i d =
    let copies : List Holder = replicate (bag (holds_of_packet segs) i) (Desk desk) in
    let packet : DeskPacket = record { desk = desk; segs = segs } in
    omega (
      arith,
      sum_by-append (λ (h : Holder). cond (is_desk d h) 1 0) copies (desks_of (desk + 1) desks i),
      desks-desk (bag (holds_of_packet segs) i) desk d,
      desks_of-desk (desk + 1) desks i d,
      sum_by-cons
          (λ (packet : DeskPacket). cond (packet.desk == d) (bag (holds_of_packet packet.segs) i) 0)
          packet (desks_from (desk + 1) desks),
    )

-- what a worker's packets hold is what its table does
packets_from-worker : (worker slot : ℕ) (table : List (Option (List Seg))) (i w : ℕ) →
    sum_by (λ (placed : PlacedPacket). cond (placed.worker == w)
    (bag (holds_of_packet placed.segs) i) 0) (packets_from worker slot table)
    ≡ cond (worker == w) (held_in table i) 0
packets_from-worker worker slot [] i w = sym (no_flag (worker == w))
packets_from-worker worker slot (None ∷ table) i w =
    let same : held_in (None ∷ table) i ≡ held_in table i =
    omega (
      arith,
      sum_by-cons (λ (s : Option (List Seg)). bag (holds_in_slot s) i) None table,
      bag-nil i,
    ) in
    packets_from-worker worker (slot + 1) table i w ∙ ap (λ (n : ℕ). cond (worker == w) n 0) (sym same)
packets_from-worker worker slot (Some segs ∷ table) i w =
    let packet : PlacedPacket = record { worker = worker; slot = slot; segs = segs } in
    let same : held_in (Some segs ∷ table) i ≡ bag (holds_of_packet segs) i + held_in table i =
    sum_by-cons (λ (s : Option (List Seg)). bag (holds_in_slot s) i) (Some segs) table in
    sum_by-cons (λ (placed : PlacedPacket). cond (placed.worker == w)
    (bag (holds_of_packet placed.segs) i) 0) packet (packets_from worker (slot + 1) table)
    ∙ ap (λ (n : ℕ). cond (worker == w) (bag (holds_of_packet segs) i) 0 + n)
    (packets_from-worker worker (slot + 1) table i w)
    ∙ sum_flag (worker == w) (bag (holds_of_packet segs) i) (held_in table i)
    ∙ ap (λ (n : ℕ). cond (worker == w) n 0) (sym same)

-- the listed packets of a worker hold an element as often as its table does
pub packets-worker : (members : List Member) (i w : ℕ) →
    sum_by (λ (placed : PlacedPacket). cond (placed.worker == w)
    (bag (holds_of_packet placed.segs) i) 0) (flat_map packets_of members)
    ≡ sum_by (λ (m : Member). cond (m.number == w) (held_in m.table i) 0) members
packets-worker [] i w = refl
packets-worker (m ∷ members) i w =
    omega (
      arith,
      sum_by-append (λ (placed : PlacedPacket). cond (placed.worker == w)
          (bag (holds_of_packet placed.segs) i) 0) (packets_of m) (flat_map packets_of members),
      packets_from-worker m.number 0 m.table i w,
      packets-worker members i w,
      sum_by-cons (λ (m : Member). cond (m.number == w) (held_in m.table i) 0) m members,
    )

-- numbers in a row rise
pub range-rises : (n : ℕ) → IsStrictlyIncreasing (range_with_len 0 n)
range-rises n k h =
    let l : k + 1 < n = omega (arith, length-range_with_len 0 n) in
    omega (arith, get_or-range_with_len 0 n k 0 (omega arith), get_or-range_with_len 0 n (k + 1) 0 l)
