-- Who holds an element, where elements are held for guests too.
use Rattle.std.proofs.Common.{ℕ, ◌≡◌, ◌+◌, ◌<◌, ◌≤◌, ◌⊎◌, inl, inr, cond, List, [], ◌∷◌, length, length-append, replicate, Option, refl, sym, ◌∙◌, arith}
use Rattle.std.specs.Prelude.{All, AllPairs, count_by, sum_by, ◌==◌}
use Rattle.std.proofs.lemmas.Bool.{cases_eq, cases_lt}
use Rattle.std.proofs.lemmas.Bool.Decides.{nat_tests}
use Rattle.std.proofs.lemmas.List.{length-replicate}
use Rattle.std.proofs.lemmas.List.Elements.{All-head, All-tail, All-nil, All-append, All-replicate, All-weaker}
use Rattle.std.proofs.lemmas.List.Sums.{sum_by-cons, sum_by-append}
use Rattle.commons.specs.Bag.{one}
use Rattle.commons.specs.declared.packet.Seg.{Seg}
use Rattle.commons.specs.Packets.{held_in}
use Rattle.mbuf.specs.Members.{Member}
use Rattle.pool_statement.specs.declared.guest.Guest.{Guest}
use Rattle.pool_statement.specs.declared.statement.DeskPacket.{DeskPacket}
use Rattle.pool_statement.specs.declared.statement.Holder.{Holder}
use Rattle.pool_statement.specs.declared.statement.Holder.TheVariants.{Worker}
use Rattle.commons.specs.Packets.{holds_of_packet}
use Rattle.commons.specs.Bag.{bag}
use Rattle.pool_model.specs.Guests.{AreOfWorkers, guest_holds, guests_of, held_with, holders_with, workers_with}
use Rattle.pool_model.specs.Pool.{held_by}
use Rattle.pool_model.specs.Statements.{IsNotAfter, desks_from, desks_of, is_desk, is_worker}
use Rattle.pool_model.proofs.HoldersOrder.{IsDeskFrom, IsWorkerFrom, copies-order, desks_behind, desks_of-from, desks_of-order, worker_before, worker_from}
use Rattle.pool_model.proofs.Listed.{copies-desk, copies-worker, desks_of-desk, length-desks, no_worker, sum_flag}
use Rattle.pool_model.proofs.Numbered.{AreInOrder}
use Rattle.pool_model.proofs.Pairs.{AllPairs-append, AllPairs-nil}

-- ---- what one worker among others gives

-- what is counted where two numbers are equal counts nothing where one is below the other
flag-apart : (a b x : ℕ) → a < b ⊎ b < a → ◌≡◌ {A = ℕ} (cond (a == b) x 0) 0
flag-apart a b x (inl h) = grind (arith, nat_tests)
flag-apart a b x (inr h) = grind (arith, nat_tests)

flag-same : (a x : ℕ) → ◌≡◌ {A = ℕ} (cond (a == a) x 0) x
flag-same a x = grind (arith, nat_tests)

-- in a row of workers with higher numbers none has this one
pick_none : (f : ℕ → ℕ) (w number : ℕ) (members : List Member) → AreInOrder number members → w < number →
    sum_by (λ (m : Member). cond (m.number == w) (f m.number) 0) members ≡ 0
pick_none f w number [] a l = refl
pick_none f w number (m ∷ members) a l = omega (
  arith,
  sum_by-cons (λ (m : Member). cond (m.number == w) (f m.number) 0) m members,
  flag-apart m.number w (f m.number) (inr (omega (arith, a.0))),
  pick_none f w (number + 1) members a.1 (omega arith),
)

-- in a row of workers that has this number exactly one has it
pick_one : (f : ℕ → ℕ) (w number : ℕ) (members : List Member) → AreInOrder number members → number ≤ w →
    w < number + length members → sum_by (λ (m : Member). cond (m.number == w) (f m.number) 0) members ≡ f w
pick_one f w number [] a low high = absurd (omega (arith, low, high))
pick_one f w number (m ∷ members) a low high = elim (cases_eq m.number w) [
  | inl same ↦
      let here : ◌≡◌ {A = ℕ} (cond (m.number == w) (f m.number) 0) (f w) = rw same (flag-same w (f w)) in
      omega (
        arith,
        sum_by-cons (λ (m : Member). cond (m.number == w) (f m.number) 0) m members,
        here,
        pick_none f w (number + 1) members a.1 (omega (arith, same, a.0)),
      )
  | inr apart ↦ omega (
    arith,
    sum_by-cons (λ (m : Member). cond (m.number == w) (f m.number) 0) m members,
    flag-apart m.number w (f m.number) (inl (omega (arith, apart, a.0, low))),
    pick_one f w (number + 1) members a.1 (omega (arith, apart, a.0, low)) (omega (arith, high)),
  )
]

-- in a row of workers with lower numbers none has this one
pick_past : (f : ℕ → ℕ) (w number : ℕ) (members : List Member) → AreInOrder number members →
    number + length members ≤ w → sum_by (λ (m : Member). cond (m.number == w) (f m.number) 0) members ≡ 0
pick_past f w number [] a l = refl
pick_past f w number (m ∷ members) a l = omega (
  arith,
  sum_by-cons (λ (m : Member). cond (m.number == w) (f m.number) 0) m members,
  flag-apart m.number w (f m.number) (inl (omega (arith, a.0, l))),
  pick_past f w (number + 1) members a.1 (omega (arith, l)),
)

-- ---- the guests of workers

-- a worker that isn't of the pool has none
guests_none : (workers : ℕ) (guests : List Guest) (w i : ℕ) → AreOfWorkers workers guests → w < 1 ⊎ workers < w →
    guests_of guests w i ≡ 0
guests_none workers [] w i all out = refl
guests_none workers (g ∷ guests) w i all out =
    let within = λ (g : Guest). (1 ≤ g.worker) × (g.worker ≤ workers) in
    let here = All-head within g guests all in
    let apart : w < g.worker ⊎ g.worker < w = elim out as (λ _. w < g.worker ⊎ g.worker < w)
    [ inl low ↦ inl (omega (arith, low, here.0)) | inr high ↦ inr (omega (arith, high, here.1)) ] in
    omega (
      arith,
      sum_by-cons (λ (g : Guest). cond (w == g.worker) (one g.elem i) 0) g guests,
      flag-apart w g.worker (one g.elem i) apart,
      guests_none workers guests w i (All-tail within g guests all) out,
    )

-- one guest more, summed over all workers
guest_more : (g : Guest) (guests : List Guest) (members : List Member) (i : ℕ) →
    sum_by (λ (m : Member). guests_of (g ∷ guests) m.number i) members
    ≡ sum_by (λ (m : Member). cond (m.number == g.worker) (one g.elem i) 0) members
    + sum_by (λ (m : Member). guests_of guests m.number i) members
guest_more g guests [] i = refl
guest_more g guests (m ∷ members) i = omega (
  arith,
  sum_by-cons (λ (m : Member). guests_of (g ∷ guests) m.number i) m members,
  sum_by-cons (λ (m : Member). cond (m.number == g.worker) (one g.elem i) 0) m members,
  sum_by-cons (λ (m : Member). guests_of guests m.number i) m members,
  sum_by-cons (λ (g : Guest). cond (m.number == g.worker) (one g.elem i) 0) g guests,
  guest_more g guests members i,
)

-- where there are no guests, no worker has any
none_summed : (members : List Member) (i : ℕ) → sum_by (λ (m : Member). guests_of [] m.number i) members ≡ 0
none_summed [] i = refl
none_summed (m ∷ members) i =
    omega (arith, sum_by-cons (λ (m : Member). guests_of [] m.number i) m members, none_summed members i)

-- the guests of all workers are all guests
guests_summed : (guests : List Guest) (members : List Member) (i : ℕ) → AreInOrder 1 members →
    AreOfWorkers (length members) guests →
    sum_by (λ (m : Member). guests_of guests m.number i) members ≡ guest_holds guests i
guests_summed [] members i a all = none_summed members i
guests_summed (g ∷ guests) members i a all =
    let within = λ (g : Guest). (1 ≤ g.worker) × (g.worker ≤ length members) in
    let here = All-head within g guests all in
    omega (
      arith,
      guest_more g guests members i,
      pick_one (λ _. one g.elem i) g.worker 1 members a here.0 (omega (arith, here.1)),
      guests_summed guests members i a (All-tail within g guests all),
      sum_by-cons (λ (g : Guest). one g.elem i) g guests,
    )

-- ---- the holders of an element

-- an element's workers are as many as their packets and their guests hold it
length-workers_with : (guests : List Guest) (members : List Member) (i : ℕ) →
    length (workers_with guests members i)
    ≡ sum_by (λ (m : Member). guests_of guests m.number i) members + held_by members i
length-workers_with guests [] i = refl
length-workers_with guests (m ∷ members) i =
    let n = held_in m.table i + guests_of guests m.number i in
    let copies : List Holder = replicate n (Worker m.number) in
    omega (
      arith,
      length-append copies (workers_with guests members i),
      length-replicate n (Worker m.number),
      length-workers_with guests members i,
      sum_by-cons (λ (m : Member). guests_of guests m.number i) m members,
      sum_by-cons (λ (m : Member). held_in m.table i) m members,
    )

-- an element's holders are as many as its holds, by packets and for guests
pub length-holders_with : (guests : List Guest) (members : List Member) (desks : List (Option (List Seg))) (i : ℕ) →
    AreInOrder 1 members → AreOfWorkers (length members) guests →
    length (holders_with guests members desks i) ≡ held_with guests members desks i
length-holders_with guests members desks i a all = omega (
  arith,
  length-append (workers_with guests members i) (desks_of 0 desks i),
  length-workers_with guests members i,
  guests_summed guests members i a all,
  length-desks 0 desks i,
)

-- a worker stands among the workers as often as its packets and its guests hold the element
workers_with-worker : (guests : List Guest) (members : List Member) (i w : ℕ) →
    count_by (is_worker w) (workers_with guests members i)
    ≡ sum_by (λ (m : Member). cond (m.number == w) (guests_of guests m.number i) 0) members
    + sum_by (λ (m : Member). cond (m.number == w) (held_in m.table i) 0) members
workers_with-worker guests [] i w = refl
workers_with-worker guests (m ∷ members) i w =
    let n = held_in m.table i + guests_of guests m.number i in
    let copies : List Holder = replicate n (Worker m.number) in
    omega (
      arith,
      sum_by-append (λ (h : Holder). cond (is_worker w h) 1 0) copies (workers_with guests members i),
      copies-worker n m.number w,
      sum_flag (m.number == w) (held_in m.table i) (guests_of guests m.number i),
      workers_with-worker guests members i w,
      sum_by-cons (λ (m : Member). cond (m.number == w) (guests_of guests m.number i) 0) m members,
      sum_by-cons (λ (m : Member). cond (m.number == w) (held_in m.table i) 0) m members,
    )

-- of all workers' guests those of one worker are its own
guests_picked : (guests : List Guest) (members : List Member) (i w : ℕ) → AreInOrder 1 members →
    AreOfWorkers (length members) guests →
    sum_by (λ (m : Member). cond (m.number == w) (guests_of guests m.number i) 0) members ≡ guests_of guests w i
guests_picked guests members i w a all =
    let f = λ (n : ℕ). guests_of guests n i in
    elim (cases_lt w 1) [
      | inl low ↦ pick_none f w 1 members a low ∙ sym (guests_none (length members) guests w i all (inl low))
      | inr one ↦ elim (cases_lt (length members) w) [
        | inl past ↦
            pick_past f w 1 members a (omega (arith, past))
            ∙ sym (guests_none (length members) guests w i all (inr past))
        | inr within ↦ pick_one f w 1 members a one (omega (arith, within))
      ]
    ]

-- among all holders a worker stands as often as its packets and its guests say
pub holders_with-worker : (guests : List Guest) (members : List Member) (desks : List (Option (List Seg))) (i w : ℕ) →
    AreInOrder 1 members → AreOfWorkers (length members) guests →
    count_by (is_worker w) (holders_with guests members desks i)
    ≡ sum_by (λ (m : Member). cond (m.number == w) (held_in m.table i) 0) members + guests_of guests w i
holders_with-worker guests members desks i w a all = omega (
  arith,
  sum_by-append (λ (h : Holder). cond (is_worker w h) 1 0) (workers_with guests members i) (desks_of 0 desks i),
  workers_with-worker guests members i w,
  guests_picked guests members i w a all,
  no_worker 0 desks i w,
)

-- among the workers that hold an element there is no desk
workers_with-desk : (guests : List Guest) (members : List Member) (i d : ℕ) →
    count_by (is_desk d) (workers_with guests members i) ≡ 0
workers_with-desk guests [] i d = refl
workers_with-desk guests (m ∷ members) i d =
    let n = held_in m.table i + guests_of guests m.number i in
    let copies : List Holder = replicate n (Worker m.number) in
    omega (
      arith,
      sum_by-append (λ (h : Holder). cond (is_desk d h) 1 0) copies (workers_with guests members i),
      copies-desk n m.number d,
      workers_with-desk guests members i d,
    )

-- a desk stands among the holders as often as its packet holds the element
pub holders_with-desk : (guests : List Guest) (members : List Member) (desks : List (Option (List Seg))) (i d : ℕ) →
    count_by (is_desk d) (holders_with guests members desks i)
    ≡ sum_by
    (λ (packet : DeskPacket). cond (packet.desk == d) (bag (holds_of_packet packet.segs) i) 0)
    (desks_from 0 desks)
holders_with-desk guests members desks i d = omega (
  arith,
  sum_by-append (λ (h : Holder). cond (is_desk d h) 1 0) (workers_with guests members i) (desks_of 0 desks i),
  workers_with-desk guests members i d,
  desks_of-desk 0 desks i d,
)

-- ---- their order

-- the workers that hold an element are numbered from the first of them on
workers_with-from : (guests : List Guest) (number : ℕ) (members : List Member) (i : ℕ) → AreInOrder number members →
    All (IsWorkerFrom number) (workers_with guests members i)
workers_with-from guests number [] i a = All-nil (IsWorkerFrom number)
workers_with-from guests number (m ∷ members) i a =
    let n = held_in m.table i + guests_of guests m.number i in
    All-append (IsWorkerFrom number) (replicate n (Worker m.number)) (workers_with guests members i)
    (All-replicate (IsWorkerFrom number) n (Worker m.number) (omega (arith, a.0)))
    (All-weaker (IsWorkerFrom (number + 1)) (IsWorkerFrom number) (worker_from number)
    (workers_with guests members i) (workers_with-from guests (number + 1) members i a.1))

-- the workers that hold an element ascend by their numbers
workers_with-order : (guests : List Guest) (number : ℕ) (members : List Member) (i : ℕ) → AreInOrder number members →
    AllPairs IsNotAfter (workers_with guests members i)
workers_with-order guests number [] i a = AllPairs-nil IsNotAfter
workers_with-order guests number (m ∷ members) i a =
    let n = held_in m.table i + guests_of guests m.number i in
    let copies : List Holder = replicate n (Worker m.number) in
    let later = workers_with guests members i in
    AllPairs-append IsNotAfter copies later (copies-order n (Worker m.number) (omega arith))
    (workers_with-order guests (number + 1) members i a.1)
    (All-replicate (λ holder. All (IsNotAfter holder) later) n (Worker m.number)
    (All-weaker (IsWorkerFrom (number + 1)) (IsNotAfter (Worker m.number))
    (worker_before m.number number a.0) later (workers_with-from guests (number + 1) members i a.1)))

-- an element's holders ascend: workers by their numbers, and then desks
pub holders_with-order : (guests : List Guest) (members : List Member) (desks : List (Option (List Seg))) (i : ℕ) →
    AreInOrder 1 members → AllPairs IsNotAfter (holders_with guests members desks i)
holders_with-order guests members desks i a =
    AllPairs-append IsNotAfter (workers_with guests members i) (desks_of 0 desks i)
    (workers_with-order guests 1 members i a) (desks_of-order 0 desks i)
    (All-weaker (IsWorkerFrom 1) (λ holder. All (IsNotAfter holder) (desks_of 0 desks i))
    (λ one h.
    All-weaker (IsDeskFrom 0) (IsNotAfter one) (λ two k. desks_behind 1 0 one two h k)
    (desks_of 0 desks i) (desks_of-from 0 desks i))
    (workers_with guests members i) (workers_with-from guests 1 members i a))
