-- The statement of a numbered pool has each packet in a place of its own.
use Rattle.std.proofs.Common.{ℕ, suc, ◌≡◌, ◌+◌, ◌-◌, ◌<◌, ◌≤◌, inl, inr, List, [], ◌∷◌, length, get_or, Option, Some, None, refl, sym, ◌∙◌, ap, arith}
use Rattle.std.specs.Prelude.{All, AllPairs, Contains, flat_map}
use Rattle.std.proofs.lemmas.List.{length-map}
use Rattle.std.proofs.lemmas.List.Elements.{All-nil, All-cons, All-append, All-contains, All-weaker}
use Rattle.std.proofs.lemmas.List.Kept.{AllPairs-cons}
use Rattle.commons.specs.declared.limits.Limits.{Limits}
use Rattle.commons.specs.declared.packet.Seg.{Seg}
use Rattle.commons.proofs.PacketBags.{stands_within}
use Rattle.mbuf.specs.Members.{Member, slots}
use Rattle.pool_statement.specs.declared.statement.DeskPacket.{DeskPacket}
use Rattle.pool_statement.specs.declared.statement.PlacedPacket.{PlacedPacket}
use Rattle.mbuf.specs.declared.acts.Act.{Act}
use Rattle.pool_model.specs.Pool.{Pool, new_pool}
use Rattle.pool_model.specs.PacketModel.{after_acts}
use Rattle.pool_model.specs.Statements.{packets_from, packets_of, desks_from, statement_of, StandsBefore, PlacesEachOnce}
use Rattle.pool_model.proofs.Numbered.{AreInOrder, IsNumbered, acts-numbered, full_tables, numbered_in_order}
use Rattle.pool_model.proofs.Pairs.{AllPairs-append, AllPairs-nil}

-- the packet of a worker in a place of its table, whose first place has this number
abbrev pub IsPlacedIn : ℕ → ℕ → List (Option (List Seg)) → PlacedPacket → Type 0
IsPlacedIn worker slot table placed =
    (placed.worker ≡ worker) × (slot ≤ placed.slot) × (get_or table (placed.slot - slot) None ≡ Some placed.segs)

-- what is in a table is in one with a place before it
placed_later : (worker slot : ℕ) (place : Option (List Seg)) (table : List (Option (List Seg)))
    (placed : PlacedPacket) → IsPlacedIn worker (slot + 1) table placed → IsPlacedIn worker slot (place ∷ table) placed
placed_later worker slot place table placed h =
    let next : placed.slot - slot ≡ suc (placed.slot - (slot + 1)) = omega (arith, h.1) in
    (h.0, omega (arith, h.1), rw next h.2)

-- each packet that is listed of a table stands in one of its places
pub packets_from-placed : (worker slot : ℕ) (table : List (Option (List Seg))) →
    All (IsPlacedIn worker slot table) (packets_from worker slot table)
packets_from-placed worker slot [] = All-nil (IsPlacedIn worker slot [])
packets_from-placed worker slot (None ∷ table) =
    All-weaker (IsPlacedIn worker (slot + 1) table) (IsPlacedIn worker slot (None ∷ table))
    (placed_later worker slot None table) (packets_from worker (slot + 1) table)
    (packets_from-placed worker (slot + 1) table)
packets_from-placed worker slot (Some segs ∷ table) =
    let packet : PlacedPacket = record { worker = worker; slot = slot; segs = segs } in
    let here : slot - slot ≡ 0 = omega arith in
    All-cons (IsPlacedIn worker slot (Some segs ∷ table)) packet
    (packets_from worker (slot + 1) table) (refl, omega arith, rw here refl)
    (All-weaker (IsPlacedIn worker (slot + 1) table) (IsPlacedIn worker slot (Some segs ∷ table))
    (placed_later worker slot (Some segs) table) (packets_from worker (slot + 1) table)
    (packets_from-placed worker (slot + 1) table))

-- a table's packets are listed by their places, each before those of higher ones
packets_from-order : (worker slot : ℕ) (table : List (Option (List Seg))) →
    AllPairs StandsBefore (packets_from worker slot table)
packets_from-order worker slot [] = AllPairs-nil StandsBefore
packets_from-order worker slot (None ∷ table) = packets_from-order worker (slot + 1) table
packets_from-order worker slot (Some segs ∷ table) =
    let packet : PlacedPacket = record { worker = worker; slot = slot; segs = segs } in
    AllPairs-cons StandsBefore packet (packets_from worker (slot + 1) table)
    (All-weaker (IsPlacedIn worker (slot + 1) table) (StandsBefore packet)
    (λ placed h. inr (sym h.0, omega (arith, h.1))) (packets_from worker (slot + 1) table)
    (packets_from-placed worker (slot + 1) table))
    (packets_from-order worker (slot + 1) table)

-- the packet is in a place of one of these workers' tables
abbrev pub IsInTable : List Member → PlacedPacket → Type 0
IsInTable members placed =
    (m : Member) × Contains members m × IsPlacedIn m.number 0 m.table placed

-- each packet that is listed of some workers is in a place of one of their tables
pub packets-in_tables : (members : List Member) → All (IsInTable members) (flat_map packets_of members)
packets-in_tables [] = All-nil (IsInTable [])
packets-in_tables (m ∷ members) =
    let all = m ∷ members in
    All-append (IsInTable all) (packets_of m) (flat_map packets_of members)
    (All-weaker (IsPlacedIn m.number 0 m.table) (IsInTable all)
    (λ placed h. (m, (0, omega arith, refl), h)) (packets_of m) (packets_from-placed m.number 0 m.table))
    (All-weaker (IsInTable members) (IsInTable all)
    (λ placed h. (h.0, (suc h.1.0, omega (arith, h.1.1), h.1.2), h.2)) (flat_map packets_of members)
    (packets-in_tables members))

-- a packet of one of these workers
abbrev pub IsOfWorkers : ℕ → ℕ → PlacedPacket → Type 0
IsOfWorkers low high placed = (low ≤ placed.worker) × (placed.worker < high)

-- the packets that are listed of workers with numbers in a row are of these workers
pub packets-workers : (number : ℕ) (members : List Member) → AreInOrder number members →
    All (IsOfWorkers number (number + length members)) (flat_map packets_of members)
packets-workers number [] a = All-nil (IsOfWorkers number (number + 0))
packets-workers number (m ∷ members) a =
    let high = number + length (m ∷ members) in
    All-append (IsOfWorkers number high) (packets_of m) (flat_map packets_of members)
    (All-weaker (IsPlacedIn m.number 0 m.table) (IsOfWorkers number high)
    (λ placed h. (omega (arith, h.0, a.0), omega (arith, h.0, a.0)))
    (packets_of m) (packets_from-placed m.number 0 m.table))
    (All-weaker (IsOfWorkers (number + 1) (number + 1 + length members)) (IsOfWorkers number high)
    (λ placed h. (omega (arith, h.0), omega (arith, h.1))) (flat_map packets_of members)
    (packets-workers (number + 1) members a.1))

-- a worker's packets are listed before those of workers with higher numbers
pub packets-order : (number : ℕ) (members : List Member) → AreInOrder number members →
    AllPairs StandsBefore (flat_map packets_of members)
packets-order number [] a = AllPairs-nil StandsBefore
packets-order number (m ∷ members) a =
    let later = packets-workers (number + 1) members a.1 in
    AllPairs-append StandsBefore (packets_of m) (flat_map packets_of members)
    (packets_from-order m.number 0 m.table) (packets-order (number + 1) members a.1)
    (All-weaker (IsPlacedIn m.number 0 m.table)
    (λ placed. All (StandsBefore placed) (flat_map packets_of members))
    (λ placed h.
    All-weaker (IsOfWorkers (number + 1) (number + 1 + length members)) (StandsBefore placed)
    (λ other k. inl (omega (arith, h.0, a.0, k.0))) (flat_map packets_of members) later)
    (packets_of m) (packets_from-placed m.number 0 m.table))

-- where each worker has all its slots, each packet is in one of them
packets-slots : (members : List Member) → All (λ m. length m.table ≡ slots) members →
    All (λ placed. placed.slot < slots) (flat_map packets_of members)
packets-slots members full =
    All-weaker (IsInTable members) (λ placed. placed.slot < slots)
    (λ placed h.
    let all : length h.0.table ≡ slots = All-contains (λ m. length m.table ≡ slots) members h.0 full h.1 in
    let same : placed.slot - 0 ≡ placed.slot = omega arith in
    let within : placed.slot < length h.0.table = stands_within h.0.table placed.slot placed.segs (rw same at h.2.2) in
    omega (arith, all, within))
    (flat_map packets_of members) (packets-in_tables members)

-- a packet on one of these desks
abbrev pub OnDesks : ℕ → ℕ → DeskPacket → Type 0
OnDesks low high packet = (low ≤ packet.desk) × (packet.desk < high)

-- the packets on desks are listed with the numbers of these desks
pub desks_from-desks : (desk : ℕ) (desks : List (Option (List Seg))) →
    All (OnDesks desk (desk + length desks)) (desks_from desk desks)
desks_from-desks desk [] = All-nil (OnDesks desk (desk + 0))
desks_from-desks desk (None ∷ desks) =
    All-weaker (OnDesks (desk + 1) (desk + 1 + length desks))
    (OnDesks desk (desk + length (None ∷ desks)))
    (λ packet h. (omega (arith, h.0), omega (arith, h.1))) (desks_from (desk + 1) desks)
    (desks_from-desks (desk + 1) desks)
desks_from-desks desk (Some segs ∷ desks) =
    let packet : DeskPacket = record { desk = desk; segs = segs } in
    All-cons (OnDesks desk (desk + length (Some segs ∷ desks))) packet (desks_from (desk + 1) desks)
    (omega arith, omega arith)
    (All-weaker (OnDesks (desk + 1) (desk + 1 + length desks))
    (OnDesks desk (desk + length (Some segs ∷ desks)))
    (λ packet h. (omega (arith, h.0), omega (arith, h.1))) (desks_from (desk + 1) desks)
    (desks_from-desks (desk + 1) desks))

-- the packets on desks are listed by desk, each before those of higher numbers
pub desks_from-order : (desk : ℕ) (desks : List (Option (List Seg))) →
    AllPairs (λ one other. one.desk < other.desk) (desks_from desk desks)
desks_from-order desk [] = AllPairs-nil (λ (one other : DeskPacket). one.desk < other.desk)
desks_from-order desk (None ∷ desks) = desks_from-order (desk + 1) desks
desks_from-order desk (Some segs ∷ desks) =
    let packet : DeskPacket = record { desk = desk; segs = segs } in
    AllPairs-cons (λ (one other : DeskPacket). one.desk < other.desk) packet (desks_from (desk + 1) desks)
    (All-weaker (OnDesks (desk + 1) (desk + 1 + length desks)) (λ other. desk < other.desk)
    (λ other h. omega (arith, h.0)) (desks_from (desk + 1) desks)
    (desks_from-desks (desk + 1) desks))
    (desks_from-order (desk + 1) desks)

-- the statement of a numbered pool places each packet once
pub places_each_once : (l : Limits) (pool : Pool) → IsNumbered l pool → PlacesEachOnce l (statement_of pool)
places_each_once l pool b = record {
  population = ap (λ (x : Limits). x.population) b.limits;
  caches = length-map pool.members (λ member. member.cache) ∙ b.workers;
  packets = packets-order 1 pool.members (numbered_in_order 1 pool.members b.numbers);
  slots =
      let placed = flat_map packets_of pool.members in
      let of_workers = packets-workers 1 pool.members (numbered_in_order 1 pool.members b.numbers) in
      let in_slots = packets-slots pool.members (full_tables 1 pool.members b.numbers) in
      λ k d l. let of_worker = of_workers k d l in
      (of_worker.0, omega (arith, of_worker.1, b.workers), in_slots k d l);
  desks = desks_from-order 0 pool.shared.desks;
  on_desks =
      All-weaker (OnDesks 0 (0 + length pool.shared.desks)) (λ packet. packet.desk < l.desks)
      (λ packet h. omega (arith, h.1, b.desks)) (desks_from 0 pool.shared.desks)
      (desks_from-desks 0 pool.shared.desks);
}

-- after any acts of its workers a new pool's statement places each packet once
pub acts_place_each_once : (l : Limits) (acts : List (ℕ × Act)) →
    PlacesEachOnce l (statement_of (after_acts acts (new_pool l)))
acts_place_each_once l acts = places_each_once l (after_acts acts (new_pool l)) (acts-numbered l acts)
