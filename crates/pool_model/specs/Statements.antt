-- What a statement says: of a pool in the reference model, and of any pool.
use Rattle.std.specs.Prelude.{ℕ, ◌≡◌, ◌⊎◌, ◌+◌, ◌<◌, ◌≤◌, nat_lt, List, [], ◌∷◌, ◌++◌, length, replicate, filter, map, flat_map, sum_by, All, AllPairs, Option, Some, None, ◌==◌, Bool, false, cond, count_by}
use Rattle.std.specs.List.{range_with_len}
use Rattle.std.specs.List.Sorted.{IsStrictlyIncreasing}
use Rattle.commons.specs.Bag.{bag}
use Rattle.commons.specs.declared.limits.Limits.{Limits}
use Rattle.commons.specs.declared.packet.Seg.{Seg}
use Rattle.pool_statement.specs.declared.statement.Statement.{Statement}
use Rattle.pool_statement.specs.declared.statement.DeskPacket.{DeskPacket}
use Rattle.pool_statement.specs.declared.statement.PlacedPacket.{PlacedPacket}
use Rattle.pool_statement.specs.declared.statement.Held.{Held}
use Rattle.pool_statement.specs.declared.statement.Holder.{Holder}
use Rattle.pool_statement.specs.declared.statement.Holder.TheVariants.{Worker, Desk}
use Rattle.commons.specs.Packets.{holds_of_packet, own_of_packet, holds_in_slot, held_in}
use Rattle.mbuf.specs.Members.{Member, slots}
use Rattle.pool_model.specs.Pool.{Pool, held_of}

-- the packets of a worker's table, the first of its slots having this number
abbrev pub packets_from : ℕ → ℕ → List (Option (List Seg)) → List PlacedPacket
packets_from worker slot [] = []
packets_from worker slot (None ∷ table) = packets_from worker (slot + 1) table
packets_from worker slot (Some segs ∷ table) =
    record { worker = worker; slot = slot; segs = segs } ∷ packets_from worker (slot + 1) table

-- the packets of a worker, by slot
abbrev pub packets_of : Member → List PlacedPacket
packets_of member = packets_from member.number 0 member.table

-- the packets on desks, the first of which has this number
abbrev pub desks_from : ℕ → List (Option (List Seg)) → List DeskPacket
desks_from desk [] = []
desks_from desk (None ∷ desks) = desks_from (desk + 1) desks
desks_from desk (Some segs ∷ desks) = record { desk = desk; segs = segs } ∷ desks_from (desk + 1) desks

-- which workers hold an element, each as often as it does
abbrev pub workers_of : List Member → ℕ → List Holder
workers_of members i = flat_map (λ member. replicate (held_in member.table i) (Worker member.number)) members

-- and which desks, the first of which has this number
abbrev pub desks_of : ℕ → List (Option (List Seg)) → ℕ → List Holder
desks_of desk [] i = []
desks_of desk (slot ∷ desks) i =
    replicate (bag (holds_in_slot slot) i) (Desk desk) ++ desks_of (desk + 1) desks i

-- who holds it: workers, then desks
abbrev pub holders_of : List Member → List (Option (List Seg)) → ℕ → List Holder
holders_of members desks i = workers_of members i ++ desks_of 0 desks i

abbrev pub held_entry : List Member → List (Option (List Seg)) → ℕ → Held
held_entry members desks i = record
    { elem = i; count = held_of members desks i; holders = holders_of members desks i }

-- the elements below the population that packets hold, ascending
abbrev pub held_elements : Pool → List ℕ
held_elements pool =
    filter (λ i. nat_lt 0 (held_of pool.members pool.shared.desks i))
    (range_with_len 0 pool.limits.population)

-- the statement of a pool
abbrev pub statement_of : Pool → Statement
statement_of pool = record {
  population = pool.limits.population;
  available = length pool.shared.common + sum_by (λ member. length member.cache) pool.members;
  in_use = length (held_elements pool);
  common = pool.shared.common;
  caches = map (λ member. member.cache) pool.members;
  packets = flat_map packets_of pool.members;
  desks = desks_from 0 pool.shared.desks;
  held = map (held_entry pool.members pool.shared.desks) (held_elements pool);
}

-- how often a statement lists an element: in the common list, in caches, and as a held one
abbrev pub times_listed : Statement → ℕ → ℕ
times_listed s i =
    bag s.common i + sum_by (λ cache. bag cache i) s.caches + bag (map (λ held. held.elem) s.held) i

-- how often the packets of a statement hold an element
abbrev pub packet_holds : Statement → ℕ → ℕ
packet_holds s i =
    sum_by (λ placed. bag (holds_of_packet placed.segs) i) s.packets
    + sum_by (λ desk. bag (holds_of_packet desk.segs) i) s.desks

-- how often an element is the own one of a segment of the packets of a statement
abbrev pub packet_owns : Statement → ℕ → ℕ
packet_owns s i =
    sum_by (λ placed. bag (own_of_packet placed.segs) i) s.packets
    + sum_by (λ desk. bag (own_of_packet desk.segs) i) s.desks

-- how often a worker's packets hold it, and a desk's
abbrev pub worker_holds : Statement → ℕ → ℕ → ℕ
worker_holds s w i =
    sum_by (λ placed. cond (placed.worker == w) (bag (holds_of_packet placed.segs) i) 0) s.packets

abbrev pub desk_holds : Statement → ℕ → ℕ → ℕ
desk_holds s d i = sum_by (λ desk. cond (desk.desk == d) (bag (holds_of_packet desk.segs) i) 0) s.desks

abbrev pub is_worker : ℕ → Holder → Bool
is_worker w (Worker v) = v == w
is_worker w (Desk d) = false

abbrev pub is_desk : ℕ → Holder → Bool
is_desk d (Worker v) = false
is_desk d (Desk e) = e == d

-- a holder that may stand before another: workers ascend, and after them desks
abbrev pub IsNotAfter : Holder → Holder → Type 0
IsNotAfter (Worker v) (Worker w) = v ≤ w
IsNotAfter (Worker v) (Desk d) = Unit {0}
IsNotAfter (Desk d) (Worker w) = ⊥
IsNotAfter (Desk d) (Desk e) = d ≤ e

-- Each element of the pool is listed exactly once, and nothing else is; what is available and what
-- is in use are the population; the count of a held element is the number of its holders, which is
-- that of the holds of all packets, and each holder stands there as often as its own packets hold
-- the element, workers before desks and both ascending; no packet holds an element that isn't
-- listed as held; and each element is the own one of at most one segment of all packets, those on
-- desks among them.
pub record ListsEachOnce (s : Statement) : Type 0 where
  pub once : (i : ℕ) → i < s.population → times_listed s i ≡ 1
  pub none_else : (i : ℕ) → s.population ≤ i → times_listed s i ≡ 0
  pub whole : s.available + s.in_use ≡ s.population
  pub available : s.available ≡ length s.common + sum_by (λ cache. length cache) s.caches
  pub in_use : s.in_use ≡ length s.held
  pub ascending : IsStrictlyIncreasing (map (λ held. held.elem) s.held)
  pub held : All (λ held. 1 ≤ held.count) s.held
  pub holders : All (λ held. length held.holders ≡ held.count) s.held
  pub in_order : All (λ held. AllPairs IsNotAfter held.holders) s.held
  pub counts : All (λ held. held.count ≡ packet_holds s held.elem) s.held
  pub by_worker : All
      (λ held. (w : ℕ) → count_by (is_worker w) held.holders ≡ worker_holds s w held.elem) s.held
  pub by_desk : All (λ held. (d : ℕ) → count_by (is_desk d) held.holders ≡ desk_holds s d held.elem) s.held
  pub unheld : (i : ℕ) → bag (map (λ held. held.elem) s.held) i ≡ 0 → packet_holds s i ≡ 0
  pub own_once : (i : ℕ) → packet_owns s i ≤ 1

-- one packet is before another: its worker has the lower number, or it stands in a lower slot of
-- the same one
abbrev pub StandsBefore : PlacedPacket → PlacedPacket → Type 0
StandsBefore one other = (one.worker < other.worker) ⊎ ((one.worker ≡ other.worker) × (one.slot < other.slot))

-- The statement of a pool within these limits has as many elements as they say, and a cache for
-- each worker. Its packets ascend by worker and slot, and those on desks by desk, so that no two
-- stand in one slot or on one desk; and each of these slots and desks is one of the pool's.
pub record PlacesEachOnce (l : Limits) (s : Statement) : Type 0 where
  pub population : s.population ≡ l.population
  pub caches : length s.caches ≡ l.workers
  pub packets : AllPairs StandsBefore s.packets
  pub slots : All
      (λ placed. (1 ≤ placed.worker) × (placed.worker ≤ l.workers) × (placed.slot < slots))
      s.packets
  pub desks : AllPairs (λ one other. one.desk < other.desk) s.desks
  pub on_desks : All (λ packet. packet.desk < l.desks) s.desks
