-- Pools of which one has the bases of the other's packets: what each holds of itself, and what its
-- statement says.
use Rattle.std.specs.Prelude.{ℕ, ◌≡◌, ◌+◌, ◌<◌, ◌≤◌, nat_lt, ◌==◌, cond, Bool, true, false, List, [], length, replicate, filter, map, flat_map, sum_by, ◌++◌, All, AllPairs, Option, Some, None, count_by}
use Rattle.std.specs.List.{range_with_len}
use Rattle.std.specs.List.Sorted.{IsStrictlyIncreasing}
use Rattle.commons.specs.Bag.{bag, one}
use Rattle.commons.specs.declared.packet.Seg.{Seg}
use Rattle.commons.specs.Packets.{held_in, hold_of}
use Rattle.mbuf.specs.Members.{Member}
use Rattle.pool_statement.specs.declared.guest.Guest.{Guest}
use Rattle.pool_statement.specs.declared.statement.DeskPacket.{DeskPacket}
use Rattle.pool_statement.specs.declared.statement.Held.{Held}
use Rattle.pool_statement.specs.declared.statement.Holder.{Holder}
use Rattle.pool_statement.specs.declared.statement.Holder.TheVariants.{Worker}
use Rattle.pool_statement.specs.declared.statement.PlacedPacket.{PlacedPacket}
use Rattle.pool_statement.specs.declared.statement.Statement.{Statement}
use Rattle.pool_model.specs.Pool.{Pool, held_of}
use Rattle.pool_model.specs.Statements.{IsNotAfter, desks_of, desk_holds, is_desk, is_worker, packet_holds, packet_owns, statement_of, times_listed, worker_holds}

-- ---- packets whose bases are foreign, elements of another pool

-- a segment as its own pool sees it: without its base, where that is foreign
abbrev pub local_seg : Bool → Seg → Seg
local_seg true seg = record seg { base = None }
local_seg false seg = seg

-- so a packet
abbrev pub local_packet : Bool → List Seg → List Seg
local_packet foreign segs = map (local_seg foreign) segs

-- what stands at a place, where something does
abbrev pub local_place : Bool → Option (List Seg) → Option (List Seg)
local_place foreign None = None
local_place foreign (Some segs) = Some (local_packet foreign segs)

-- a table, of slots or of desks
abbrev pub local_table : Bool → List (Option (List Seg)) → List (Option (List Seg))
local_table true table = map (local_place true) table
local_table false table = table

-- a worker
abbrev pub local_member : Bool → Member → Member
local_member foreign member = record member { table = local_table foreign member.table }

-- and a pool
abbrev pub local_pool : Bool → Pool → Pool
local_pool true pool = record pool {
  shared = record pool.shared { desks = local_table true pool.shared.desks };
  members = map (local_member true) pool.members;
}
local_pool false pool = pool

-- ---- guests, which are held for packets of another pool

-- how often guests are an element
abbrev pub guest_holds : List Guest → ℕ → ℕ
guest_holds guests i = sum_by (λ guest. one guest.elem i) guests

-- and how often those of a worker are
abbrev pub guests_of : List Guest → ℕ → ℕ → ℕ
guests_of guests w i = sum_by (λ guest. cond (w == guest.worker) (one guest.elem i) 0) guests

-- guests are held by workers of these numbers, from 1
abbrev pub AreOfWorkers : ℕ → List Guest → Type 0
AreOfWorkers workers guests = All (λ guest. (1 ≤ guest.worker) × (guest.worker ≤ workers)) guests

-- how often an element is held: by the packets of the members, by those on desks, and for guests
abbrev pub held_with : List Guest → List Member → List (Option (List Seg)) → ℕ → ℕ
held_with guests members desks i = held_of members desks i + guest_holds guests i

-- which workers hold it, each as often as it does
abbrev pub workers_with : List Guest → List Member → ℕ → List Holder
workers_with guests members i =
    flat_map (λ member. replicate (held_in member.table i + guests_of guests member.number i) (Worker member.number))
    members

-- who holds it: workers, then desks
abbrev pub holders_with : List Guest → List Member → List (Option (List Seg)) → ℕ → List Holder
holders_with guests members desks i = workers_with guests members i ++ desks_of 0 desks i

abbrev pub entry_with : List Guest → List Member → List (Option (List Seg)) → ℕ → Held
entry_with guests members desks i = record
    { elem = i; count = held_with guests members desks i; holders = holders_with guests members desks i }

-- the elements below the population that are held, ascending
abbrev pub elements_with : List Guest → Pool → List ℕ
elements_with guests pool =
    filter (λ i. nat_lt 0 (held_with guests pool.members pool.shared.desks i))
    (range_with_len 0 pool.limits.population)

-- ---- foreign clones, whose bases are guests of another pool

-- a worker's guest
abbrev pub guest_of : ℕ → ℕ → Guest
guest_of worker e = record { worker = worker; elem = e }

-- its guests for a packet: the bases of its segments, where they have one
abbrev pub guests_for : ℕ → List Seg → List Guest
guests_for worker segs = flat_map (λ seg. map (guest_of worker) (hold_of seg.base)) segs

-- for what stands in a slot
abbrev pub guests_in_slot : ℕ → Option (List Seg) → List Guest
guests_in_slot worker None = []
guests_in_slot worker (Some segs) = guests_for worker segs

-- and for all its packets
abbrev pub guests_by : Member → List Guest
guests_by m = flat_map (guests_in_slot m.number) m.table

-- the guests that a statement of the other pool tells of: for each packet that it lists of a worker,
-- the bases of its segments
abbrev pub guests_listed : Statement → List Guest
guests_listed s = flat_map (λ packet. guests_for packet.worker packet.segs) s.packets

-- ---- the statement of a pool

-- It lists packets with their bases; held elements are those of the pool alone, guests among them.
abbrev pub statement_with : Bool → List Guest → Pool → Statement
statement_with foreign guests pool =
    let own = local_pool foreign pool in
    record (statement_of pool) {
      in_use = length (elements_with guests own);
      held = map (entry_with guests own.members own.shared.desks) (elements_with guests own);
    }

-- a packet in a slot, as its own pool sees it, and one on a desk
abbrev pub local_placed : Bool → PlacedPacket → PlacedPacket
local_placed foreign packet = record packet { segs = local_packet foreign packet.segs }

abbrev pub local_on_desk : Bool → DeskPacket → DeskPacket
local_on_desk foreign packet = record packet { segs = local_packet foreign packet.segs }

-- and a statement
abbrev pub local_statement : Bool → Statement → Statement
local_statement true s = record s {
  packets = map (local_placed true) s.packets;
  desks = map (local_on_desk true) s.desks;
}
local_statement false s = s

-- What ListsEachOnce says of a statement, of one whose held elements are held for guests too: the
-- count of a held element is the number of its holders, which is that of the holds of all packets
-- and of the guests that it is; each worker stands among them as often as its own packets hold the
-- element and its own guests are it.
pub record ListsEachOnceWith (guests : List Guest) (s : Statement) : Type 0 where
  pub once : (i : ℕ) → i < s.population → times_listed s i ≡ 1
  pub none_else : (i : ℕ) → s.population ≤ i → times_listed s i ≡ 0
  pub whole : s.available + s.in_use ≡ s.population
  pub available : s.available ≡ length s.common + sum_by (λ cache. length cache) s.caches
  pub in_use : s.in_use ≡ length s.held
  pub ascending : IsStrictlyIncreasing (map (λ held. held.elem) s.held)
  pub held : All (λ held. 1 ≤ held.count) s.held
  pub holders : All (λ held. length held.holders ≡ held.count) s.held
  pub in_order : All (λ held. AllPairs IsNotAfter held.holders) s.held
  pub counts : All (λ held. held.count ≡ packet_holds s held.elem + guest_holds guests held.elem) s.held
  pub by_worker : All (λ held. (w : ℕ) →
      count_by (is_worker w) held.holders ≡ worker_holds s w held.elem + guests_of guests w held.elem) s.held
  pub by_desk : All (λ held. (d : ℕ) → count_by (is_desk d) held.holders ≡ desk_holds s d held.elem) s.held
  pub unheld : (i : ℕ) → bag (map (λ held. held.elem) s.held) i ≡ 0 → packet_holds s i + guest_holds guests i ≡ 0
  pub own_once : (i : ℕ) → packet_owns s i ≤ 1
