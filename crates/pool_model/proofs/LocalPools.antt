-- A pool whose packets have foreign bases, as it sees itself.
use Rattle.std.proofs.Common.{ℕ, ◌≡◌, ◌+◌, Bool, true, false, List, [], ◌∷◌, ◌++◌, length, map, Option, Some, None, refl, sym, ap, ◌∙◌, arith}
use Rattle.std.specs.Prelude.{flat_map, sum_by}
use Rattle.std.proofs.lemmas.List.{length-map}
use Rattle.std.proofs.lemmas.List.Sums.{sum_by-cons}
use Rattle.commons.specs.Bag.{bag}
use Rattle.commons.specs.declared.packet.Seg.{Seg}
use Rattle.commons.specs.Packets.{held_in, holds_in_slot, own_in, own_in_slot, own_of_packet}
use Rattle.mbuf.specs.Members.{Member}
use Rattle.pool_statement.specs.declared.guest.Guest.{Guest}
use Rattle.pool_statement.specs.declared.statement.DeskPacket.{DeskPacket}
use Rattle.pool_statement.specs.declared.statement.PlacedPacket.{PlacedPacket}
use Rattle.pool_statement.specs.declared.statement.Statement.{Statement}
use Rattle.pool_model.specs.Guests.{local_member, local_on_desk, local_packet, local_place, local_placed, local_pool, local_statement, local_table, statement_with}
use Rattle.pool_model.specs.Pool.{Pool, held_by, own_by, own_of}
use Rattle.pool_model.specs.Statements.{desks_from, packets_from, packets_of}
use Rattle.pool_model.proofs.Listed.{sum_by-map}
use Rattle.pool_model.proofs.Numbered.{AreInOrder}

-- ---- where bases are the pool's own, all is as it is

-- a packet whose bases are the pool's own is seen as it is
pub local_packet-same : (segs : List Seg) → local_packet false segs ≡ segs
local_packet-same [] = refl
local_packet-same (seg ∷ segs) = ap (λ (xs : List Seg). seg ∷ xs) (local_packet-same segs)

-- what stands at a place is seen as it is, where bases are the pool's own
pub local_place-same : (place : Option (List Seg)) → local_place false place ≡ place
local_place-same None = refl
local_place-same (Some segs) = ap (λ (xs : List Seg). Some xs) (local_packet-same segs)

-- a table is seen place by place
pub local_table-cons : (foreign : Bool) (place : Option (List Seg)) (table : List (Option (List Seg))) →
    local_table foreign (place ∷ table) ≡ local_place foreign place ∷ local_table foreign table
local_table-cons true place table = refl
local_table-cons false place table =
    ap (λ (p : Option (List Seg)). p ∷ table) (sym (local_place-same place))

-- an empty table is seen as an empty one
pub local_table-nil : (foreign : Bool) → local_table foreign [] ≡ []
local_table-nil true = refl
local_table-nil false = refl

-- how often a table's packets hold an element of the pool, by their places
pub held-local : (foreign : Bool) (table : List (Option (List Seg))) (i : ℕ) →
    held_in (local_table foreign table) i
    ≡ sum_by (λ (place : Option (List Seg)). bag (holds_in_slot (local_place foreign place)) i) table
held-local foreign [] i = rw (local_table-nil foreign) refl
held-local foreign (place ∷ table) i =
    rw (local_table-cons foreign place table)
    (sum_by-cons (λ (p : Option (List Seg)). bag (holds_in_slot p) i) (local_place foreign place) (local_table foreign table)
    ∙ ap (λ (n : ℕ). bag (holds_in_slot (local_place foreign place)) i + n) (held-local foreign table i)
    ∙ sym (sum_by-cons (λ (p : Option (List Seg)). bag (holds_in_slot (local_place foreign p)) i) place table))

-- ---- own elements are the pool's, whatever the bases are

-- the own elements of a packet are seen, whoever its bases are
own_packet-local : (foreign : Bool) (segs : List Seg) → own_of_packet (local_packet foreign segs) ≡ own_of_packet segs
own_packet-local foreign [] = refl
own_packet-local true (seg ∷ segs) = ap (λ (es : List ℕ). seg.elem ∷ es) (own_packet-local true segs)
own_packet-local false (seg ∷ segs) = ap (λ (es : List ℕ). seg.elem ∷ es) (own_packet-local false segs)

-- the own elements of what stands at a place are seen, whoever the bases are
own_place-local : (foreign : Bool) (place : Option (List Seg)) → own_in_slot (local_place foreign place) ≡ own_in_slot place
own_place-local foreign None = refl
own_place-local foreign (Some segs) = own_packet-local foreign segs

-- a table is seen with the own elements that it has
pub own_in-local : (foreign : Bool) (table : List (Option (List Seg))) (i : ℕ) →
    own_in (local_table foreign table) i ≡ own_in table i
own_in-local foreign [] i = rw (local_table-nil foreign) refl
own_in-local foreign (place ∷ table) i =
    rw (local_table-cons foreign place table)
    (sum_by-cons (λ (p : Option (List Seg)). bag (own_in_slot p) i) (local_place foreign place) (local_table foreign table)
    ∙ ap (λ (es : List ℕ). bag es i + own_in (local_table foreign table) i) (own_place-local foreign place)
    ∙ ap (λ (n : ℕ). bag (own_in_slot place) i + n) (own_in-local foreign table i)
    ∙ sym (sum_by-cons (λ (p : Option (List Seg)). bag (own_in_slot p) i) place table))

-- ---- a pool's members

-- members whose bases are the pool's own are seen as they are
members-same : (members : List Member) → map (local_member false) members ≡ members
members-same [] = refl
members-same (m ∷ members) = ap (λ (ms : List Member). m ∷ ms) (members-same members)

-- the members of a pool as it sees itself are its members, each as the pool sees it
pub local-members : (foreign : Bool) (pool : Pool) →
    (local_pool foreign pool).members ≡ map (local_member foreign) pool.members
local-members true pool = refl
local-members false pool = sym (members-same pool.members)

-- the desks of a pool as it sees itself are its desks as a table that it sees
pub local-desks : (foreign : Bool) (pool : Pool) →
    (local_pool foreign pool).shared.desks ≡ local_table foreign pool.shared.desks
local-desks true pool = refl
local-desks false pool = refl

-- a pool sees its common list as it is
pub local-common : (foreign : Bool) (pool : Pool) → (local_pool foreign pool).shared.common ≡ pool.shared.common
local-common true pool = refl
local-common false pool = refl

-- a pool sees its limits as they are
pub local-limits : (foreign : Bool) (pool : Pool) → (local_pool foreign pool).limits ≡ pool.limits
local-limits true pool = refl
local-limits false pool = refl

-- how often the members that a pool sees hold an element
pub held_by-local : (foreign : Bool) (pool : Pool) (i : ℕ) →
    held_by (local_pool foreign pool).members i
    ≡ sum_by (λ (m : Member). held_in (local_table foreign m.table) i) pool.members
held_by-local foreign pool i =
    rw (local-members foreign pool)
    (sum_by-map (λ (m : Member). held_in m.table i) (local_member foreign) pool.members)

-- the members that a pool sees have the own elements that they have
own_all : (foreign : Bool) (members : List Member) (i : ℕ) →
    sum_by (λ (m : Member). own_in (local_table foreign m.table) i) members ≡ own_by members i
own_all foreign [] i = refl
own_all foreign (m ∷ members) i = omega (
  arith,
  sum_by-cons (λ (m : Member). own_in (local_table foreign m.table) i) m members,
  sum_by-cons (λ (m : Member). own_in m.table i) m members,
  own_in-local foreign m.table i,
  own_all foreign members i,
)

-- a pool sees the own elements that its packets have, those on desks too
pub own_of-local : (foreign : Bool) (pool : Pool) (i : ℕ) →
    own_of (local_pool foreign pool).members (local_pool foreign pool).shared.desks i
    ≡ own_of pool.members pool.shared.desks i
own_of-local foreign pool i =
    rw (local-members foreign pool, local-desks foreign pool) (omega (
      arith,
      sum_by-map (λ (m : Member). own_in m.table i) (local_member foreign) pool.members,
      own_all foreign pool.members i,
      own_in-local foreign pool.shared.desks i,
    ))

-- what the caches of the members that a pool sees have
pub cached-local : (foreign : Bool) (pool : Pool) (i : ℕ) →
    sum_by (λ (m : Member). bag m.cache i) (local_pool foreign pool).members
    ≡ sum_by (λ (m : Member). bag m.cache i) pool.members
cached-local true pool i = sum_by-map (λ (m : Member). bag m.cache i) (local_member true) pool.members
cached-local false pool i = refl

-- a pool sees as many members as it has
pub length-local : (foreign : Bool) (pool : Pool) → length (local_pool foreign pool).members ≡ length pool.members
length-local true pool = length-map pool.members (local_member true)
length-local false pool = refl

-- members that are seen without foreign bases keep their numbers
order-mapped : (number : ℕ) (members : List Member) → AreInOrder number members →
    AreInOrder number (map (local_member true) members)
order-mapped number [] a = tt
order-mapped number (m ∷ members) a = (a.0, order-mapped (number + 1) members a.1)

-- a pool sees its members in the order of their numbers
pub local-in_order : (foreign : Bool) (pool : Pool) → AreInOrder 1 pool.members →
    AreInOrder 1 (local_pool foreign pool).members
local-in_order true pool a = order-mapped 1 pool.members a
local-in_order false pool a = a

-- ---- the statement as the pool sees it is that of the pool as it sees itself

-- the packets listed of a table, without foreign bases, are those of the table seen so
packets-local : (worker slot : ℕ) (table : List (Option (List Seg))) →
    map (local_placed true) (packets_from worker slot table) ≡ packets_from worker slot (map (local_place true) table)
packets-local worker slot [] = refl
packets-local worker slot (None ∷ table) = packets-local worker (slot + 1) table
packets-local worker slot (Some segs ∷ table) =
    let packet : PlacedPacket = record { worker = worker; slot = slot; segs = local_packet true segs } in
    ap (λ (ps : List PlacedPacket). packet ∷ ps) (packets-local worker (slot + 1) table)

-- what is made of two lists, one behind the other, is what is made of each
map-append : {X Y : Type 0} (f : X → Y) (xs ys : List X) → map f (xs ++ ys) ≡ map f xs ++ map f ys
map-append f [] ys = refl
map-append f (x ∷ xs) ys = ap (λ zs. f x ∷ zs) (map-append f xs ys)

-- the packets listed of all members, without foreign bases, are those of the members seen so
all_packets-local : (members : List Member) →
    map (local_placed true) (flat_map packets_of members) ≡ flat_map packets_of (map (local_member true) members)
all_packets-local [] = refl
all_packets-local (m ∷ members) =
    map-append (local_placed true) (packets_of m) (flat_map packets_of members)
    ∙ ap (λ (ps : List PlacedPacket). ps ++ map (local_placed true) (flat_map packets_of members))
    (packets-local m.number 0 m.table)
    ∙ ap (λ (ps : List PlacedPacket). packets_of (local_member true m) ++ ps) (all_packets-local members)

-- the packets listed of desks, without foreign bases, are those of the desks seen so
desks-local : (desk : ℕ) (desks : List (Option (List Seg))) →
    map (local_on_desk true) (desks_from desk desks) ≡ desks_from desk (map (local_place true) desks)
desks-local desk [] = refl
desks-local desk (None ∷ desks) = desks-local (desk + 1) desks
desks-local desk (Some segs ∷ desks) =
    let packet : DeskPacket = record { desk = desk; segs = local_packet true segs } in
    ap (λ (ps : List DeskPacket). packet ∷ ps) (desks-local (desk + 1) desks)

-- members are seen with the caches that they have
caches-local : (members : List Member) →
    map (λ (m : Member). m.cache) (map (local_member true) members) ≡ map (λ (m : Member). m.cache) members
caches-local [] = refl
caches-local (m ∷ members) = ap (λ (cs : List (List ℕ)). m.cache ∷ cs) (caches-local members)

-- a pool's statement, seen without foreign bases, is the statement of the pool as it sees itself
pub statement-local : (foreign : Bool) (guests : List Guest) (pool : Pool) →
    local_statement foreign (statement_with foreign guests pool)
    ≡ statement_with false guests (local_pool foreign pool)
statement-local false guests pool = refl
statement-local true guests pool =
    let lengths = sum_by-map (λ (m : Member). length m.cache) (local_member true) pool.members in
    rw (all_packets-local pool.members, desks-local 0 pool.shared.desks, caches-local pool.members, lengths) refl

-- as many elements are available in a statement that is seen without foreign bases
pub local-available : (foreign : Bool) (s : Statement) → (local_statement foreign s).available ≡ s.available
local-available true s = refl
local-available false s = refl

-- as many elements are in use in a statement that is seen without foreign bases
pub local-in_use : (foreign : Bool) (s : Statement) → (local_statement foreign s).in_use ≡ s.in_use
local-in_use true s = refl
local-in_use false s = refl

-- the population of a statement is the same where it is seen without foreign bases
pub local-population : (foreign : Bool) (s : Statement) → (local_statement foreign s).population ≡ s.population
local-population true s = refl
local-population false s = refl
