-- What holds of each packet and each count of a pool holds of each that its statement lists.
use Rattle.std.proofs.Common.{ℕ, suc, ◌≡◌, ◌+◌, ◌-◌, ◌<◌, All, List, [], ◌∷◌, length, get_or, Option, Some, None, refl, arith}
use Rattle.std.specs.Prelude.{flat_map}
use Rattle.std.proofs.lemmas.List.Elements.{All-nil, All-cons, All-append, All-map}
use Rattle.commons.specs.declared.limits.Limits.{Limits}
use Rattle.commons.specs.declared.packet.Seg.{Seg}
use Rattle.mbuf.specs.Members.{Member}
use Rattle.pool_statement.specs.declared.statement.DeskPacket.{DeskPacket}
use Rattle.pool_statement.specs.declared.statement.Held.{Held}
use Rattle.pool_statement.specs.declared.statement.PlacedPacket.{PlacedPacket}
use Rattle.pool_statement.specs.declared.statement.Statement.{Statement}
use Rattle.pool_model.specs.Pool.{Pool, held_of, nobody}
use Rattle.pool_model.specs.Sound.{ListsOnlyPackets, ListsSoundPackets}
use Rattle.pool_model.specs.Standing.{IsInSlot}
use Rattle.pool_model.specs.Statements.{desks_from, held_elements, held_entry, packets_from, packets_of, statement_of}

-- what holds of each packet of a table holds of each that is listed
listed_from : (P : List Seg → Type 0) (worker slot : ℕ) (table : List (Option (List Seg))) →
    ((k : ℕ) (packet : List Seg) → get_or table k None ≡ Some packet → P packet) →
    All (λ placed. P placed.segs) (packets_from worker slot table)
listed_from P worker slot [] each = All-nil (λ (placed : PlacedPacket). P placed.segs)
listed_from P worker slot (None ∷ table) each =
    listed_from P worker (slot + 1) table (λ k packet there. each (suc k) packet there)
listed_from P worker slot (Some segs ∷ table) each =
    let placed : PlacedPacket = record { worker = worker; slot = slot; segs = segs } in
    All-cons (λ (placed : PlacedPacket). P placed.segs) placed (packets_from worker (slot + 1) table) (each 0 segs refl)
    (listed_from P worker (slot + 1) table (λ k packet there. each (suc k) packet there))

-- what holds of each packet in a slot of these workers holds of each that is listed of them
listed_of : (P : List Seg → Type 0) (d : Member) (members : List Member) →
    ((n k : ℕ) (packet : List Seg) → n < length members →
    get_or (get_or members n d).table k None ≡ Some packet → P packet) →
    All (λ placed. P placed.segs) (flat_map packets_of members)
listed_of P d [] each = All-nil (λ (placed : PlacedPacket). P placed.segs)
listed_of P d (m ∷ members) each =
    All-append (λ (placed : PlacedPacket). P placed.segs) (packets_of m) (flat_map packets_of members)
    (listed_from P m.number 0 m.table (λ k packet there. each 0 k packet (omega arith) there))
    (listed_of P d members (λ n k packet within there. each (suc n) k packet (omega (arith, within)) there))

-- a packet that the statement lists with a worker stands in a slot of that worker
pub listed_in_slots : (P : List Seg → Type 0) (pool : Pool) →
    ((worker slot : ℕ) (packet : List Seg) → IsInSlot pool worker slot packet → P packet) →
    All (λ placed. P placed.segs) (statement_of pool).packets
listed_in_slots P pool each = listed_of P (nobody pool.limits) pool.members (λ n k packet within there.
    let at : n + 1 - 1 ≡ n = omega arith in
    each (n + 1) k packet ((omega arith, omega (arith, within)), rw at there))

-- what holds of each packet on a desk holds of each that is listed of the desks
pub listed_on_desks : (P : List Seg → Type 0) (desk : ℕ) (desks : List (Option (List Seg))) →
    ((k : ℕ) (packet : List Seg) → get_or desks k None ≡ Some packet → P packet) →
    All (λ packet. P packet.segs) (desks_from desk desks)
listed_on_desks P desk [] each = All-nil (λ (packet : DeskPacket). P packet.segs)
listed_on_desks P desk (None ∷ desks) each =
    listed_on_desks P (desk + 1) desks (λ k packet there. each (suc k) packet there)
listed_on_desks P desk (Some segs ∷ desks) each =
    let placed : DeskPacket = record { desk = desk; segs = segs } in
    All-cons (λ (packet : DeskPacket). P packet.segs) placed (desks_from (desk + 1) desks) (each 0 segs refl)
    (listed_on_desks P (desk + 1) desks (λ k packet there. each (suc k) packet there))

-- what holds of how often each element is held holds of each count of a held one
pub listed_counts : (P : ℕ → Type 0) (pool : Pool) →
    ((i : ℕ) → P (held_of pool.members pool.shared.desks i)) →
    All (λ held. P held.count) (statement_of pool).held
listed_counts P pool each =
    All-map (λ (held : Held). P held.count) (held_entry pool.members pool.shared.desks) (held_elements pool)
    (λ k d within. each (get_or (held_elements pool) k d))

-- a packet of a pool is a packet
pub sound_packets_are_packets : (l : Limits) (s : Statement) → ListsSoundPackets l s → ListsOnlyPackets s
sound_packets_are_packets l s sound = record {
  in_slots = λ k d within. (sound.in_slots k d within).packet;
  on_desks = λ k d within. (sound.on_desks k d within).packet;
}
