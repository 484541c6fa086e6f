-- How deep a statement's JSON nests.
use Rattle.std.proofs.Common.{ℕ, ◌≤◌, List, [], ◌∷◌, Option, None, Some, map, arith}
use Rattle.commons.specs.declared.packet.Seg.{Seg}
use Rattle.pool_statement.specs.declared.settled.Settled.{Settled}
use Rattle.pool_statement.specs.declared.statement.Statement.{Statement}
use Rattle.pool_statement.specs.declared.statement.DeskPacket.{DeskPacket}
use Rattle.pool_statement.specs.declared.statement.PlacedPacket.{PlacedPacket}
use Rattle.pool_statement.specs.declared.statement.Held.{Held}
use Rattle.pool_statement.specs.declared.statement.Holder.{Holder}
use Rattle.pool_statement.specs.declared.statement.Holder.TheVariants.{Worker, Desk}
use Rattle.serde_json.specs.Data.{Data, depth, items_depth}
use Rattle.serde_json.specs.View.{items_of}
use Rattle.statement_text.specs.StatementData.{base_data, count_data, counts_data, desk_data, held_data, holder_data, packet_data, seg_data, segs_data, settled_data, settled_with, statement_data}

-- a list nests one deeper than its items
items_low : {X : Type 0} (n : ℕ) (f : X → Data) → ((x : X) → depth (f x) ≤ n) → (xs : List X) →
    items_depth (items_of (map f xs)) ≤ n
items_low n f each [] = omega arith
items_low n f each (x ∷ xs) = omega (arith, each x, items_low n f each xs)

pub counts_low : (ns : List ℕ) → depth (counts_data ns) ≤ 1
counts_low ns = omega (arith, items_low 0 count_data (λ n. omega arith) ns)

-- a base is a number or null, and nests nothing
base_low : (base : Option ℕ) → depth (base_data base) ≤ 0
base_low None = omega arith
base_low (Some e) = omega arith

seg_low : (seg : Seg) → depth (seg_data seg) ≤ 1
seg_low seg = omega (arith, base_low seg.base)

segs_low : (segs : List Seg) → depth (segs_data segs) ≤ 2
segs_low segs = omega (arith, items_low 1 seg_data seg_low segs)

packet_low : (p : PlacedPacket) → depth (packet_data p) ≤ 3
packet_low p = omega (arith, segs_low p.segs)

desk_low : (p : DeskPacket) → depth (desk_data p) ≤ 3
desk_low p = omega (arith, segs_low p.segs)

-- a holder is a text, and nests nothing
holder_low : (h : Holder) → depth (holder_data h) ≤ 0
holder_low (Worker n) = omega arith
holder_low (Desk n) = omega arith

held_low : (h : Held) → depth (held_data h) ≤ 2
held_low h = omega (arith, items_low 0 holder_data holder_low h.holders)

-- the deepest are segments: objects in a list in a packet's object, in a list of the statement's
pub statement_low : (s : Statement) → depth (statement_data s) ≤ 5
statement_low s = omega (
  arith,
  items_low 1 counts_data counts_low s.caches,
  counts_low s.common,
  items_low 3 desk_data desk_low s.desks,
  items_low 2 held_data held_low s.held,
  items_low 3 packet_data packet_low s.packets,
)

-- two of them are one level deeper
pub settled_low : (s : Settled) → depth (settled_data s) ≤ 6
settled_low s = with_low s.first s.second
  where
    with_low : (first : Statement) (second : Option Statement) → depth (settled_with first second) ≤ 6
    with_low first None = omega (arith, statement_low first)
    with_low first (Some second) = omega (arith, statement_low first, statement_low second)
