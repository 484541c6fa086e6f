-- A statement's JSON has no float.
use Rattle.std.proofs.Common.{◌≡◌, ℕ, false, List, [], ◌∷◌, Option, None, Some, map, refl}
use Rattle.commons.specs.declared.packet.Seg.{Seg}
use Rattle.pool_statement.specs.declared.settled.Settled.{Settled}
use Rattle.pool_statement.specs.declared.statement.Statement.{Statement}
use Rattle.pool_statement.specs.declared.statement.DeskPacket.{DeskPacket}
use Rattle.pool_statement.specs.declared.statement.PlacedPacket.{PlacedPacket}
use Rattle.pool_statement.specs.declared.statement.Held.{Held}
use Rattle.pool_statement.specs.declared.statement.Holder.{Holder}
use Rattle.pool_statement.specs.declared.statement.Holder.TheVariants.{Worker, Desk}
use Rattle.serde_json.specs.Data.{Data}
use Rattle.serde_json.specs.View.{items_of}
use Rattle.serde_json.specs.Written.{has_float, items_have_float}
use Rattle.statement_text.specs.StatementData.{base_data, count_data, counts_data, desk_data, held_data, holder_data, packet_data, seg_data, segs_data, settled_data, settled_with, statement_data}

-- a list has none where no item has
items_whole : {X : Type 0} (f : X → Data) → ((x : X) → has_float (f x) ≡ false) → (xs : List X) →
    items_have_float (items_of (map f xs)) ≡ false
items_whole f each [] = refl
items_whole f each (x ∷ xs) = rw (each x, items_whole f each xs) refl

pub counts_whole : (ns : List ℕ) → has_float (counts_data ns) ≡ false
counts_whole = items_whole count_data (λ n. refl)

-- a base is a whole number or null
base_whole : (base : Option ℕ) → has_float (base_data base) ≡ false
base_whole None = refl
base_whole (Some e) = refl

seg_whole : (seg : Seg) → has_float (seg_data seg) ≡ false
seg_whole seg = rw (base_whole seg.base) refl

segs_whole : (segs : List Seg) → has_float (segs_data segs) ≡ false
segs_whole = items_whole seg_data seg_whole

packet_whole : (p : PlacedPacket) → has_float (packet_data p) ≡ false
packet_whole p = rw (segs_whole p.segs) refl

desk_whole : (p : DeskPacket) → has_float (desk_data p) ≡ false
desk_whole p = rw (segs_whole p.segs) refl

-- a holder is a text
holder_whole : (h : Holder) → has_float (holder_data h) ≡ false
holder_whole (Worker n) = refl
holder_whole (Desk n) = refl

held_whole : (h : Held) → has_float (held_data h) ≡ false
held_whole h = rw (items_whole holder_data holder_whole h.holders) refl

-- no part of a statement has a float: all its numbers are whole
pub statement_whole : (s : Statement) → has_float (statement_data s) ≡ false
statement_whole s = rw (
  items_whole counts_data counts_whole s.caches,
  counts_whole s.common,
  items_whole desk_data desk_whole s.desks,
  items_whole held_data held_whole s.held,
  items_whole packet_data packet_whole s.packets,
) refl

-- nor has any part of two
pub settled_whole : (s : Settled) → has_float (settled_data s) ≡ false
settled_whole s = with_whole s.first s.second
  where
    with_whole : (first : Statement) (second : Option Statement) → has_float (settled_with first second) ≡ false
    with_whole first None = statement_whole first
    with_whole first (Some second) = rw (statement_whole first, statement_whole second) refl
