-- The picture of a pool in the language of Graphviz: a box for each place, a circle for each held
-- element, an arrow from each packet to its elements, and a dashed one to the element whose buffer
-- another uses.
use Rattle.std.specs.Prelude.{ℕ, ◌+◌, ◌%◌, ◌==◌, Bool, if◌then◌else◌, nat_le, List, [], ◌∷◌, ◌++◌, Option, Some, None, length, codes, decimal}
use Rattle.std.specs.List.{flat_map}
use Rattle.commons.specs.declared.packet.Seg.{Seg}
use Rattle.pool_statement.specs.declared.statement.Held.{Held}
use Rattle.pool_statement.specs.declared.statement.PlacedPacket.{PlacedPacket}
use Rattle.pool_statement.specs.declared.statement.DeskPacket.{DeskPacket}
use Rattle.pool_statement.specs.declared.statement.Statement.{Statement}
use Rattle.pool_picture.specs.declared.packets.Owner.{Owner}
use Rattle.pool_picture.specs.declared.packets.Owner.TheVariants.{Slot, Desk}

-- the most elements of a pool whose picture shows each of them
abbrev pub most_shown : ℕ
most_shown = 300

-- how many elements stand in a row of a box
abbrev pub row_length : ℕ
row_length = 16

-- elements from the one of this index on, each after a space, or in a new row
abbrev pub rows_text : ℕ → List ℕ → List ℕ
rows_text index [] = []
rows_text index (element ∷ more) =
    (if index % row_length == 0 then codes "\\n" else codes " ") ++ decimal element
    ++ rows_text (index + 1) more

-- what a box says of a list of elements: how many they are and, where each is shown, which
unfoldable pub list_text : Bool → List ℕ → List ℕ
list_text shown elements =
    codes ": " ++ decimal (length elements) ++ (if shown then rows_text 0 elements else [])

-- the box of the common stack
unfoldable pub stack_box : Bool → List ℕ → List ℕ
stack_box shown elements = codes "  stack [label=\"stack" ++ list_text shown elements ++ codes "\"];\n"

-- the box of a worker's cache
unfoldable pub cache_box : Bool → ℕ → List ℕ → List ℕ
cache_box shown worker elements =
    codes "  cache_" ++ decimal worker ++ codes " [label=\"cache " ++ decimal worker
    ++ list_text shown elements ++ codes "\"];\n"

-- those of the workers from this one on
abbrev pub cache_boxes : Bool → ℕ → List (List ℕ) → List ℕ
cache_boxes shown worker [] = []
cache_boxes shown worker (cache ∷ more) =
    cache_box shown worker cache ++ cache_boxes shown (worker + 1) more

-- what a packet's box is called, and what it says
unfoldable pub name_of : Owner → List ℕ
name_of (Slot worker slot) = codes "packet_" ++ decimal worker ++ codes "_" ++ decimal slot
name_of (Desk desk) = codes "desk_" ++ decimal desk

unfoldable pub label_of : Owner → List ℕ
label_of (Slot worker slot) = codes "packet " ++ decimal worker ++ codes " " ++ decimal slot
label_of (Desk desk) = codes "desk " ++ decimal desk

-- an arrow from a packet to an own element
unfoldable pub own_arrow : Owner → ℕ → List ℕ
own_arrow owner element = codes "  " ++ name_of owner ++ codes " -> e" ++ decimal element ++ codes ";\n"

-- an arrow from an element to that whose buffer it uses
abbrev pub base_arrow : ℕ → Option ℕ → List ℕ
base_arrow element None = []
base_arrow element (Some base) =
    codes "  e" ++ decimal element ++ codes " -> e" ++ decimal base ++ codes " [style=dashed];\n"

-- both arrows of a segment
unfoldable pub seg_arrows : Owner → Seg → List ℕ
seg_arrows owner seg = own_arrow owner seg.elem ++ base_arrow seg.elem seg.base

-- a packet's box and its arrows
unfoldable pub packet_part : Owner → List Seg → List ℕ
packet_part owner segs =
    codes "  " ++ name_of owner ++ codes " [label=\"" ++ label_of owner ++ codes "\"];\n"
    ++ flat_map (seg_arrows owner) segs

-- those of a worker's packet, and of one on a desk
abbrev pub placed_part : PlacedPacket → List ℕ
placed_part p = packet_part (Slot p.worker p.slot) p.segs

abbrev pub desk_part : DeskPacket → List ℕ
desk_part d = packet_part (Desk d.desk) d.segs

-- the circle of a held element, with its count
unfoldable pub held_circle : Held → List ℕ
held_circle h =
    codes "  e" ++ decimal h.elem ++ codes " [shape=ellipse, label=\"" ++ decimal h.elem
    ++ codes "\\ncount " ++ decimal h.count ++ codes "\"];\n"

-- a box that says how many of a kind there are
unfoldable pub sum_box : List ℕ → List ℕ → ℕ → List ℕ
sum_box name label count =
    codes "  " ++ name ++ codes " [label=\"" ++ label ++ codes ": " ++ decimal count ++ codes "\"];\n"

-- what is in use, each of it
unfoldable pub each_in_use : Statement → List ℕ
each_in_use s = flat_map placed_part s.packets ++ flat_map desk_part s.desks ++ flat_map held_circle s.held

-- what is in use, as sums
unfoldable pub sums_in_use : Statement → List ℕ
sums_in_use s =
    sum_box (codes "packets") (codes "packets") (length s.packets)
    ++ sum_box (codes "desks") (codes "packets on desks") (length s.desks)
    ++ sum_box (codes "held") (codes "held elements") (length s.held)

-- all places
unfoldable pub places_text : Bool → Statement → List ℕ
places_text shown s =
    stack_box shown s.common ++ cache_boxes shown 1 s.caches
    ++ (if shown then each_in_use s else sums_in_use s)

-- the picture: of a pool of few elements each is shown, of a larger one how many are where
unfoldable pub dot_of : Statement → List ℕ
dot_of s =
    codes "digraph pool {\n  rankdir=LR;\n  node [shape=box, fontname=\"monospace\"];\n"
    ++ places_text (nat_le s.population most_shown) s ++ codes "}\n"
