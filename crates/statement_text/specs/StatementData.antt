-- A statement as JSON.
use Rattle.std.specs.Prelude.{ℕ, ◌<◌, ◌^◌, List, ◌++◌, All, Option, None, Some, map, codes, decimal}
use Rattle.serde_json.specs.Data.{Data, null, number, unsigned, string, array, object, member, no_members}
use Rattle.serde_json.specs.View.{items_of}
use Rattle.serde_json.specs.Written.{compact_text}
use Rattle.commons.specs.declared.packet.Seg.{Seg}
use Rattle.pool_statement.specs.declared.settled.Settled.{Settled}
use Rattle.pool_statement.specs.declared.statement.Statement.{Statement}
use Rattle.pool_statement.specs.declared.statement.DeskPacket.{DeskPacket}
use Rattle.pool_statement.specs.declared.statement.PlacedPacket.{PlacedPacket}
use Rattle.pool_statement.specs.declared.statement.Held.{Held}
use Rattle.pool_statement.specs.declared.statement.Holder.{Holder}
use Rattle.pool_statement.specs.declared.statement.Holder.TheVariants.{Worker, Desk}

-- a number
abbrev pub count_data : ℕ → Data
count_data n = number (unsigned n)

-- numbers, in order
abbrev pub counts_data : List ℕ → Data
counts_data ns = array (items_of (map count_data ns))

-- the base of a segment, where it has one
abbrev pub base_data : Option ℕ → Data
base_data None = null
base_data (Some e) = count_data e

abbrev pub seg_data : Seg → Data
seg_data seg =
    object (member (codes "base") (base_data seg.base)
    (member (codes "buf") (count_data seg.buf_len)
    (member (codes "elem") (count_data seg.elem)
    (member (codes "len") (count_data seg.data_len)
    (member (codes "off") (count_data seg.data_off) no_members)))))

abbrev pub segs_data : List Seg → Data
segs_data segs = array (items_of (map seg_data segs))

abbrev pub packet_data : PlacedPacket → Data
packet_data p =
    object (member (codes "segs") (segs_data p.segs)
    (member (codes "slot") (count_data p.slot)
    (member (codes "worker") (count_data p.worker) no_members)))

abbrev pub desk_data : DeskPacket → Data
desk_data p = object (member (codes "desk") (count_data p.desk) (member (codes "segs") (segs_data p.segs) no_members))

-- a worker as its number, a desk as d and its number
abbrev pub holder_data : Holder → Data
holder_data (Worker n) = string (decimal n)
holder_data (Desk n) = string (codes "d" ++ decimal n)

abbrev pub held_data : Held → Data
held_data h =
    object (member (codes "count") (count_data h.count)
    (member (codes "elem") (count_data h.elem)
    (member (codes "holders") (array (items_of (map holder_data h.holders))) no_members)))

-- a statement, its members ascending by key
abbrev pub statement_data : Statement → Data
statement_data s =
    object (member (codes "available") (count_data s.available)
    (member (codes "caches") (array (items_of (map counts_data s.caches)))
    (member (codes "common") (counts_data s.common)
    (member (codes "desks") (array (items_of (map desk_data s.desks)))
    (member (codes "held") (array (items_of (map held_data s.held)))
    (member (codes "in_use") (count_data s.in_use)
    (member (codes "packets") (array (items_of (map packet_data s.packets)))
    (member (codes "population") (count_data s.population) no_members))))))))

-- its text, with no space
unfoldable pub json_of : Statement → List ℕ
json_of s = compact_text (statement_data s)

-- the text of numbers, in order, with no space
unfoldable pub numbers_of : List ℕ → List ℕ
numbers_of ns = compact_text (counts_data ns)

-- what a script's pools come to: the one statement, or both by name
abbrev pub settled_with : Statement → Option Statement → Data
settled_with first None = statement_data first
settled_with first (Some second) =
    object (member (codes "first") (statement_data first)
    (member (codes "second") (statement_data second) no_members))

abbrev pub settled_data : Settled → Data
settled_data s = settled_with s.first s.second

unfoldable pub json_of_settled : Settled → List ℕ
json_of_settled s = compact_text (settled_data s)

-- the number of a worker or a desk fits a word
abbrev pub IsWord : Holder → Type 0
IsWord (Worker n) = n < 2 ^ 64
IsWord (Desk n) = n < 2 ^ 64

-- those of all holders do, as in every statement that a program has
abbrev pub HasWords : Statement → Type 0
HasWords s = All (λ held. All IsWord held.holders) s.held
