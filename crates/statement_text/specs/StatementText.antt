-- The text of a statement, line by line.
use Rattle.std.specs.Prelude.{ℕ, ◌+◌, List, [], ◌∷◌, ◌++◌, Option, None, Some, length, codes, decimal}
use Rattle.std.specs.List.{flat_map}
use Rattle.commons.specs.Packets.{pkt_len}
use Rattle.commons.specs.declared.packet.Seg.{Seg}
use Rattle.element_text.specs.Elements.{base_text, elements_text, joined}
use Rattle.pool_statement.specs.declared.statement.Holder.{Holder}
use Rattle.pool_statement.specs.declared.statement.Holder.TheVariants.{Worker, Desk}
use Rattle.pool_statement.specs.declared.statement.Held.{Held}
use Rattle.pool_statement.specs.declared.statement.PlacedPacket.{PlacedPacket}
use Rattle.pool_statement.specs.declared.statement.DeskPacket.{DeskPacket}
use Rattle.pool_statement.specs.declared.settled.Settled.{Settled}
use Rattle.pool_statement.specs.declared.statement.Statement.{Statement}

-- a segment: its element and base, where its data begins, how long it is, and how long the buffer
-- is
unfoldable pub segment_text : Seg → List ℕ
segment_text seg =
    decimal seg.elem ++ base_text seg.base ++ codes "@" ++ decimal seg.data_off
    ++ codes "+" ++ decimal seg.data_len ++ codes "/" ++ decimal seg.buf_len

-- the segments of a packet, after how many they are and the length of their data
unfoldable pub segments_text : List Seg → List ℕ
segments_text segs =
    codes " segs " ++ decimal (length segs)
    ++ codes " len " ++ decimal (pkt_len segs)
    ++ codes ":" ++ joined segment_text segs ++ codes "\n"

-- a line of what is counted and how many there are
unfoldable pub total_line : List ℕ → ℕ → List ℕ
total_line name count = name ++ codes " " ++ decimal count ++ codes "\n"

-- the population, how many elements are available, and how many are in use
unfoldable pub totals_text : Statement → List ℕ
totals_text s =
    total_line (codes "population") s.population ++ total_line (codes "available") s.available
    ++ total_line (codes "in use") s.in_use

-- a worker's cache
unfoldable pub cache_text : ℕ → List ℕ → List ℕ
cache_text worker cache = codes "cache " ++ decimal worker ++ elements_text cache

-- a line for each cache, of the workers from this one on
abbrev pub caches_text : ℕ → List (List ℕ) → List ℕ
caches_text worker [] = []
caches_text worker (cache ∷ more) = cache_text worker cache ++ caches_text (worker + 1) more

-- a worker's packet: its worker, slot and segments
unfoldable pub packet_text : PlacedPacket → List ℕ
packet_text p =
    codes "packet " ++ decimal p.worker ++ codes " " ++ decimal p.slot ++ segments_text p.segs

-- a packet on a desk: its desk and segments
unfoldable pub desk_text : DeskPacket → List ℕ
desk_text d = codes "desk " ++ decimal d.desk ++ segments_text d.segs

-- a worker by its number, a desk by a `d` and its number
unfoldable pub holder_text : Holder → List ℕ
holder_text (Worker number) = decimal number
holder_text (Desk number) = codes "d" ++ decimal number

-- a held element: its count and its holders
unfoldable pub held_text : Held → List ℕ
held_text h =
    codes "held " ++ decimal h.elem ++ codes " count " ++ decimal h.count ++ codes ":"
    ++ joined holder_text h.holders ++ codes "\n"

-- the whole statement
unfoldable pub text_of : Statement → List ℕ
text_of s =
    totals_text s ++ codes "common" ++ elements_text s.common ++ caches_text 1 s.caches
    ++ flat_map packet_text s.packets ++ flat_map desk_text s.desks ++ flat_map held_text s.held

-- that of a second pool, after its line
unfoldable pub second_text : Statement → List ℕ
second_text s = codes "second\n" ++ text_of s

-- what a script's pools come to
abbrev pub text_with : Statement → Option Statement → List ℕ
text_with first None = text_of first
text_with first (Some second) = text_of first ++ second_text second

abbrev pub text_of_settled : Settled → List ℕ
text_of_settled s = text_with s.first s.second
