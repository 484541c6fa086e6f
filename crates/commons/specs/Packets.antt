-- What a packet is, and what it holds.
use Rattle.std.specs.Prelude.{ℕ, ◌≤◌, ◌+◌, List, [], ◌∷◌, ◌++◌, All, Option, Some, None, length, map, flat_map, sum_by}
use Rattle.commons.specs.Bag.{bag}
use Rattle.commons.specs.declared.packet.Seg.{Seg}

-- stands for a segment where there is none
abbrev pub no_seg : Seg
no_seg = record { elem = 0; base = None; data_off = 0; data_len = 0; buf_len = 0 }

-- the data of the segment is within its buffer
abbrev pub HasItsData : Seg → Type 0
HasItsData seg = seg.data_off + seg.data_len ≤ seg.buf_len

-- the most segments of a packet
abbrev pub max_segs : ℕ
max_segs = 32

-- one to the most segments, each with its data within its buffer
pub record IsPacket (segs : List Seg) : Type 0 where
  pub some : 1 ≤ length segs
  pub few : length segs ≤ max_segs
  pub each : All HasItsData segs

-- one hold of an element, where there is an element
abbrev pub hold_of : Option ℕ → List ℕ
hold_of None = []
hold_of (Some e) = e ∷ []

-- the holds of a segment: of its base, where it has one, and of its own element
abbrev pub holds_of_seg : Seg → List ℕ
holds_of_seg seg = hold_of seg.base ++ seg.elem ∷ []

-- the holds of a packet, in the order in which they end
abbrev pub holds_of_packet : List Seg → List ℕ
holds_of_packet segs = flat_map holds_of_seg segs

-- the own elements of a packet
abbrev pub own_of_packet : List Seg → List ℕ
own_of_packet segs = map (λ seg. seg.elem) segs

-- how many bytes of data the packet has
abbrev pub pkt_len : List Seg → ℕ
pkt_len segs = sum_by (λ seg. seg.data_len) segs

-- the holds of what is in a slot
abbrev pub holds_in_slot : Option (List Seg) → List ℕ
holds_in_slot None = []
holds_in_slot (Some segs) = holds_of_packet segs

-- the own elements of what is in a slot
abbrev pub own_in_slot : Option (List Seg) → List ℕ
own_in_slot None = []
own_in_slot (Some segs) = own_of_packet segs

-- how often the packets of a table, of slots or of desks, hold an element
abbrev pub held_in : List (Option (List Seg)) → ℕ → ℕ
held_in table i = sum_by (λ slot. bag (holds_in_slot slot) i) table

-- how often it is an own element of one of their segments
abbrev pub own_in : List (Option (List Seg)) → ℕ → ℕ
own_in table i = sum_by (λ slot. bag (own_in_slot slot) i) table
