-- What C is told of a segment.
use Rattle.std.specs.Prelude.{◌≡◌, ℕ, nat_lt, cond, List, length, Option, Some, None, Result, Ok, Err, slice_index_or}
use Rattle.commons.specs.declared.packet.Seg.{Seg}
use Rattle.commons.specs.declared.refusal.Refusal.{Refusal}
use Rattle.commons.specs.declared.refusal.Refusal.TheVariants.{NoSuchPacket, StrangerShare, TooShort}
use Rattle.commons.specs.Packets.{no_seg}
use Rattle.commons.specs.Refusals.{number_of}
use Rattle.mbufpool_c.specs.Labelled.{Labelled}
use Rattle.mbufpool_c.specs.Labels.{slot_in}
use Rattle.mbufpool_c.specs.declared.packets.Segment.{Segment}

-- the segment at this place of what is in a slot
abbrev pub seg_at : Option (List Seg) → ℕ → Result Seg Refusal
seg_at None index = Err NoSuchPacket
seg_at (Some segs) index = cond (nat_lt index (length segs)) (Ok (slice_index_or segs index no_seg)) (Err TooShort)

-- the element whose buffer has the data of a segment with this own element and this base
abbrev pub buffer_of : ℕ → Option ℕ → ℕ
buffer_of elem None = elem
buffer_of elem (Some base) = base

abbrev pub segment_of : Seg → Segment
segment_of s = record {
  element = s.elem;
  buffer = buffer_of s.elem s.base;
  off = s.data_off;
  len = s.data_len;
  buf = s.buf_len;
}

-- C has the segment, or the status says why not, and what was there stays
abbrev pub GivesSegment : Result Seg Refusal → ℕ → Segment → Segment → Type 0
GivesSegment (Ok seg) status was out = (status ≡ 0) × (out ≡ segment_of seg)
GivesSegment (Err cause) status was out = (status ≡ number_of cause) × (out ≡ was)

-- and so of the worker of a handle, in the slot that the number stands for
abbrev pub ShowsSegment : Option Labelled → ℕ → ℕ → ℕ → Segment → Segment → Type 0
ShowsSegment None number index status was out = (status ≡ number_of StrangerShare) × (out ≡ was)
ShowsSegment (Some m) number index status was out =
    GivesSegment (seg_at (slice_index_or m.worker.member.table (slot_in m.labels number) None) index) status was out
