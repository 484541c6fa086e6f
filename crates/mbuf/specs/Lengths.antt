-- How calls change the lengths of a packet.
use Rattle.std.specs.Prelude.{ℕ, ◌+◌, ◌-◌, nat_le, if◌then◌else◌, List, length, slice_index_or, slice_set, Option, Some, None}
use Rattle.commons.specs.Packets.{no_seg}
use Rattle.commons.specs.declared.packet.Seg.{Seg}

-- n bytes more at the segment's end, where its tailroom has them
abbrev pub grown_behind : ℕ → Seg → Option Seg
grown_behind n seg =
    if nat_le n (seg.buf_len - seg.data_off - seg.data_len)
    then Some (record seg { data_len = seg.data_len + n })
    else None

-- n bytes more in front of its data, where there are that many
abbrev pub grown_in_front : ℕ → Seg → Option Seg
grown_in_front n seg =
    if nat_le n seg.data_off
    then Some (record seg { data_off = seg.data_off - n; data_len = seg.data_len + n })
    else None

-- n bytes fewer at the front of its data, where it has that many
abbrev pub cut_in_front : ℕ → Seg → Option Seg
cut_in_front n seg =
    if nat_le n seg.data_len
    then Some (record seg { data_off = seg.data_off + n; data_len = seg.data_len - n })
    else None

-- n bytes fewer at their end
abbrev pub cut_behind : ℕ → Seg → Option Seg
cut_behind n seg =
    if nat_le n seg.data_len
    then Some (record seg { data_len = seg.data_len - n })
    else None

-- a packet with another segment at this place, if there is one
abbrev pub with_seg : ℕ → List Seg → Option Seg → Option (List Seg)
with_seg index segs None = None
with_seg index segs (Some seg) = Some (slice_set segs index seg)

-- a packet once its first segment is changed
abbrev pub at_first : (Seg → Option Seg) → List Seg → Option (List Seg)
at_first change segs = with_seg 0 segs (change (slice_index_or segs 0 no_seg))

-- a packet once its last segment is
abbrev pub at_last : (Seg → Option Seg) → List Seg → Option (List Seg)
at_last change segs =
    with_seg (length segs - 1) segs (change (slice_index_or segs (length segs - 1) no_seg))

-- append, prepend, adj and trim of n bytes
abbrev pub appended : ℕ → List Seg → Option (List Seg)
appended n segs = at_last (grown_behind n) segs

abbrev pub prepended : ℕ → List Seg → Option (List Seg)
prepended n segs = at_first (grown_in_front n) segs

abbrev pub adjusted : ℕ → List Seg → Option (List Seg)
adjusted n segs = at_first (cut_in_front n) segs

abbrev pub trimmed : ℕ → List Seg → Option (List Seg)
trimmed n segs = at_last (cut_behind n) segs
