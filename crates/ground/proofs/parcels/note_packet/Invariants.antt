use Rattle.std.proofs.Common.{◌≡◌, take}
use Rattle.ground.specs.Parting.{parcel_of, with_parcel}
use Rattle.ground.proofs.parcels.note_packet.Given as goal

-- the segments so far are noted, and nothing else has changed
abbrev pub invariant-loop-seg : goal.invariant-loop-seg
invariant-loop-seg l = record {
  table : l.seat.table_id ≡ l.fn.seat.table_id;
  id : l.seat.id ≡ l.fn.seat.id;
  me : l.seat.me ≡ with_parcel (parcel_of (take l.seg-index l.segs)) l.fn.seat.me;
}
