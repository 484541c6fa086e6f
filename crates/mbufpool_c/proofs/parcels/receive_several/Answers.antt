use Rattle.std.proofs.Common.{sym, subst, ◌∙◌}
use Rattle.commons.specs.Packets.{IsPacket}
use Rattle.mbufpool_c.proofs.ParcelLemmas.{whole_packet}
use Rattle.mbufpool_c.proofs.parcels.receive_several.Goals as goal

-- the bytes are the packet's that is under way
pub bring-requires : goal.bring-requires
bring-requires c =
    let whole = whole_packet c.args.own.now.worker c.args.parcel.now c.args.bytes.now c.requires.whole c.requires.some in
    (whole.0, whole.1, c.segs.ensures.segs ∙ c.in-Some.ensures ∙ whole.2)

-- and so a packet's
pub unreachable-requires : goal.unreachable-requires
unreachable-requires c =
    let whole = whole_packet c.args.own.now.worker c.args.parcel.now c.args.bytes.now c.requires.whole c.requires.some in
    let way = whole.1 in
    c.in-None.ensures (subst IsPacket (sym whole.2) way.packet)
