use Rattle.std.proofs.Common.{[], ◌∷◌, sym, subst, arith}
use Rattle.commons.specs.Packets.{IsPacket}
use Rattle.mbufpool_c.proofs.ParcelLemmas.{read_data, whole_packet}
use Rattle.mbufpool_c.proofs.parcels.receive_one.Goals as goal

-- the bytes are a packet's, whose data is in its buffer
pub unreachable-requires : goal.unreachable-requires
unreachable-requires c =
    let only = c.args.only ∷ [] in
    let whole = whole_packet c.args.own.now.worker c.args.parcel.now only c.requires.whole c.requires.some in
    let way = whole.1 in
    c.in-None.ensures (read_data only 0 c.args.only (omega arith) (subst IsPacket (sym whole.2) way.packet))
