use Rattle.std.proofs.Common.{◌∷◌, [], arith}
use Rattle.commons.specs.Packets.{hold_of}
use Rattle.commons.proofs.Bags.{one-same}
use Rattle.commons.proofs.EndedRows.{ended-append}
use Rattle.commons.proofs.PacketBags.{bag-seg}
use Rattle.commons.proofs.passing.end_seg.Goals as goal

pub end_base-requires-clause-held : goal.end_base-requires-clause-held
end_base-requires-clause-held c = λ i. omega (arith, c.requires.held i, bag-seg c.args.seg i)

-- base and own element are held together, so with the base's hold gone the element's is left
pub end_hold-requires-clause-held : goal.end_hold-requires-clause-held
end_hold-requires-clause-held c =
    let e = c.args.seg.elem in
    omega (arith, c.requires.held e, c.end_base.ensures.holds e, bag-seg c.args.seg e, one-same e)

-- the base's hold ended first and the own element's then: together, those of the segment
pub returns : goal.returns
returns c =
    ended-append c.args.worker (hold_of c.args.seg.base) (c.args.seg.elem ∷ []) c.args.row.now
    c.end_base.new.row c.end_hold.new.row c.args.headers.now.items c.end_base.new.headers.items
    c.end_hold.new.headers.items
    c.end_base.ensures c.end_hold.ensures
