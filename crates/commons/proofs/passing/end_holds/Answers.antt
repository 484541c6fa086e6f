use Rattle.std.proofs.Common.{◌+◌, List, ℕ, take, get_or, subst, sym, arith}
use Rattle.commons.specs.Packets.{no_seg, holds_of_seg, holds_of_packet}
use Rattle.commons.specs.inside.Site.{HasEnded}
use Rattle.commons.proofs.PacketBags.{bag-holds_suc, holds-suc, holds_so_far}
use Rattle.commons.proofs.EndedRows.{ended-none, ended-append}
use Rattle.commons.proofs.passing.end_holds.Goals as goal

pub loop-seg-init : goal.loop-seg-init
loop-seg-init c = ended-none c.args.worker c.args.row.now c.args.headers.now.items

-- the holds that ended so far are the earlier segments', so those of the next one are still there
pub end_seg-requires-clause-held : goal.end_seg-requires-clause-held
end_seg-requires-clause-held c = λ i.
    let k = c.loop-seg.seg-index in
    let segs = c.args.segs.now in
    omega (
      arith,
      c.requires.held i,
      c.loop-seg.invariant.holds i,
      bag-holds_suc segs k i no_seg c.loop-seg-test.true,
      holds_so_far segs (k + 1) i,
    )

-- the earlier segments' holds ended, then this one's: those of one segment more
pub loop-seg-preserved : goal.loop-seg-preserved
loop-seg-preserved c =
    let k = c.loop-seg.seg-index in
    let segs = c.args.segs.now in
    subst (λ (es : List ℕ). HasEnded c.args.worker es c.args.row.now c.args.headers.now.items
    c.end_seg.new.row c.end_seg.new.headers.items)
    (sym (holds-suc segs k no_seg c.loop-seg-test.true))
    (ended-append c.args.worker (holds_of_packet (take k segs))
    (holds_of_seg (get_or segs k no_seg)) c.args.row.now c.loop-seg.row c.end_seg.new.row
    c.args.headers.now.items c.loop-seg.headers.items c.end_seg.new.headers.items
    c.loop-seg.invariant c.end_seg.ensures)
