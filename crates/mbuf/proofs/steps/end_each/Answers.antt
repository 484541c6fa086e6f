use Rattle.std.proofs.Common.{◌+◌, arith}
use Rattle.std.proofs.lemmas.List.{take_all}
use Rattle.commons.specs.Packets.{no_seg}
use Rattle.commons.proofs.PacketBags.{holds-suc, bag-holds_suc, holds_so_far}
use Rattle.mbuf.specs.PacketRules.{freed_nothing}
use Rattle.mbuf.proofs.EndLemmas.{both_ended, ended_within, none_ended}
use Rattle.mbuf.proofs.steps.end_each.Goals as goal

-- At first no hold has ended.
pub loop-seg-init : goal.loop-seg-init
loop-seg-init g c =
    none_ended g.C.Commons.did g.C.Commons.side c.args.worker.now c.args.c.now freed_nothing 0 c.requires.hand
    (omega arith) (omega arith)

-- The next segment's holds are among those that haven't ended yet.
pub end_seg-freed-requires-clause-held : goal.end_seg-freed-requires-clause-held
end_seg-freed-requires-clause-held g c = λ i.
    let k = c.loop-seg.seg-index in
    let segs = c.args.segs.now in
    omega (
      arith,
      c.requires.held i,
      c.loop-seg.invariant.lost.holds i,
      bag-holds_suc segs k i no_seg c.loop-seg-test.true,
      holds_so_far segs (k + 1) i,
    )

-- The holds so far and then the next segment's have ended, in this order.
pub loop-seg-preserved : goal.loop-seg-preserved
loop-seg-preserved g c =
    let so_far = c.loop-seg.invariant in
    let next = c.end_seg-freed.ensures in
    rw (holds-suc c.args.segs.now c.loop-seg.seg-index no_seg c.loop-seg-test.true)
    (ended_within _ (omega (arith, so_far.back, next.back)) (both_ended so_far next))

-- The holds of all segments have ended.
pub returns : goal.returns
returns g c =
    let done = c.loop-seg.invariant in
    let all = take_all c.loop-seg.seg-index c.args.segs.now c.loop-seg-test.false in
    ended_within _ (omega (arith, done.back, c.loop-seg.auto.seg-index-end)) (rw all at done)
