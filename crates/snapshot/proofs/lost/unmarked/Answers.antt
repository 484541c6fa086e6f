use Rattle.snapshot.proofs.Marks.{unmarked-more, unmarked-same}
use Rattle.snapshot.proofs.lost.unmarked.Goals as goal
use Rattle.snapshot.proofs.lost.unmarked.Goals.{then-not-is_met+in_ok-push, else-not-is_met}

-- an element more, which is listed where it has no mark
pub loop-elem-preserved : goal.loop-elem-preserved
loop-elem-preserved c =
    elim c.if-not-is_met.branch [
      | then-not-is_met+in_ok-push w ↦
          rw (w.elems-is, w.in_ok-push.ensures.items) (unmarked-more c.args.met.now c.loop-elem.elem
          c.loop-elem.elems.items c.loop-elem.invariant w.if-not-is_met.true)
      | else-not-is_met w ↦
          rw w.elems-is (unmarked-same c.args.met.now c.loop-elem.elem c.loop-elem.elems.items c.loop-elem.invariant
          w.if-not-is_met.false)
    ]
