use Rattle.std.proofs.Common.{sym, ◌∙◌}
use Rattle.snapshot.specs.declared.fault.Fault.TheVariants.{Lost}
use Rattle.snapshot.specs.inside.Notes.{IsNowhere}
use Rattle.snapshot.proofs.Notes.{each-more, each-none, each-same, never}
use Rattle.snapshot.proofs.all_faults.notes.note_lost.Goals as goal
use Rattle.snapshot.proofs.all_faults.notes.note_lost.Goals.{then-is_nowhere+in_ok-push, else-is_nowhere}

-- no element was looked at yet
pub loop-elem-init : goal.loop-elem-init
loop-elem-init c = each-none Lost (IsNowhere c.args.ends c.args.free.now c.args.held.now) c.args.faults.now.items

-- one element more, whose fault is added where it has one
pub loop-elem-preserved : goal.loop-elem-preserved
loop-elem-preserved c =
    let old = c.args.faults.now.items in
    let cur = c.loop-elem.faults.items in
    let elem = c.loop-elem.elem in
    let wrong = IsNowhere c.args.ends c.args.free.now c.args.held.now in
    elim c.if-is_nowhere.branch [
      | then-is_nowhere+in_ok-push w ↦
          rw (w.faults-is, w.in_ok-push.ensures.items)
          (each-more Lost wrong elem old cur c.loop-elem.invariant
          (c.is_nowhere.ensures.0 w.if-is_nowhere.true))
      | else-is_nowhere w ↦
          rw w.faults-is
          (each-same Lost wrong elem old cur c.loop-elem.invariant
          (λ is. never (sym w.if-is_nowhere.false ∙ c.is_nowhere.ensures.1 is)))
    ]
