use Rattle.std.proofs.Common.{sym, ◌∙◌}
use Rattle.std.specs.Prelude.{slice_index}
use Rattle.snapshot.specs.declared.fault.Fault.TheVariants.{BadCount}
use Rattle.snapshot.specs.inside.Notes.{IsMiscounted}
use Rattle.snapshot.proofs.Notes.{each-more, each-none, each-same, never}
use Rattle.snapshot.proofs.all_faults.notes.note_counts.Goals as goal
use Rattle.snapshot.proofs.all_faults.notes.note_counts.Goals.{then-is_miscounted+in_ok-push, else-is_miscounted}

-- no element was looked at yet
pub loop-elem-init : goal.loop-elem-init
loop-elem-init c = each-none (λ e. BadCount e (slice_index c.args.counts.now e) (slice_index c.args.held.now e)) (IsMiscounted c.args.counts.now c.args.held.now) c.args.faults.now.items

-- one element more, whose fault is added where it has one
pub loop-elem-preserved : goal.loop-elem-preserved
loop-elem-preserved c =
    let old = c.args.faults.now.items in
    let cur = c.loop-elem.faults.items in
    let elem = c.loop-elem.elem in
    let wrong = IsMiscounted c.args.counts.now c.args.held.now in
    elim c.if-is_miscounted.branch [
      | then-is_miscounted+in_ok-push w ↦
          rw (w.faults-is, w.in_ok-push.ensures.items, w.from.ensures)
          (each-more (λ e. BadCount e (slice_index c.args.counts.now e) (slice_index c.args.held.now e)) wrong elem old cur c.loop-elem.invariant
          (c.is_miscounted.ensures.0 w.if-is_miscounted.true))
      | else-is_miscounted w ↦
          rw w.faults-is
          (each-same (λ e. BadCount e (slice_index c.args.counts.now e) (slice_index c.args.held.now e)) wrong elem old cur c.loop-elem.invariant
          (λ is. never (sym w.if-is_miscounted.false ∙ c.is_miscounted.ensures.1 is)))
    ]
