use Rattle.std.proofs.Common.{sym, ◌∙◌}
use Rattle.snapshot.specs.declared.fault.Fault.TheVariants.{Doubled}
use Rattle.snapshot.specs.inside.Notes.{IsDouble}
use Rattle.snapshot.proofs.Notes.{each-more, each-none, each-same, never}
use Rattle.snapshot.proofs.all_faults.notes.note_doubled.Goals as goal
use Rattle.snapshot.proofs.all_faults.notes.note_doubled.Goals.{then-is_double+in_ok-push, else-is_double}

-- no element was looked at yet
pub loop-elem-init : goal.loop-elem-init
loop-elem-init c = each-none Doubled (IsDouble c.args.ends c.args.free.now c.args.held.now) c.args.faults.now.items

-- one element more, whose fault is added where it has one
pub loop-elem-preserved : goal.loop-elem-preserved
loop-elem-preserved c =
    let old = c.args.faults.now.items in
    let cur = c.loop-elem.faults.items in
    let elem = c.loop-elem.elem in
    let wrong = IsDouble c.args.ends c.args.free.now c.args.held.now in
    elim c.if-is_double.branch [
      | then-is_double+in_ok-push w ↦
          rw (w.faults-is, w.in_ok-push.ensures.items)
          (each-more Doubled wrong elem old cur c.loop-elem.invariant
          (c.is_double.ensures.0 w.if-is_double.true))
      | else-is_double w ↦
          rw w.faults-is
          (each-same Doubled wrong elem old cur c.loop-elem.invariant
          (λ is. never (sym w.if-is_double.false ∙ c.is_double.ensures.1 is)))
    ]
