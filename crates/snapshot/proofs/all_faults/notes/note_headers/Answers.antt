use Rattle.std.proofs.Common.{arith}
use Rattle.snapshot.specs.declared.fault.Fault.TheVariants.{DoubleHeader}
use Rattle.snapshot.specs.inside.Notes.{IsRepeated}
use Rattle.snapshot.proofs.Notes.{each-more, each-none, each-same}
use Rattle.snapshot.proofs.all_faults.notes.note_headers.Goals as goal
use Rattle.snapshot.proofs.all_faults.notes.note_headers.Goals.{then-times-gt1+in_ok-push, else-times-gt1}

-- no element was looked at yet
pub loop-elem-init : goal.loop-elem-init
loop-elem-init c = each-none DoubleHeader (IsRepeated c.args.own.now) c.args.faults.now.items

-- one element more, whose fault is added where it has one
pub loop-elem-preserved : goal.loop-elem-preserved
loop-elem-preserved c =
    let old = c.args.faults.now.items in
    let cur = c.loop-elem.faults.items in
    let elem = c.loop-elem.elem in
    let wrong = IsRepeated c.args.own.now in
    elim c.if-times-gt1.branch [
      | then-times-gt1+in_ok-push w ↦
          rw (w.faults-is, w.in_ok-push.ensures.items)
          (each-more DoubleHeader wrong elem old cur c.loop-elem.invariant w.if-times-gt1.true)
      | else-times-gt1 w ↦
          rw w.faults-is
          (each-same DoubleHeader wrong elem old cur c.loop-elem.invariant
          (λ twice. omega (arith, twice, w.if-times-gt1.false)))
    ]
