use Rattle.snapshot.specs.declared.fault.Fault.TheVariants.{DoubleHeader}
use Rattle.snapshot.specs.inside.Notes.{AddsBelow, IsRepeated}
use Rattle.snapshot.proofs.all_faults.notes.note_headers.Given as goal

-- the faults of the elements so far were added
abbrev pub invariant-loop-elem : goal.invariant-loop-elem
invariant-loop-elem l = AddsBelow l.elem DoubleHeader (IsRepeated l.own) l.fn.faults.items l.faults.items
