use Rattle.snapshot.specs.declared.fault.Fault.TheVariants.{Doubled}
use Rattle.snapshot.specs.inside.Notes.{AddsBelow, IsDouble}
use Rattle.snapshot.proofs.all_faults.notes.note_doubled.Given as goal

-- the faults of the elements so far were added
abbrev pub invariant-loop-elem : goal.invariant-loop-elem
invariant-loop-elem l = AddsBelow l.elem Doubled (IsDouble l.ends l.free l.held) l.fn.faults.items l.faults.items
