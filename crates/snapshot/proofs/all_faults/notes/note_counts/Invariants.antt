use Rattle.std.specs.Prelude.{slice_index}
use Rattle.snapshot.specs.declared.fault.Fault.TheVariants.{BadCount}
use Rattle.snapshot.specs.inside.Notes.{AddsBelow, IsMiscounted}
use Rattle.snapshot.proofs.all_faults.notes.note_counts.Given as goal

-- the faults of the elements so far were added
abbrev pub invariant-loop-elem : goal.invariant-loop-elem
invariant-loop-elem l =
    AddsBelow l.elem (λ e. BadCount e (slice_index l.counts e) (slice_index l.held e)) (IsMiscounted l.counts l.held)
    l.fn.faults.items l.faults.items
