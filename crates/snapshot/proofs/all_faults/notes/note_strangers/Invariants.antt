use Rattle.std.proofs.Common.{◌≡◌, ◌++◌, map, take}
use Rattle.snapshot.specs.declared.fault.Fault.TheVariants.{BadElem}
use Rattle.snapshot.proofs.all_faults.notes.note_strangers.Given as goal

-- the faults of the elements so far were added
abbrev pub invariant-loop-elem : goal.invariant-loop-elem
invariant-loop-elem l = l.faults.items ≡ l.fn.faults.items ++ map BadElem (take l.elem-index l.elem-items)
