use Rattle.snapshot.specs.inside.Marks.{AreUnmarked}
use Rattle.snapshot.proofs.lost.unmarked.Given as goal

-- the elements so far that have no mark
abbrev pub invariant-loop-elem : goal.invariant-loop-elem
invariant-loop-elem l = AreUnmarked l.met l.elem l.elems.items
