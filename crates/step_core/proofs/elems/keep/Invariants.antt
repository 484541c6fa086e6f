use Rattle.std.proofs.lemmas.List.Filters.{FiltersInPlace}
use Rattle.step_core.specs.Bags.{has}
use Rattle.step_core.proofs.elems.keep.Given as goal

-- what is among the holds so far stands at the front, and the rest is as it was
abbrev pub invariant-loop-i : goal.invariant-loop-i
invariant-loop-i l = FiltersInPlace (has l.holds) l.fn.items.items l.items.items l.kept l.i
