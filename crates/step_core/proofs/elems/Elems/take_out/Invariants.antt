use Rattle.std.proofs.Common.{◌≡◌, take}
use Rattle.commons.specs.Bag.{bag}
use Rattle.step_core.proofs.elems.Elems.take_out.Given as goal

-- the list is as it was, and the element doesn't stand in it so far
abbrev pub invariant-loop-i : goal.invariant-loop-i
invariant-loop-i l = record {
  same : l.self-inside.items ≡ l.initial.self-inside.items;
  none : bag (take l.i l.initial.self-inside.items.items) l.element ≡ 0;
}
