use Rattle.std.proofs.Common.{◌≡◌, take}
use Rattle.step_core.specs.Opening.{links_up}
use Rattle.step_core.proofs.opening.links_up.Given as goal

abbrev pub invariant-loop-i : goal.invariant-loop-i
invariant-loop-i l = l.links.items ≡ take l.i (links_up 0 l.count)
