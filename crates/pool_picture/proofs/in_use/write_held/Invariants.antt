use Rattle.std.proofs.Common.{◌≡◌, ◌++◌, take}
use Rattle.std.specs.List.{flat_map}
use Rattle.pool_picture.specs.Picture.{held_circle}
use Rattle.pool_picture.proofs.in_use.write_held.Given as goal

abbrev pub invariant-loop-element : goal.invariant-loop-element
invariant-loop-element l =
    l.out.items ≡ l.fn.out.items ++ flat_map held_circle (take l.element-index l.held)
