use Rattle.std.proofs.Common.{◌≡◌, ◌++◌, take}
use Rattle.std.specs.List.{flat_map}
use Rattle.pool_picture.specs.Picture.{desk_part}
use Rattle.pool_picture.proofs.packets.write_desks.Given as goal

abbrev pub invariant-loop-desk : goal.invariant-loop-desk
invariant-loop-desk l =
    l.out.items ≡ l.fn.out.items ++ flat_map desk_part (take l.desk-index l.desks)
