use Rattle.std.proofs.Common.{◌≡◌, ◌++◌, take}
use Rattle.std.specs.List.{flat_map}
use Rattle.pool_picture.specs.Picture.{placed_part}
use Rattle.pool_picture.proofs.packets.write_packets.Given as goal

abbrev pub invariant-loop-packet : goal.invariant-loop-packet
invariant-loop-packet l =
    l.out.items ≡ l.fn.out.items ++ flat_map placed_part (take l.packet-index l.packets)
