use Rattle.std.proofs.Common.{◌≡◌, ◌++◌, take}
use Rattle.std.specs.List.{flat_map}
use Rattle.pool_picture.specs.Picture.{seg_arrows}
use Rattle.pool_picture.proofs.packets.write_arrows.Given as goal

abbrev pub invariant-loop-seg : goal.invariant-loop-seg
invariant-loop-seg l =
    l.out.items ≡ l.fn.out.items ++ flat_map (seg_arrows l.owner) (take l.seg-index l.segs)
