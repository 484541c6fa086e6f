use Rattle.std.proofs.Common.{◌≡◌, ◌++◌, ◌+◌, drop}
use Rattle.pool_picture.specs.Picture.{cache_boxes}
use Rattle.pool_picture.proofs.boxes.write_caches.Given as goal

-- what was written, and what is left to write
abbrev pub invariant-loop-index : goal.invariant-loop-index
invariant-loop-index l =
    l.out.items ++ cache_boxes l.shown (l.index + 1) (drop l.index l.caches)
    ≡ l.fn.out.items ++ cache_boxes l.shown 1 l.caches
