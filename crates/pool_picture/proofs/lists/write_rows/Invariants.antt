use Rattle.std.proofs.Common.{◌≡◌, ◌++◌, ◌+◌, drop}
use Rattle.pool_picture.specs.Picture.{rows_text}
use Rattle.pool_picture.proofs.lists.write_rows.Given as goal

-- what was written, and what is left to write
abbrev pub invariant-loop-index : goal.invariant-loop-index
invariant-loop-index l =
    l.out.items ++ rows_text l.index (drop l.index l.elements)
    ≡ l.fn.out.items ++ rows_text 0 l.elements
