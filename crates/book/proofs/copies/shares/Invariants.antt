use Rattle.std.proofs.Common.{◌≡◌, map, take}
use Rattle.book.specs.Books.{shares_in}
use Rattle.snapshot.specs.Closing.{share_of}
use Rattle.snapshot.specs.inside.Checked.{HavePackets}
use Rattle.book.proofs.copies.shares.Given as goal

-- the shares in the places so far, and packets alone in their slots
abbrev pub invariant-loop-place : goal.invariant-loop-place
invariant-loop-place l =
    (l.shares.items ≡ map share_of (shares_in (take l.place-index l.places)))
    × HavePackets l.shares.items
