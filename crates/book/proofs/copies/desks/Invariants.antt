use Rattle.std.proofs.Common.{◌≡◌, take}
use Rattle.snapshot.specs.inside.Checked.{HasPackets}
use Rattle.book.proofs.copies.desks.Given as goal

-- the desks so far, and packets alone on them
abbrev pub invariant-loop-place : goal.invariant-loop-place
invariant-loop-place l = (l.desks.items ≡ take l.place-index l.places) × HasPackets l.desks.items
