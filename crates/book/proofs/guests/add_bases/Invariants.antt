use Rattle.std.proofs.Common.{◌≡◌, ◌+◌, ◌≤◌, ◌++◌, length, take}
use Rattle.pool_model.specs.Guests.{guests_for}
use Rattle.book.proofs.guests.add_bases.Given as goal

-- the guests for the segments so far are added, one for each at most
abbrev pub invariant-loop-seg : goal.invariant-loop-seg
invariant-loop-seg l = record {
  more : l.guests.items ≡ l.fn.guests.items ++ guests_for l.worker (take l.seg-index l.segs);
  few : length l.guests.items ≤ length l.fn.guests.items + l.seg-index;
}
