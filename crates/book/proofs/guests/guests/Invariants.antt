use Rattle.std.proofs.Common.{◌≡◌, ◌*◌, ◌≤◌, length, take}
use Rattle.std.specs.Prelude.{flat_map}
use Rattle.snapshot.specs.Snapshots.{most_guests}
use Rattle.book.specs.Books.{shares_in}
use Rattle.pool_model.specs.Guests.{guests_by}
use Rattle.book.proofs.guests.guests.Given as goal

-- the guests of the shares in the places so far, for each no more than a table may have bases
abbrev pub invariant-loop-place : goal.invariant-loop-place
invariant-loop-place l = record {
  same : l.guests.items ≡ flat_map guests_by (shares_in (take l.place-index l.places));
  few : length l.guests.items ≤ l.place-index * most_guests;
}
