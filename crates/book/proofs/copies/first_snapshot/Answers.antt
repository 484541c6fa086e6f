-- What was copied of a first pool is what it leaves, and what stands there are packets.
use Rattle.std.proofs.Common.{arith}
use Rattle.book.proofs.copies.first_snapshot.Goals as goal

-- packets are there as without the guests, and these were counted
pub returns-clause-typed : goal.returns-clause-typed
returns-clause-typed c =
    let b = c.args.book.now in
    let typed = rw c.first.ensures at c.in_ok-snapshot.ensures.typed in
    let few = rw (c.in_ok-guests.ensures.same, c.places.ensures, c.second-2.ensures) at c.in_ok-guests.ensures.few in
    let workers = rw c.second.ensures at c.fits_its_limits.ensures.workers in record {
      packets = typed.packets;
      places = typed.places;
      few = omega (arith, few, workers, c.is_filled_alike.ensures.workers);
    }
