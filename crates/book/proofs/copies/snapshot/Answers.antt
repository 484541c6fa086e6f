-- What was copied stands in slots or lies on desks, and there are no guests.
use Rattle.std.proofs.Common.{arith}
use Rattle.book.proofs.Shares.{all_slots}
use Rattle.book.proofs.Typed.{numbered_places, packets_there}
use Rattle.book.specs.Settling.{snapshot_with}
use Rattle.book.proofs.copies.snapshot.Goals as goal

-- packets alone were copied, and a book keeps shares with all their slots
pub returns-clause-typed : goal.returns-clause-typed
returns-clause-typed c =
    let b = c.args.book.now in
    let left = snapshot_with b c.args.closed.now in
    let desks = rw c.in_ok-snapshot.ensures.same at c.in_ok-snapshot.ensures.on_desks in
    let slots = rw (c.in_ok-shares.ensures.same, c.places.ensures) at c.in_ok-shares.ensures.packets in
    let full = all_slots b.places (λ n m e. (c.fits_its_limits.ensures.each n m e).slots) in
    record {
      packets = packets_there left desks slots;
      places = numbered_places left.shares full;
      few = omega arith;
    }
