-- What was copied of a second pool is what it leaves, and what stands there are packets.
use Rattle.book.proofs.copies.second_snapshot.Goals as goal

-- packets are there, whosever their bases
pub returns-clause-typed : goal.returns-clause-typed
returns-clause-typed c =
    let typed = rw c.second.ensures at c.in_ok-snapshot.ensures.typed in
    record { packets = typed.packets; places = typed.places; few = typed.few }
