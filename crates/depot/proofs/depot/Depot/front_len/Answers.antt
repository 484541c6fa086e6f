use Rattle.std.proofs.Common.{ap, sym}
use Rattle.depot.specs.Racks.{Rows}
use Rattle.depot.proofs.depot.Depot.front_len.Goals as goal

-- nothing was written through the borrow
pub returns-clause-same : goal.returns-clause-same
returns-clause-same c =
    let s = c.args.seat.now in
    ap (λ (ms : Rows). record { marker = s.marker; table_id = s.table_id; id = s.id; me = (s.me.0, ms) })
    (sym c.slot_mut-front.ensures.value)
