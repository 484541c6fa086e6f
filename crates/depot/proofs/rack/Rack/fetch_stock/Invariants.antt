use Rattle.std.proofs.Common.{◌≡◌, ◌-◌}
use Rattle.depot.specs.Racks.{Racked, SameLent, stock}
use Rattle.depot.specs.Seats.{Logs}
use Rattle.depot.proofs.rack.Rack.fetch_stock.Given as goal

-- some magazines have come
abbrev pub invariant-loop-stock : goal.invariant-loop-stock
invariant-loop-stock l =
    Racked l.fn.depot l.self × Logs l.fn.self.seat.me.0 l.self.seat.me.0 × SameLent l.fn.self.seat.me l.self.seat.me
    × (l.stock ≡ stock l.self.seat.me.1)

-- how much is missing
abbrev pub decreases-loop-stock : goal.decreases-loop-stock
decreases-loop-stock l = l.n - l.stock
