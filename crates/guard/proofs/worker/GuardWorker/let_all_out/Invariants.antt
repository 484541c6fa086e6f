use Rattle.std.proofs.Common.{◌≡◌, ℕ, ◌+◌, ◌%◌, ◌^◌, ◌<◌, ◌≤◌}
use Rattle.depot.specs.Seats.{lent}
use Rattle.guard.specs.Between.{Body}
use Rattle.guard.specs.Guards.{Marked, count_of}
use Rattle.guard.proofs.worker.GuardWorker.let_all_out.Given as goal

-- what was let out is marked, and counted off, and what wasn't yet is outside of the magazines
abbrev pub invariant-loop-element : goal.invariant-loop-element
invariant-loop-element l =
    Body l.fn.depot l.self
    × ((i : ℕ) → i < l.element → lent l.self.rack.seat.me i ≡ 0)
    × ((i : ℕ) → l.element ≤ i → i < l.fn.population → lent l.self.rack.seat.me i ≡ 1)
    × ((i : ℕ) → l.fn.population ≤ i → lent l.self.rack.seat.me i ≡ 0)
    × ((i : ℕ) → i < l.element → Marked l.self i)
    × ((count_of l.self + l.element) % 2 ^ 64 ≡ 0)
