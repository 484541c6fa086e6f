-- The parts of workers, all together; for this crate and its callers.
use Rattle.std.proofs.Common.{ℕ, ◌≡◌, ◌+◌, ◌*◌, List, [], ◌∷◌, length, sym, ap, ◌∙◌, arith}
use Rattle.std.specs.Prelude.{All, map}
use Rattle.std.specs.List.{range_with_len}
use Rattle.std.proofs.lemmas.List.{length-map}
use Rattle.std.proofs.lemmas.List.Elements.{All-head, All-tail, All-weaker}
use Rattle.std.proofs.lemmas.List.FromFn.{length-range_with_len}
use Rattle.std.proofs.lemmas.List.Sums.{sum_by-cons}
use Rattle.commons.specs.declared.limits.Limits.{Limits}
use Rattle.ground.specs.Seats.{Grounded}
use Rattle.mbuf.specs.Members.{Member}
use Rattle.step_core.specs.World.{worker_part}
use Rattle.word_pool.specs.Workers.{WorkerState, AreWorkers, IsAt, IsWorker, members_of, parts_of}

-- the part of the first, and those of the others
pub parts-cons : (m : WorkerState) (ms : List WorkerState) → parts_of (m ∷ ms) ≡ m.seat.known.view.part + parts_of ms
parts-cons m ms = sum_by-cons (λ (x : WorkerState). x.seat.known.view.part) m ms

-- the part of one alone
pub parts_alone : (m : WorkerState) → parts_of (m ∷ []) ≡ m.seat.known.view.part
parts_alone m = omega (arith, parts-cons m [])

-- where each has a worker's part, they have as many of those as they are
pub parts_each : (g : Grounded) (ms : List WorkerState) → All (IsWorker g) ms → parts_of ms ≡ length ms * worker_part
parts_each g [] each = omega arith
parts_each g (m ∷ ms) each =
    let rest = parts_each g ms (All-tail (IsWorker g) m ms each) in
    let one = (All-head (IsWorker g) m ms each).part in
    omega (arith, parts-cons m ms, rest, one)

-- and each is at the ground
pub each_at : (g : Grounded) (ms : List WorkerState) → All (IsWorker g) ms → All (IsAt g) ms
each_at g ms each = All-weaker (IsWorker g) (IsAt g) (λ m is. is.of) ms each

-- workers with all numbers of a pool are as many as it has
pub as_many : (l : Limits) (ms : List WorkerState) →
    map (λ (m : Member). m.number) (members_of ms) ≡ range_with_len 1 l.workers → length ms ≡ l.workers
as_many l ms numbers =
    sym (length-map ms (λ (m : WorkerState). m.member)) ∙ sym (length-map (members_of ms) (λ (m : Member). m.number))
    ∙ ap length numbers ∙ length-range_with_len 1 l.workers

-- workers in their order, each with a worker's part, have every part
pub all_with_parts : (g : Grounded) (ms : List WorkerState) →
    map (λ (m : Member). m.number) (members_of ms) ≡ range_with_len 1 g.limits.workers → All (IsWorker g) ms → AreWorkers g ms
all_with_parts g ms numbers each = record {
  numbers = numbers;
  each = each_at g ms each;
  parts = parts_each g ms each ∙ ap (λ (n : ℕ). n * worker_part) (as_many g.limits ms numbers);
}
