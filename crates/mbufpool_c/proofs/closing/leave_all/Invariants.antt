use Rattle.std.proofs.Common.{ℕ, ◌≡◌, ◌+◌, ◌<◌, ◌≤◌, None, get_or, length, take, vec_capacity, vec_len}
use Rattle.mbufpool_c.specs.Closes.{numbers_in}
use Rattle.mbufpool_c.specs.declared.worker_handle.WorkerHandle.{WorkerHandle}
use Rattle.mbufpool_c.proofs.closing.leave_all.Given as goal

-- the handles that were passed are empty, and the numbers of their workers are noted
abbrev pub invariant-loop-k : goal.invariant-loop-k
invariant-loop-k l = record {
  left : (j : ℕ) (d : WorkerHandle) → j < l.k → (get_or l.handles j d).value ≡ None;
  stay : (j : ℕ) (d : WorkerHandle) → l.k ≤ j → get_or l.handles j d ≡ get_or l.fn.handles j d;
  noted : l.numbers.items ≡ numbers_in (take l.k l.fn.handles);
  places : length l.fn.handles ≤ vec_len l.places + l.k;
  few : vec_len l.numbers ≤ l.k;
  room : length l.fn.handles ≤ vec_capacity l.numbers;
}
