use Rattle.std.proofs.Common.{ℕ, ◌≡◌, ◌<◌, Some, drop, get_or, length, map, reverse}
use Rattle.mbufpool_c.specs.Labelled.{Labelled}
use Rattle.mbufpool_c.specs.declared.worker_handle.WorkerHandle.{WorkerHandle}
use Rattle.mbufpool_c.proofs.opening.fill.Given as goal

-- the handles that were passed have their workers, and the other workers are left
abbrev pub invariant-loop-k : goal.invariant-loop-k
invariant-loop-k l = record {
  as_many : length l.out ≡ length l.fn.boxes.items;
  left : reverse (map (λ own. own.value) l.boxes.items)
      ≡ drop l.k (reverse (map (λ own. own.value) l.fn.boxes.items));
  have : (j : ℕ) (h : WorkerHandle) (m : Labelled) → j < l.k →
      (get_or l.out j h).value ≡ Some (get_or (reverse (map (λ own. own.value) l.fn.boxes.items)) j m);
}
