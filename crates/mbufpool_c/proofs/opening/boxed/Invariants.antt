use Rattle.std.proofs.Common.{◌≡◌, ◌≤◌, ◌++◌, All, length, map, reverse, vec_len}
use Rattle.std.specs.List.{range_with_len}
use Rattle.word_pool.specs.Workers.{IsAt}
use Rattle.mbufpool_c.specs.Labelled.{newly}
use Rattle.mbufpool_c.specs.inside.Shared.{numbers_of}
use Rattle.mbufpool_c.proofs.opening.boxed.Given as goal

-- those who are left are workers of the words, and the others are on the heap
abbrev pub invariant-loop-worker : goal.invariant-loop-worker
invariant-loop-worker l = record {
  each : All (IsAt l.shared.value) l.workers.items;
  numbers : numbers_of l.workers.items ≡ range_with_len 1 (length l.workers.items);
  few : length l.workers.items ≤ 64;
  split : map newly l.fn.workers.items ≡ map newly l.workers.items ++ reverse (map (λ own. own.value) l.boxes.items);
}

abbrev pub decreases-loop-worker : goal.decreases-loop-worker
decreases-loop-worker l = vec_len l.workers
