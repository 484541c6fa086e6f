use Rattle.std.proofs.Common.{◌≡◌, ◌+◌, take}
use Rattle.step_core.specs.World.{every_part}
use Rattle.word_pool.specs.Workers.{parts_of}
use Rattle.word_pool.proofs.pool.all_received.Given as goal

-- the parts of the workers so far, and what is left, are every part
abbrev pub invariant-loop-worker : goal.invariant-loop-worker
invariant-loop-worker l = l.left + parts_of (take l.worker-index l.workers) ≡ every_part l.ground.limits
