-- The workers are all those of the ground, before their threads and after.
use Rattle.std.proofs.Common.{List, length, ap, arith}
use Rattle.commons.specs.declared.limits.Limits.{Limits}
use Rattle.word_pool.specs.Workers.{AllStay, WorkerState}
use Rattle.script.proofs.WordWorkers.{crew_len, crew_after}
use Rattle.script.proofs.on_words.played.Goals as goal

-- a pool has a worker
pub play-requires-clause-some : goal.play-requires-clause-some
play-requires-clause-some g c κs within =
    let made = c.in_ok-ground in
    omega (
      arith,
      ap (λ (ms : List WorkerState). length ms) c.as_mut_slice.ensures.value,
      crew_len made.ground made.workers.items made.ensures.workers,
      ap (λ (l : Limits). l.workers) made.ensures.limits,
      made.ensures.pool.workers_low,
    )

-- and at most 64
pub play-requires-clause-few : goal.play-requires-clause-few
play-requires-clause-few g c κs within =
    let made = c.in_ok-ground in
    omega (
      arith,
      ap (λ (ms : List WorkerState). length ms) c.as_mut_slice.ensures.value,
      crew_len made.ground made.workers.items made.ensures.workers,
      ap (λ (l : Limits). l.workers) made.ensures.limits,
      made.ensures.pool.workers,
    )

-- each stayed, so they are all workers still
pub returns-clause-workers : goal.returns-clause-workers
returns-clause-workers g c =
    let made = c.in_ok-ground in
    let stayed : AllStay c.as_mut_slice.result.now c.play.new.workers =
    record { as_many = c.play.ensures.stay.as_many; each = c.play.ensures.stay.each } in
    crew_after made.ground made.workers.items c.as_mut_slice.result.now c.play.new.workers made.workers.len
    (c.workers_who_stay_are_all.ensures made.ground c.as_mut_slice.result.now c.play.new.workers)
    c.as_mut_slice.ensures.value (omega (arith, c.as_mut_slice.ensures.len)) made.ensures.workers stayed
