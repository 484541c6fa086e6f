-- The workers are all those of both grounds, before their threads and after.
use Rattle.std.proofs.Common.{List, length, ap, arith}
use Rattle.commons.specs.declared.limits.Limits.{Limits}
use Rattle.word_pool.specs.TwinWorkers.{AllTwinsStay, TwinState}
use Rattle.script.proofs.TwinEnds.{twins_after, twins_len}
use Rattle.script.proofs.twins_on_words.played.Goals as goal

-- a pool has a worker
pub play-requires-clause-some : goal.play-requires-clause-some
play-requires-clause-some g c κs within =
    let made = c.in_ok-first_ground in
    omega (
      arith,
      ap (λ (ms : List TwinState). length ms) c.as_mut_slice.ensures.value,
      twins_len made.first_ground made.second_ground made.workers.items made.ensures.workers,
      ap (λ (l : Limits). l.workers) made.ensures.first_limits,
      c.requires.pools.twins.first.workers_low,
    )

-- and at most 64
pub play-requires-clause-few : goal.play-requires-clause-few
play-requires-clause-few g c κs within =
    let made = c.in_ok-first_ground in
    omega (
      arith,
      ap (λ (ms : List TwinState). length ms) c.as_mut_slice.ensures.value,
      twins_len made.first_ground made.second_ground made.workers.items made.ensures.workers,
      ap (λ (l : Limits). l.workers) made.ensures.first_limits,
      c.requires.pools.twins.first.workers,
    )

-- each stayed, so they are all workers still
pub returns-clause-workers : goal.returns-clause-workers
returns-clause-workers g c =
    let made = c.in_ok-first_ground in
    let stayed : AllTwinsStay c.as_mut_slice.result.now c.play.new.workers =
    record { as_many = c.play.ensures.stay.as_many; each = c.play.ensures.stay.each } in
    twins_after made.first_ground made.second_ground made.workers.items c.as_mut_slice.result.now c.play.new.workers
    made.workers.len
    (c.twins_who_stay_are_all.ensures made.first_ground made.second_ground c.as_mut_slice.result.now c.play.new.workers)
    c.as_mut_slice.ensures.value (omega (arith, c.as_mut_slice.ensures.len)) made.ensures.workers stayed
