-- Each worker is made at a part that was taken of the seat, and the last at what is left of it.
use Rattle.std.proofs.Common.{ℕ, ◌≡◌, ◌+◌, ◌-◌, ◌≤◌, ap, subst, arith}
use Rattle.commons.specs.declared.limits.Limits.{Limits}
use Rattle.word_pool.specs.inside.Crews.{AreFirst, IsUnused}
use Rattle.word_pool.proofs.Crews.{all_new, all_workers, last_more, one_more, part_unused, rest_of, rest_unused}
use Rattle.word_pool.proofs.pool.workers_of.Goals as goal

-- the seat that is split off is the next worker's, and what is left of the first has a part less
pub loop-number-preserved : goal.loop-number-preserved
loop-number-preserved c =
    let g = c.args.ground.now in
    let n = c.loop-number.number in
    let parts = g.limits.workers + 1 - n in
    let rest = c.loop-number.rest.seat in
    let low : 1 ≤ n = omega (arith, c.loop-number.auto.number) in
    let again : n ≡ n + 1 - 1 = omega arith in
    let left : parts - 1 ≡ g.limits.workers + 1 - (n + 1) = omega arith in
    let unused = part_unused g.limits parts rest c.split-seat.result c.split-seat.ensures.known
    c.split-seat.ensures.slots c.loop-number.invariant.unused in
    record {
      first =
          subst (λ (k : ℕ). AreFirst g k c.add_worker.new.workers.items) again
          (one_more g n c.loop-number.workers.items c.add_worker.new.workers.items c.limits-limits.result
          c.split-seat.result c.limits-limits.ensures.limits low c.loop-number.invariant.first
          c.split-seat.ensures.of unused c.in_ok-add_worker.ensures.added);
      of = rest_of g rest c.split-seat.new.seat c.split-seat.ensures.old c.loop-number.invariant.of;
      unused =
          subst (λ (k : ℕ). IsUnused g.limits k c.split-seat.new.seat) left
          (rest_unused g.limits parts rest c.split-seat.new.seat c.split-seat.ensures.old
          c.loop-number.invariant.unused);
    }

-- with the last they are all
last_made : (c : goal.In_ok-add_worker-2) →
    AreFirst c.args.ground.now c.args.ground.now.limits.workers c.add_worker-2.new.workers.items
last_made c =
    let n = c.loop-number.number in
    let told = ap (λ (l : Limits). l.workers) c.limits-limits.ensures.limits in
    let low : 1 ≤ n = omega (arith, c.loop-number.auto.number) in
    let last : n ≡ c.args.ground.now.limits.workers =
    omega (
      arith,
      told,
      c.loop-number-test.false,
      c.loop-number.auto.number,
      c.loop-number.auto.number-end,
      c.limits-limits.ensures.pool.workers_low,
    ) in
    last_more c.args.ground.now n c.limits-limits.result.workers c.loop-number.workers.items
    c.add_worker-2.new.workers.items c.limits-limits.result c.loop-number.rest.seat c.into_seat.result
    c.limits-limits.ensures.limits last told low c.loop-number.invariant.first c.loop-number.invariant.of
    c.loop-number.invariant.unused c.into_seat.ensures c.in_ok-add_worker-2.ensures.added

pub returns-clause-workers : goal.returns-clause-workers
returns-clause-workers c = all_workers c.args.ground.now c.add_worker-2.new.workers.items (last_made c)

pub returns-clause-parts : goal.returns-clause-parts
returns-clause-parts c = (last_made c).each

pub returns-clause-new : goal.returns-clause-new
returns-clause-new c = all_new c.args.ground.now c.add_worker-2.new.workers.items (last_made c)
