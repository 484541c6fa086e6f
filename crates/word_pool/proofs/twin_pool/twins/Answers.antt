-- Each worker is made at parts that were taken of both seats, and the last at what is left of them.
use Rattle.std.proofs.Common.{ℕ, ◌≡◌, ◌+◌, ◌-◌, ◌≤◌, ap, subst, arith}
use Rattle.commons.specs.declared.limits.Limits.{Limits}
use Rattle.word_pool.specs.declared.twin_worker.Seats.{Seats}
use Rattle.word_pool.specs.inside.Crews.{IsUnused}
use Rattle.word_pool.specs.inside.TwinCrews.{AreFirstTwins}
use Rattle.word_pool.proofs.Crews.{part_unused, rest_of, rest_unused}
use Rattle.word_pool.proofs.TwinCrews.{all_new_twins, all_twins, last_twin_more, one_twin_more}
use Rattle.word_pool.proofs.twin_pool.twins.Goals as goal

-- the seats that are split off are the next worker's, and what is left of the first has a part less
pub loop-number-preserved : goal.loop-number-preserved
loop-number-preserved c =
    let g = c.args.first.now in
    let h = c.args.second.now in
    let n = c.loop-number.number in
    let parts = g.limits.workers + 1 - n in
    let i = c.loop-number.invariant in
    let rest = c.loop-number.rest.seats.first in
    let over = c.loop-number.rest.seats.second in
    let low : 1 ≤ n = omega (arith, c.loop-number.auto.number) in
    let again : n ≡ n + 1 - 1 = omega arith in
    let left : parts - 1 ≡ g.limits.workers + 1 - (n + 1) = omega arith in
    let one = part_unused g.limits parts rest c.split.result c.split.ensures.known c.split.ensures.slots i.first_unused in
    let two =
    part_unused h.limits parts over c.split-in-loop-number.result c.split-in-loop-number.ensures.known
    c.split-in-loop-number.ensures.slots i.second_unused in
    record {
      made =
          subst (λ (k : ℕ). AreFirstTwins g h k c.add_twin.new.workers.items) again
          (one_twin_more g h n c.loop-number.workers.items c.add_twin.new.workers.items c.limits-first_limits.result
          c.limits-second_limits.result c.split.result c.split-in-loop-number.result c.limits-first_limits.ensures.limits
          c.limits-second_limits.ensures.limits low i.made c.split.ensures.of c.split-in-loop-number.ensures.of one two
          c.in_ok-add_twin.ensures.added);
      first_of = rest_of g rest c.split.new.seat c.split.ensures.old i.first_of;
      second_of = rest_of h over c.split-in-loop-number.new.seat c.split-in-loop-number.ensures.old i.second_of;
      first_unused =
          subst (λ (k : ℕ). IsUnused g.limits k c.split.new.seat) left
          (rest_unused g.limits parts rest c.split.new.seat c.split.ensures.old i.first_unused);
      second_unused =
          subst (λ (k : ℕ). IsUnused h.limits k c.split-in-loop-number.new.seat) left
          (rest_unused h.limits parts over c.split-in-loop-number.new.seat c.split-in-loop-number.ensures.old
          i.second_unused);
    }

-- with the last they are all
last_made : (c : goal.In_ok-add_twin-2) →
    AreFirstTwins c.args.first.now c.args.second.now c.args.first.now.limits.workers c.add_twin-2.new.workers.items
last_made c =
    let g = c.args.first.now in
    let h = c.args.second.now in
    let n = c.loop-number.number in
    let i = c.loop-number.invariant in
    let told = ap (λ (l : Limits). l.workers) c.limits-first_limits.ensures.limits in
    let low : 1 ≤ n = omega (arith, c.loop-number.auto.number) in
    let last : n ≡ g.limits.workers =
    omega (
      arith,
      told,
      c.loop-number-test.false,
      c.loop-number.auto.number,
      c.loop-number.auto.number-end,
      c.limits-first_limits.ensures.pool.workers_low,
    ) in
    last_twin_more g h n c.limits-first_limits.result.workers c.loop-number.workers.items
    c.add_twin-2.new.workers.items c.limits-first_limits.result c.limits-second_limits.result
    c.loop-number.rest.seats.first c.loop-number.rest.seats.second c.into_seats.result.first c.into_seats.result.second
    c.limits-first_limits.ensures.limits c.limits-second_limits.ensures.limits c.requires.pools.twins.workers last told
    low i.made i.first_of i.second_of i.first_unused i.second_unused
    (ap (λ (s : Seats). s.first) c.into_seats.ensures) (ap (λ (s : Seats). s.second) c.into_seats.ensures)
    c.in_ok-add_twin-2.ensures.added

pub returns-clause-workers : goal.returns-clause-workers
returns-clause-workers c =
    all_twins c.args.first.now c.args.second.now c.add_twin-2.new.workers.items c.requires.pools (last_made c)

pub returns-clause-new : goal.returns-clause-new
returns-clause-new c =
    all_new_twins c.args.first.now c.args.second.now c.add_twin-2.new.workers.items c.requires.pools (last_made c)
