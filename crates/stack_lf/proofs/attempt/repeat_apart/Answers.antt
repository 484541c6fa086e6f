use Rattle.std.proofs.Common.{◌≡◌, ◌<◌, ℕ, sym, ap, subst, length, arith}
use Rattle.commons.specs.declared.limits.Limits.{Limits}
use Rattle.ground.specs.Seats.{Seated}
use Rattle.stack_lf.specs.Effects.{HasLost}
use Rattle.stack_lf.proofs.Composing.{lost_more, lost_of, ends_refused}
use Rattle.stack_lf.proofs.attempt.repeat_apart.Goals as goal

-- before the second try
pub loop-init : goal.loop-init
loop-init g c = record {
  lost = λ first one. one;
  of = c.requires.of;
  may = c.requires.may;
}

-- the seat may make another try
pub attempt-requires : goal.attempt-requires
attempt-requires g c = record {
  of = c.loop.invariant.of;
  may =
      subst (λ (n : ℕ). g.A.Attempt.may c.args.attempt n c.loop.seat.known.view)
      (sym c.loop.auto.out) c.loop.invariant.may;
}

-- one more try lost, which leaves the seat as it was but for what it saw of the head
pub loop-preserved : goal.loop-preserved
loop-preserved g c =
    let one = c.in-Lost.ensures.one in
    let loses = g.A.Attempt.loses c.args.attempt c.args.ground.now.limits in
    record {
      lost = λ first before.
          lost_more loses c.loop.counter first c.loop.seat c.attempt.new.seat
          (c.loop.invariant.lost first before) one;
      of = lost_of c.args.ground.now loses 1 c.loop.seat c.attempt.new.seat c.loop.invariant.of one;
      may =
          subst
          (λ (s : Seated). g.A.Attempt.may c.args.attempt (length c.args.out.now) s.known.view)
          (sym one.5)
          (g.met.A.Attempt.may_again c.args.attempt (length c.args.out.now) c.loop.seat.known.view
          one.1 one.2 c.loop.invariant.may);
    }

-- the last try won
pub returns-in-Won : goal.returns-in-Won
returns-in-Won g c = λ first one. (
  c.loop.counter,
  c.loop.seat,
  subst (λ (l : Limits). c.loop.counter < l.tries) c.limits-limits.ensures.limits c.loop-test.true,
  c.loop.invariant.lost first one,
  c.in-Won.ensures.one,
)

-- the last try was refused
pub returns-in-Refused : goal.returns-in-Refused
returns-in-Refused g c = λ first one.
    ends_refused c.args.ground.now.limits.tries
    (g.A.Attempt.loses c.args.attempt c.args.ground.now.limits)
    (g.A.Attempt.ends c.args.attempt c.args.ground.now.limits c.attempt.new.out)
    c.in-Refused.cause first c.attempt.new.seat c.in-Refused.ensures.one.0 (
      c.loop.counter,
      c.loop.seat,
      subst (λ (l : Limits). c.loop.counter < l.tries) c.limits-limits.ensures.limits
          c.loop-test.true,
      c.loop.invariant.lost first one,
      c.in-Refused.ensures.one.1,
    )

-- all tries lost
pub returns : goal.returns
returns g c = λ first one.
    let low = c.limits-limits.ensures.pool.tries_low in
    let same = ap (λ (l : Limits). l.tries) c.limits-limits.ensures.limits in
    let all : c.loop.counter ≡ c.args.ground.now.limits.tries = omega (arith, low, same) in
    subst (λ (k : ℕ). HasLost (g.A.Attempt.loses c.args.attempt c.args.ground.now.limits) k first
    c.loop.seat) all (c.loop.invariant.lost first one)
