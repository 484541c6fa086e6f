use Rattle.std.proofs.Common.{ℕ, refl, sym, subst, length}
use Rattle.ground.specs.Seats.{Seated}
use Rattle.stack_lf.proofs.Composing.{lost_none, lost_of, ends_refused}
use Rattle.stack_lf.proofs.attempt.by_tries.Goals as goal

-- the first try won
pub returns-in-Won-clause-ends : goal.returns-in-Won-clause-ends
returns-in-Won-clause-ends g c = (
  0,
  c.args.seat.now,
  c.limits-limits.ensures.pool.tries_low,
  lost_none (g.A.Attempt.loses c.args.attempt c.args.ground.now.limits) c.args.seat.now,
  c.in-Won.ensures.one,
)

-- the first try was refused
pub returns-in-Refused-clause-ends : goal.returns-in-Refused-clause-ends
returns-in-Refused-clause-ends g c =
    ends_refused c.args.ground.now.limits.tries
    (g.A.Attempt.loses c.args.attempt c.args.ground.now.limits)
    (g.A.Attempt.ends c.args.attempt c.args.ground.now.limits c.attempt.new.out)
    c.in-Refused.cause c.args.seat.now c.attempt.new.seat c.in-Refused.ensures.one.0 (
      0,
      c.args.seat.now,
      c.limits-limits.ensures.pool.tries_low,
      lost_none (g.A.Attempt.loses c.args.attempt c.args.ground.now.limits) c.args.seat.now,
      c.in-Refused.ensures.one.1,
    )

-- for another cause than lost tries
pub returns-in-Refused-clause-alone : goal.returns-in-Refused-clause-alone
returns-in-Refused-clause-alone g c = λ alone e. c.in-Refused.ensures.one.0 (search e)

-- the seat may make another try
pub repeat-requires : goal.repeat-requires
repeat-requires g c =
    let one = c.in-Lost.ensures.one in
    let loses = g.A.Attempt.loses c.args.attempt c.args.ground.now.limits in
    record {
      of = lost_of c.args.ground.now loses 1 c.args.seat.now c.attempt.new.seat c.requires.of one;
      may =
          subst
          (λ (n : ℕ). g.A.Attempt.may c.args.attempt n c.attempt.new.seat.known.view)
          (sym c.attempt.auto.out)
          (subst
          (λ (s : Seated). g.A.Attempt.may c.args.attempt (length c.args.out.now) s.known.view)
          (sym one.5)
          (g.met.A.Attempt.may_again c.args.attempt (length c.args.out.now)
          c.args.seat.now.known.view one.1 one.2 c.requires.may));
    }

-- the first try lost, and the others came after it
pub returns-in-Lost-clause-ends : goal.returns-in-Lost-clause-ends
returns-in-Lost-clause-ends g c = c.repeat.ensures c.args.seat.now c.in-Lost.ensures.one

-- the only seat of a pool loses no try
pub returns-in-Lost-clause-alone : goal.returns-in-Lost-clause-alone
returns-in-Lost-clause-alone g c = λ alone _. absurd (c.in-Lost.ensures.alone alone refl)
