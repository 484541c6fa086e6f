use Rattle.std.proofs.Common.{◌≡◌, ◌<◌, ℕ, ap, subst, refl, arith, [], ◌∷◌, false}
use Rattle.commons.specs.declared.limits.Limits.{Limits}
use Rattle.ground.specs.Seats.{Seated, Steps, KnowsCount}
use Rattle.step_core.specs.declared.step.Step.TheVariants.{Sole, Raise}
use Rattle.step_core.specs.declared.step.Outcome.TheVariants.{Value, Won, Lost}
use Rattle.stack_lf.specs.Tries.{IsLostRaise, RaiseFailed}
use Rattle.stack_lf.proofs.SoleSeat.{same_count}
use Rattle.stack_lf.proofs.Composing.{one_more, lost_once, limit_other}
use Rattle.stack_lf.proofs.counting.IncrementAttempt.attempt.Goals as goal

-- the count that was read is the limit, at which a count is at most
pub returns-then-limits-count-clause-one : goal.returns-then-limits-count-clause-one
returns-then-limits-count-clause-one c =
    let i = c.args.self.element in
    let s = c.args.seat.now in
    let n : ℕ = c.sole-count.result in
    let l = c.args.ground.now.limits in
    let same = ap (λ (k : Limits). k.ref_limit) c.limits.ensures.limits in
    let high = c.sole-count.ensures.limited in
    let low = c.if-limits-count.true in
    let spent : n ≡ l.ref_limit = omega arith in (
      limit_other,
      (
        subst (KnowsCount s.known i) spent c.sole-count.ensures.known,
        subst (λ (v : ℕ). Steps (Sole i false) (Value v) s c.sole-count.new.seat) spent
            c.sole-count.ensures.step,
      ),
    )

-- the count that was read is raised, and was below the limit
pub returns-in-Ok-clause-one : goal.returns-in-Ok-clause-one
returns-in-Ok-clause-one c =
    let i = c.args.self.element in
    let n = c.sole-count.result in (
      n,
      subst (λ (l : Limits). n < l.ref_limit) c.limits.ensures.limits c.if-limits-count.false,
      c.sole-count.ensures.known,
      one_more c.args.seat.now c.sole-count.new.seat c.raise.new.seat
          ((Sole i false, Value n) ∷ []) c.args.seat.now.known.view (Raise i n) Won
          c.sole-count.ensures.step c.in-Ok.ensures.step,
    )

-- another count stood there
pub returns-in-Err-clause-one : goal.returns-in-Err-clause-one
returns-in-Err-clause-one c =
    let i = c.args.self.element in
    let l = c.args.ground.now.limits in
    let s = c.args.seat.now in
    let n = c.sole-count.result in
    let found = c.in-Err.field-0 in
    lost_once (IsLostRaise l i) s c.raise.new.seat (RaiseFailed i n found) s.known.view.look
    s.known.view.seen (
      n,
      found,
      subst (λ (l : Limits). n < l.ref_limit) c.limits.ensures.limits c.if-limits-count.false,
      c.in-Err.ensures.lost,
      refl,
    )
    (one_more s c.sole-count.new.seat c.raise.new.seat ((Sole i false, Value n) ∷ []) s.known.view
    (Raise i n) (Lost found) c.sole-count.ensures.step c.in-Err.ensures.step)

-- the only seat of a pool knows the count, so that both are the same
pub returns-in-Err-clause-alone : goal.returns-in-Err-clause-alone
returns-in-Err-clause-alone c = λ whole _.
    let n : ℕ = c.sole-count.result in
    let found : ℕ = c.in-Err.field-0 in
    let i = c.args.self.element in
    c.in-Err.ensures.lost (same_count c.args.seat.now.known i n found c.sole-count.ensures.known
    (subst (λ (z : Seated). KnowsCount z.known i found) c.sole-count.ensures.step
    c.in-Err.ensures.known) whole)
