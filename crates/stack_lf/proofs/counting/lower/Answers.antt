use Rattle.std.proofs.Common.{◌≡◌, ◌∷◌, ◌++◌, [], ℕ, true, refl, ap, subst, inl, inr, arith}
use Rattle.commons.specs.Bag.{bag}
use Rattle.step_core.proofs.Bags.{times-last}
use Rattle.step_core.specs.declared.step.Step.TheVariants.{Sole}
use Rattle.step_core.specs.declared.step.Outcome.TheVariants.{Value}
use Rattle.ground.specs.Seats.{Seated, Steps, KnowsCount}
use Rattle.stack_lf.specs.Tries.{Freed, Lowered, LoweredToLast}
use Rattle.stack_lf.proofs.Tallying.{lower_still, lower_last, lower_between, sole_kept}
use Rattle.stack_lf.proofs.counting.lower.Goals as goal

-- the load read 1
pub returns-then-sole-eq1-clause-lowered : goal.returns-then-sole-eq1-clause-lowered
returns-then-sole-eq1-clause-lowered c =
    let i = c.args.element in (
      Freed i,
      inl refl,
      subst (λ (n : ℕ). Steps (Sole i true) (Value n) c.args.seat.now c.sole.new.seat)
          c.if-sole-eq1.true c.sole.ensures.step,
    )

-- which is what the only seat of a pool knows
pub returns-then-sole-eq1-clause-told : goal.returns-then-sole-eq1-clause-told
returns-then-sole-eq1-clause-told c =
    subst (KnowsCount c.args.seat.now.known c.args.element) c.if-sole-eq1.true c.sole.ensures.known

-- what was lowered from 1 is 0
pub reset-requires-clause-zero : goal.reset-requires-clause-zero
reset-requires-clause-zero c =
    let i = c.args.element in
    let e =
    lower_between i c.sole.result c.lower.result c.args.seat.now c.sole.new.seat
    c.lower.new.seat c.if-sole-eq1.false c.if-lower-eq1.true c.sole.ensures.step
    c.lower.ensures.step in
    let zeros : bag c.lower.new.seat.known.view.zeros i
    ≡ bag (c.args.seat.now.known.view.zeros ++ i ∷ []) i =
    ap (λ (t : Seated). bag t.known.view.zeros i) e in
    omega (arith, times-last i c.args.seat.now.known.view.zeros)

-- the lower read 1
pub returns-then-lower-eq1-clause-lowered : goal.returns-then-lower-eq1-clause-lowered
returns-then-lower-eq1-clause-lowered c =
    let i = c.args.element in
    let n = c.sole.result in
    let held = c.requires.held in
    let own = c.sole.ensures.own in (
      LoweredToLast i n,
      inr (n, omega arith, refl),
      lower_last i n c.lower.result c.args.seat.now c.sole.new.seat c.lower.new.seat
          c.reset.new.seat c.requires.zeros c.if-sole-eq1.false c.if-lower-eq1.true
          c.sole.ensures.step c.lower.ensures.step c.reset.ensures.step,
    )

-- the load left the view as it was, so what was known after it was known before
pub returns-then-lower-eq1-clause-told : goal.returns-then-lower-eq1-clause-told
returns-then-lower-eq1-clause-told c =
    let i = c.args.element in
    subst (λ (t : Seated). KnowsCount t.known i 1)
    (sole_kept i c.sole.result c.args.seat.now c.sole.new.seat c.if-sole-eq1.false c.sole.ensures.step)
    (subst (KnowsCount c.sole.new.seat.known i) c.if-lower-eq1.true c.lower.ensures.known)

-- another hold was left
pub returns-clause-lowered : goal.returns-clause-lowered
returns-clause-lowered c =
    let i = c.args.element in
    let n = c.sole.result in
    let b = c.lower.result in
    let held = c.requires.held in
    let own = c.sole.ensures.own in
    let e = sole_kept i n c.args.seat.now c.sole.new.seat c.if-sole-eq1.false c.sole.ensures.step in
    let same : bag c.sole.new.seat.known.view.holds i ≡ bag c.args.seat.now.known.view.holds i =
    ap (λ (t : Seated). bag t.known.view.holds i) e in
    let left = c.lower.ensures.own in (
      Lowered i n b,
      (n, b, omega arith, omega arith, refl),
      lower_still i n b c.args.seat.now c.sole.new.seat c.lower.new.seat c.if-sole-eq1.false
          c.if-lower-eq1.false c.sole.ensures.step c.lower.ensures.step,
    )

-- whose count was above 1
pub returns-clause-told : goal.returns-clause-told
returns-clause-told c =
    let held = c.requires.held in
    let own = c.sole.ensures.own in
    (c.sole.result, omega arith, c.sole.ensures.known)
