use Rattle.std.proofs.Common.{◌≡◌, ℕ, ◌+◌, ◌%◌, ◌^◌, ◌<◌, ◌≤◌, ap, ◌∙◌, ⊎_elim, arith}
use Rattle.std.proofs.lemmas.Bool.{cases_lt}
use Rattle.commons.specs.Bag.{bag}
use Rattle.depot.specs.Seats.{lent}
use Rattle.guard.specs.Guards.{resting_of}
use Rattle.guard.proofs.Filling.{out-before, out-behind, out-past, out-marked, one-less}
use Rattle.guard.proofs.Workers.{guard-of}
use Rattle.guard.proofs.worker.GuardWorker.let_all_out.Goals as goal

pub loop-element-init : goal.loop-element-init
loop-element-init c = (
  c.requires.body,
  λ i h. absurd (omega arith),
  λ i h k. c.requires.all i k,
  c.requires.none,
  λ i h. absurd (omega arith),
  ap (λ (x : ℕ). (x + 0) % 2 ^ 64) c.requires.count,
)

pub let_out-requires-clause-body : goal.let_out-requires-clause-body
let_out-requires-clause-body c = c.loop-element.invariant.0

pub let_out-requires-clause-some : goal.let_out-requires-clause-some
let_out-requires-clause-some c =
    let is = c.loop-element.invariant.2 c.loop-element.element (omega arith) c.loop-element-test.true in omega arith

-- one more is out
pub loop-element-preserved : goal.loop-element-preserved
loop-element-preserved c =
    let l = c.loop-element.invariant in let e = c.let_out.ensures in (
      e.body,
      out-before _ _ c.loop-element-test.true (λ i. lent c.loop-element.self.rack.seat.me i)
          (λ i. lent c.let_out.new.self.rack.seat.me i) e.lent l.1 l.2 l.3,
      out-behind _ _ c.loop-element-test.true (λ i. lent c.loop-element.self.rack.seat.me i)
          (λ i. lent c.let_out.new.self.rack.seat.me i) e.lent l.1 l.2 l.3,
      out-past _ _ c.loop-element-test.true (λ i. lent c.loop-element.self.rack.seat.me i)
          (λ i. lent c.let_out.new.self.rack.seat.me i) e.lent l.1 l.2 l.3,
      out-marked _ (λ i. bag (resting_of c.loop-element.self).marks i) (λ i. bag (resting_of c.let_out.new.self).marks i)
          e.got.marks l.4,
      one-less _ _ _ e.count l.5,
    )

-- nothing is left outside of the magazines
pub returns-clause-of : goal.returns-clause-of
returns-clause-of c =
    let l = c.loop-element.invariant in
    guard-of _ _ l.0 (λ i. ⊎_elim
    (λ (h : i < c.args.population). l.1 i (let a = c.loop-element.auto.element-end in let b = c.loop-element-test.false in omega arith))
    (λ (h : c.args.population ≤ i). l.3 i h) (cases_lt i c.args.population))

pub returns-clause-out : goal.returns-clause-out
returns-clause-out c i h =
    c.loop-element.invariant.4 i (let a = c.loop-element.auto.element-end in let b = c.loop-element-test.false in omega arith)

pub returns-clause-count : goal.returns-clause-count
returns-clause-count c =
    let a = c.loop-element.auto.element-end in let b = c.loop-element-test.false in
    ap (λ (x : ℕ). (c.loop-element.self.count + x) % 2 ^ 64)
    (let e : c.args.population ≡ c.loop-element.element = omega arith in e)
    ∙ c.loop-element.invariant.5
