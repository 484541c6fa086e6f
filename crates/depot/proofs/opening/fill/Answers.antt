use Rattle.std.proofs.Common.{◌≡◌, ℕ, subst, rules, arith}
use Rattle.commons.specs.Bag.{bag}
use Rattle.depot.specs.Lending.{FillsTo, elements}
use Rattle.depot.proofs.Fills.{fills-none, fills-more, fills-still}
use Rattle.depot.proofs.Opens.{run-lent}
use Rattle.depot.proofs.Passing.{cause-reads, keeps-none, keeps-then, logs-none}
use Rattle.depot.specs.Seats.{quiet}
use Rattle.depot.proofs.opening.fill.Goals as goal

-- a run of what is left is lent
pub put-requires-clause-lent : goal.put-requires-clause-lent
put-requires-clause-lent c =
    let n = c.min-n.ensures in
    run-lent _ _ c.args.population _ (λ i. bag (elements c.loop-next.loans) i)
    (λ i. bag (elements c.args.loans.now) i) c.run_from-list.ensures (search rules) c.requires.all
    c.loop-next.invariant.3.others

pub loop-next-init : goal.loop-next-init
loop-next-init c = (c.requires.of, c.requires.loans, omega arith, fills-none _ _, keeps-none _ _)

-- less is left
pub loop-next-preserved : goal.loop-next-preserved
loop-next-preserved c =
    let n = c.min-n.ensures in (
      c.put.ensures.of,
      c.put.ensures.loans,
      search rules,
      fills-more _ _ _ c.args.worker.now c.args.loans.now c.loop-next.worker c.loop-next.loans c.put.new.self c.put.new.loans
          c.run_from-list.ensures c.loop-next.invariant.3 c.in_default.ensures.put c.in_default.ensures.count,
      keeps-then _ _ _ _ _ _ c.loop-next.invariant.4 c.put.ensures.kept,
    )

-- one was refused, behind these
pub returns-in-Err-clause-some : goal.returns-in-Err-clause-some
returns-in-Err-clause-some c = (
  c.loop-next.next,
  c.loop-next-test.true,
  fills-still _ _ _ _ _ _ _ c.loop-next.invariant.3 c.in-Err.ensures.put.0
      c.in-Err.ensures.count,
)

pub returns-in-Err-clause-others : goal.returns-in-Err-clause-others
returns-in-Err-clause-others c =
    λ i past.
    let test = c.loop-next-test.true in
    let had = c.loop-next.invariant.3.others i (omega arith) in
    let same = c.in-Err.ensures.put.0 i in
    omega arith

pub returns-in-Err-clause-cause : goal.returns-in-Err-clause-cause
returns-in-Err-clause-cause c =
    cause-reads _ c.in-Err.cause _ _ _ _ c.loop-next.invariant.4.reads c.in-Err.ensures.put.1
    (logs-none (quiet c.put.new.self.rack.seat.me.0))

pub returns-in-Err-clause-kept : goal.returns-in-Err-clause-kept
returns-in-Err-clause-kept c = keeps-then _ _ _ _ _ _ c.loop-next.invariant.4 c.put.ensures.kept

-- all were put
pub returns-clause-filled : goal.returns-clause-filled
returns-clause-filled c =
    let most = c.loop-next.invariant.2 in
    let test = c.loop-next-test.false in
    let all : c.loop-next.next ≡ c.args.population = omega arith in
    subst (λ (n : ℕ). FillsTo n c.args.worker.now c.args.loans.now c.loop-next.worker c.loop-next.loans) all
    c.loop-next.invariant.3

pub returns-clause-put : goal.returns-clause-put
returns-clause-put c = λ i inside. c.loop-next.invariant.3.put i (let test = c.loop-next-test.false in omega arith)

pub returns-clause-others : goal.returns-clause-others
returns-clause-others c = λ i past. c.loop-next.invariant.3.others i (let most = c.loop-next.invariant.2 in omega arith)

pub returns-clause-kept : goal.returns-clause-kept
returns-clause-kept c = c.loop-next.invariant.4
