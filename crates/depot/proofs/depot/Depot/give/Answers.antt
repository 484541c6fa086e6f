use Rattle.std.proofs.Common.{arith}
use Rattle.depot.proofs.Logging.{stays-on, give-on, goes-on, front-stays, gave, gave_not}
use Rattle.depot.proofs.depot.Depot.give.Goals as goal

-- a try won
pub returns-in-Ok-true-clause-did : goal.returns-in-Ok-true-clause-did
returns-in-Ok-true-clause-did c xs is =
    let before = c.loop.invariant.1 in
    goes-on _ _ _ _ _ before
    (gave c.args.self.now.tries c.args.stack _ _ _ _ _ c.in-Ok-true.field-0 c.in-Ok-true.field-0-test (c.in-Ok-true.ensures.once xs (front-stays _ _ _ _ before is)))

-- a try was refused
pub returns-in-Err-clause-did : goal.returns-in-Err-clause-did
returns-in-Err-clause-did c xs is =
    let before = c.loop.invariant.1 in
    let did = c.in-Err.ensures.once xs (front-stays _ _ _ _ before is) in
    (stays-on _ _ _ before did.0, give-on _ c.args.stack c.in-Err.cause _ _ _ before.logs did.1)

-- a try lost
pub loop-preserved : goal.loop-preserved
loop-preserved c =
    let before = c.loop.invariant.1 in
    let its = c.requires.elements in
    let did = gave_not c.args.self.now.tries c.args.stack _ _ _ _ _ c.in-Ok-false.field-0 c.in-Ok-false.field-0-test (c.in-Ok-false.ensures.once its.0 (front-stays _ _ _ _ before its.1)) in
    let lost = c.loop.invariant.2 in
    let more = did.lost in
    (c.try_give.ensures.of, stays-on _ _ _ before did.stays, omega arith)
