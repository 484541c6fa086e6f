use Rattle.depot.proofs.Logging.{stays-on, at-on}
use Rattle.depot.proofs.depot.Depot.take.Goals as goal

-- a try was refused
pub returns-in-Err-clause-did : goal.returns-in-Err-clause-did
returns-in-Err-clause-did c =
    let before = c.loop.invariant.1 in
    let did = c.in-Err.ensures.once in
    (stays-on _ _ _ before did.0, at-on _ c.args.stack c.in-Err.cause _ _ _ before.logs did.1)
