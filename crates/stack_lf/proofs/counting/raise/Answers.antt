use Rattle.stack_lf.proofs.Whole.{raise_whole, raised_told, unraised_told}
use Rattle.stack_lf.proofs.counting.raise.Goals as goal

-- the count was raised from below the limit, or was at the limit, or all tries lost
pub returns-clause-raised : goal.returns-clause-raised
returns-clause-raised c =
    raise_whole c.args.ground.now.limits c.args.element c.by_tries.result c.args.seat.now
    c.by_tries.new.seat c.by_tries.ensures.ends

-- the only seat of a pool knew the count before
pub returns-clause-below : goal.returns-clause-below
returns-clause-below c =
    raised_told c.args.ground.now.limits c.args.element c.by_tries.result c.args.seat.now
    c.by_tries.new.seat c.requires.of.limits c.by_tries.ensures.ends

-- and where it was refused for it
pub returns-clause-told : goal.returns-clause-told
returns-clause-told c =
    unraised_told c.args.ground.now.limits c.args.element c.by_tries.result c.args.seat.now
    c.by_tries.new.seat c.requires.of.limits c.by_tries.ensures.ends
