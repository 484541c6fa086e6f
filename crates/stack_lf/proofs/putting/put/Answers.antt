use Rattle.stack_lf.proofs.Whole.{put_met, put_unmet}
use Rattle.stack_lf.proofs.Changes.{unpushed_told}
use Rattle.stack_lf.proofs.putting.put.Goals as goal

-- nothing was pushed
pub returns-in-Err-clause-put : goal.returns-in-Err-clause-put
returns-in-Err-clause-put c =
    put_unmet c.args.ground.now.limits.tries c.args.list.now c.in-Err.cause c.args.seat.now
    c.by_tries.new.seat c.in-Err.ensures.ends

-- of which the only seat of a pool knew how often the stack had been changed
pub returns-in-Err-clause-ended : goal.returns-in-Err-clause-ended
returns-in-Err-clause-ended c = λ e.
    unpushed_told c.args.ground.now.limits.tries c.args.list.now c.in-Err.cause c.args.seat.now
    c.by_tries.new.seat c.in-Err.ensures.ends (search e)

-- the list was pushed, and added to the length
pub returns-in-Ok-clause-put : goal.returns-in-Ok-clause-put
returns-in-Ok-clause-put c =
    put_met c.args.ground.now.limits.tries c.args.list.now c.args.seat.now c.by_tries.new.seat
    c.add.new.seat c.in-Ok.ensures.ends c.add.ensures.step
