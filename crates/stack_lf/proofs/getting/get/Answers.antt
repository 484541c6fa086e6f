use Rattle.std.proofs.Common.{length}
use Rattle.stack_lf.proofs.Whole.{get_met, get_unreserved, get_uncut, alone_reserved, reserved_told, unreserved_told}
use Rattle.stack_lf.proofs.Changes.{uncut_told, unreserved_unspent}
use Rattle.stack_lf.proofs.getting.get.Goals as goal

-- nothing was reserved
pub returns-in-Err-clause-got : goal.returns-in-Err-clause-got
returns-in-Err-clause-got c =
    get_unreserved c.args.ground.now.limits.tries (length c.args.out.now) c.args.out.now
    c.in-Err.cause c.args.seat.now c.by_tries.new.seat c.in-Err.ensures.ends

-- of which the only seat of a pool knew the length before
pub returns-in-Err-clause-told : goal.returns-in-Err-clause-told
returns-in-Err-clause-told c = λ e.
    unreserved_told c.args.ground.now.limits.tries (length c.args.out.now) c.in-Err.cause
    c.args.seat.now c.by_tries.new.seat c.in-Err.ensures.ends (search e)

-- a reservation finds no head spent
pub returns-in-Err-clause-ended : goal.returns-in-Err-clause-ended
returns-in-Err-clause-ended c = λ e.
    unreserved_unspent c.args.ground.now.limits.tries (length c.args.out.now) c.in-Err.cause
    c.args.seat.now c.by_tries.new.seat c.in-Err.ensures.ends (search e)

-- what is reserved is popped
pub returns-in-Ok-by_tries-clause-got : goal.returns-in-Ok-by_tries-clause-got
returns-in-Ok-by_tries-clause-got c =
    get_met c.args.ground.now.limits.tries (length c.args.out.now) c.by_tries-in-Ok.new.out
    c.args.seat.now c.by_tries.new.seat c.by_tries-in-Ok.new.seat c.in-Ok.ensures.ends
    c.in-Ok-by_tries.ensures.ends

-- of which the only seat of a pool knew that there is enough
pub returns-in-Ok-by_tries-clause-enough : goal.returns-in-Ok-by_tries-clause-enough
returns-in-Ok-by_tries-clause-enough c =
    reserved_told c.args.ground.now.limits.tries (length c.args.out.now) c.args.seat.now
    c.by_tries.new.seat c.in-Ok.ensures.ends

-- what is reserved is given back
pub returns-in-Err-by_tries-clause-got : goal.returns-in-Err-by_tries-clause-got
returns-in-Err-by_tries-clause-got c =
    get_uncut c.args.ground.now.limits.tries (length c.args.out.now) c.by_tries-in-Ok.new.out
    c.in-Err-by_tries.cause c.args.seat.now c.by_tries.new.seat c.by_tries-in-Ok.new.seat
    c.add.new.seat c.in-Ok.ensures.ends c.in-Err-by_tries.ensures.ends c.add.ensures.step

-- of which the only seat of a pool knew how often the stack had been changed
pub returns-in-Err-by_tries-clause-ended : goal.returns-in-Err-by_tries-clause-ended
returns-in-Err-by_tries-clause-ended c = λ e.
    uncut_told c.args.ground.now.limits.tries (length c.args.out.now) c.by_tries-in-Ok.new.out
    c.in-Err-by_tries.cause c.args.seat.now c.by_tries.new.seat c.by_tries-in-Ok.new.seat
    c.in-Ok.ensures.ends c.in-Err-by_tries.ensures.ends (search e)

-- the seat is as alone after its reservation as before
pub returns-in-Err-by_tries-clause-alone : goal.returns-in-Err-by_tries-clause-alone
returns-in-Err-by_tries-clause-alone c = λ whole.
    c.in-Err-by_tries.ensures.alone (alone_reserved c.args.ground.now.limits.tries
    (length c.args.out.now) c.args.seat.now c.by_tries.new.seat c.in-Ok.ensures.ends whole)
