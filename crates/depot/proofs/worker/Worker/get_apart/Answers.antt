use Rattle.std.proofs.Common.{arith}
use Rattle.depot.proofs.Passing.{cause-reads, logs-none, passed}
use Rattle.depot.proofs.worker.Worker.get_apart.Goals as goal

-- the loans are as before, and the cause was read
pub returns-in-Err-clause-got : goal.returns-in-Err-clause-got
returns-in-Err-clause-got c =
    let refused = c.in-Err.ensures.err in (
      λ i. let s = c.requires.of.settled i in let a = c.take_in.ensures.lent i in let b = refused.0 i in let l = c.let_out-in-Err.ensures.lent i in omega arith,
      cause-reads _ c.in-Err.cause c.args.self.now.rack.seat.me.0 c.take_in.new.self.seat.me.0 c.get_apart.new.self.seat.me.0 _
          c.take_in.ensures.reads refused.1 c.let_out-in-Err.ensures.reads,
    )

-- the loans were taken in, and what is lent now let out
pub returns-in-Ok-clause-kept : goal.returns-in-Ok-clause-kept
returns-in-Ok-clause-kept c =
    passed _ _ _ _ _ _ _ (logs-none _) c.take_in.ensures.reads c.take_in.ensures.passes c.get_apart.ensures.logs
    c.let_out.ensures.reads c.let_out.ensures.passes

pub returns-in-Err-clause-kept : goal.returns-in-Err-clause-kept
returns-in-Err-clause-kept c =
    passed _ _ _ _ _ _ _ (logs-none _) c.take_in.ensures.reads c.take_in.ensures.passes c.get_apart.ensures.logs
    c.let_out-in-Err.ensures.reads c.let_out-in-Err.ensures.passes
