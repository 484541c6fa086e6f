use Rattle.depot.proofs.Passing.{logs-from, logs-none, passed, less-at-hand}
use Rattle.depot.proofs.worker.Worker.get_at_hand.Goals as goal

-- the loans were taken in, and what is lent now let out
pub returns-clause-kept : goal.returns-clause-kept
returns-clause-kept c =
    passed _ _ _ _ _ _ _ (logs-from c.args.self.now.rack.seat.me c.len.new.self.seat.me _ c.len.ensures.me c.take.ensures.logs)
    c.take_in.ensures.reads c.take_in.ensures.passes (logs-none _) c.let_out.ensures.reads c.let_out.ensures.passes

-- so many are in its magazines now
pub returns-clause-less : goal.returns-clause-less
returns-clause-less c =
    λ _. less-at-hand c.args.self.now.rack.seat.me c.len.new.self.seat.me c.take.new.self.seat.me c.take_in.new.self.seat.me c.let_out.new.self.seat.me _ c.len.ensures.me
    c.take.ensures.lets.stock c.take_in.ensures.rows c.let_out.ensures.rows
