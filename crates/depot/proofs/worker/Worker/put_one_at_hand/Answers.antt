use Rattle.depot.proofs.Passing.{logs-from, logs-none, passed, more-at-hand}
use Rattle.depot.proofs.worker.Worker.put_one_at_hand.Goals as goal

-- the loans were taken in, and what is lent now let out
pub returns-clause-kept : goal.returns-clause-kept
returns-clause-kept c =
    passed _ _ _ _ _ _ _ (logs-from c.args.self.now.rack.seat.me c.len.new.self.seat.me _ c.len.ensures.me (logs-none _))
    c.take_in.ensures.reads c.take_in.ensures.passes c.add_one.ensures.logs c.let_out.ensures.reads c.let_out.ensures.passes

-- so many are in its magazines now
pub returns-clause-more : goal.returns-clause-more
returns-clause-more c =
    λ _. more-at-hand c.args.self.now.rack.seat.me c.len.new.self.seat.me c.take_in.new.self.seat.me c.add_one.new.self.seat.me c.let_out.new.self.seat.me 1 c.len.ensures.me
    c.take_in.ensures.rows c.add_one.ensures.lets.stock c.let_out.ensures.rows
