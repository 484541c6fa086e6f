use Rattle.depot.proofs.Taking.{in-racked, in-lent}
use Rattle.depot.proofs.rack.Rack.take_in.Goals as goal

pub returns-clause-racked : goal.returns-clause-racked
returns-clause-racked c =
    in-racked c.args.depot.now c.args.self.now c.join.new.seat c.args.loans.now _ c.requires.racked c.requires.of
    c.take.ensures.me.0 c.join.ensures.of c.join.ensures.me

pub returns-clause-lent : goal.returns-clause-lent
returns-clause-lent c =
    in-lent c.args.depot.now c.args.self.now c.join.new.seat c.args.loans.now _ c.requires.racked c.requires.of
    c.take.ensures.me.0 c.join.ensures.of c.join.ensures.me
