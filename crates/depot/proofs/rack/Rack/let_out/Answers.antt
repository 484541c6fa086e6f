use Rattle.depot.proofs.Taking.{out-lent, out-once}
use Rattle.depot.proofs.rack.Rack.let_out.Goals as goal

pub returns-clause-once : goal.returns-clause-once
returns-clause-once c =
    out-once c.args.depot.now c.args.self.now c.note.new.seat c.part.result c.of.result c.requires.racked c.note.ensures.me
    c.part.ensures.new_me c.of.ensures.views c.note.ensures.owned

pub returns-clause-lent : goal.returns-clause-lent
returns-clause-lent c =
    out-lent c.args.depot.now c.args.self.now c.note.new.seat c.part.result c.of.result c.requires.racked c.note.ensures.me
    c.part.ensures.new_me c.of.ensures.views
