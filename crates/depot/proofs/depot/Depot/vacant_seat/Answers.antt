use Rattle.depot.proofs.Vacant.{kept-few, part-hand, part-out, part-magazines, part-same, part-bare}
use Rattle.depot.proofs.depot.Depot.vacant_seat.Goals as goal

-- nothing is kept
pub part-requires-clause-kept : goal.part-requires-clause-kept
part-requires-clause-kept c = kept-few c.take-seat.result c.note.new.seat c.take-seat.ensures.me.1 c.note.ensures.me

pub returns-clause-same : goal.returns-clause-same
returns-clause-same c =
    part-same c.take-seat.result c.note.new.seat c.take-seat.ensures.me.1 c.note.ensures.me
    c.args.loans.now c.of.result c.part.result c.take-seat.ensures.me.0 c.part.ensures.new_me c.of.ensures.views

pub returns-clause-hand : goal.returns-clause-hand
returns-clause-hand c =
    part-hand c.take-seat.result c.note.new.seat c.take-seat.ensures.me.1 c.note.ensures.me c.part.new.seat c.part.ensures.me

pub returns-clause-out : goal.returns-clause-out
returns-clause-out c =
    part-out c.take-seat.result c.note.new.seat c.take-seat.ensures.me.1 c.note.ensures.me
    c.args.self.now c.args.loans.now c.part.new.seat c.requires.loans c.take-seat.ensures.me.0 c.part.ensures.me

pub returns-clause-magazines : goal.returns-clause-magazines
returns-clause-magazines c =
    part-magazines c.take-seat.result c.note.new.seat c.take-seat.ensures.me.1 c.note.ensures.me c.part.new.seat c.part.ensures.me

pub returns-clause-bare : goal.returns-clause-bare
returns-clause-bare c =
    part-bare c.take-seat.result c.note.new.seat c.take-seat.ensures.me.1 c.note.ensures.me
    c.args.self.now c.args.loans.now c.part.new.seat c.requires.loans c.take-seat.ensures.me.0 c.part.ensures.me
