use Rattle.std.proofs.Common.{arith}
use Rattle.std.proofs.lemmas.Bool.{eqb-true}
use Rattle.depot.proofs.Calls.{slots_are}
use Rattle.depot.proofs.Gathering.{all-are}
use Rattle.depot.proofs.rack.Rack.has_all.Goals as goal

-- as many magazines as there are, each of them once, are all
pub returns-clause-all : goal.returns-clause-all
returns-clause-all c = λ is.
    let as_many = eqb-true c.count.result c.slot_count.result is in
    let has = c.count.ensures.count in
    let are = c.slot_count.ensures in
    let slots = slots_are c.depot.invariant c.depot.view_is in
    all-are c.args.depot.now c.args.self.now c.note.new.seat c.requires.racked c.note.ensures.owned c.note.ensures.me
    (omega arith)
