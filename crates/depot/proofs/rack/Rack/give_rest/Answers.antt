use Rattle.depot.specs.declared.view.Stack.TheVariants.{Partial}
use Rattle.depot.specs.Racks.{front_of}
use Rattle.depot.proofs.Logging.{gave, gave_not}
use Rattle.depot.proofs.Racking.{is-front}
use Rattle.depot.proofs.Swapping.{front-out, front-inside, front-in-hand, go-racked, go-lent, go-yields, stay-keeps, stay-racked}
use Rattle.depot.proofs.rack.Rack.give_rest.Goals as goal

-- the magazine in front is out with the seat
pub try_give-requires-clause-inside : goal.try_give-requires-clause-inside
try_give-requires-clause-inside c = front-inside _ _ c.requires.racked

pub try_give-requires-clause-out : goal.try_give-requires-clause-out
try_give-requires-clause-out c = front-out _ _ c.requires.racked

pub try_give-requires-clause-elements : goal.try_give-requires-clause-elements
try_give-requires-clause-elements c = (
  front_of c.args.self.now.seat.me.1,
  is-front _ _ c.requires.racked,
  front-in-hand _ _ c.requires.racked,
  c.requires.suits,
)

-- it went
pub returns-in-Some-clause-racked : goal.returns-in-Some-clause-racked
returns-in-Some-clause-racked c =
    let e = c.in-Ok-true.ensures in
    let did = gave c.args.depot.now.tries Partial _ _ _ _ _ c.in-Ok-true.field-0 c.in-Ok-true.field-0-test (e.once _ (is-front _ _ c.requires.racked)) in
    let pop = c.in-Some.ensures in
    go-racked _ c.args.self.now c.try_give.new.seat c.requires.racked e.of did _ _ pop.items pop.capacity

pub returns-in-Some-clause-logs : goal.returns-in-Some-clause-logs
returns-in-Some-clause-logs c =
    (gave c.args.depot.now.tries Partial _ _ _ _ _ c.in-Ok-true.field-0 c.in-Ok-true.field-0-test (c.in-Ok-true.ensures.once _ (is-front _ _ c.requires.racked))).logs

pub returns-in-Some-clause-lent : goal.returns-in-Some-clause-lent
returns-in-Some-clause-lent c =
    let e = c.in-Ok-true.ensures in
    let did = gave c.args.depot.now.tries Partial _ _ _ _ _ c.in-Ok-true.field-0 c.in-Ok-true.field-0-test (e.once _ (is-front _ _ c.requires.racked)) in
    go-lent _ c.args.self.now c.try_give.new.seat c.requires.racked e.of did

pub returns-in-Some-clause-went : goal.returns-in-Some-clause-went
returns-in-Some-clause-went c =
    let e = c.in-Ok-true.ensures in
    let did = gave c.args.depot.now.tries Partial _ _ _ _ _ c.in-Ok-true.field-0 c.in-Ok-true.field-0-test (e.once _ (is-front _ _ c.requires.racked)) in
    λ is. go-yields _ c.args.self.now c.try_give.new.seat c.requires.racked e.of did

-- another partial one is there
pub returns-in-Ok-false-clause-racked : goal.returns-in-Ok-false-clause-racked
returns-in-Ok-false-clause-racked c =
    let e = c.in-Ok-false.ensures in
    let did = gave_not c.args.depot.now.tries Partial _ _ _ _ _ c.in-Ok-false.field-0 c.in-Ok-false.field-0-test (e.once _ (is-front _ _ c.requires.racked)) in
    stay-racked _ c.args.self.now c.try_give.new.seat c.requires.racked e.of did.stays

pub returns-in-Ok-false-clause-logs : goal.returns-in-Ok-false-clause-logs
returns-in-Ok-false-clause-logs c =
    (gave_not c.args.depot.now.tries Partial _ _ _ _ _ c.in-Ok-false.field-0 c.in-Ok-false.field-0-test (c.in-Ok-false.ensures.once _ (is-front _ _ c.requires.racked))).stays.logs

pub returns-in-Ok-false-clause-lent : goal.returns-in-Ok-false-clause-lent
returns-in-Ok-false-clause-lent c =
    (stay-keeps c.args.depot.now.rounds _ _ (gave_not c.args.depot.now.tries Partial _ _ _ _ _ c.in-Ok-false.field-0 c.in-Ok-false.field-0-test (c.in-Ok-false.ensures.once _ (is-front _ _ c.requires.racked))).stays).lent

pub returns-in-Ok-false-clause-lost : goal.returns-in-Ok-false-clause-lost
returns-in-Ok-false-clause-lost c =
    let did = gave_not c.args.depot.now.tries Partial _ _ _ _ _ c.in-Ok-false.field-0 c.in-Ok-false.field-0-test (c.in-Ok-false.ensures.once _ (is-front _ _ c.requires.racked)) in
    λ is. did.lost

-- it was refused
pub returns-in-Err-clause-racked : goal.returns-in-Err-clause-racked
returns-in-Err-clause-racked c =
    let e = c.in-Err.ensures in
    stay-racked _ c.args.self.now c.try_give.new.seat c.requires.racked e.of (e.once _ (is-front _ _ c.requires.racked)).0

pub returns-in-Err-clause-logs : goal.returns-in-Err-clause-logs
returns-in-Err-clause-logs c = (c.in-Err.ensures.once _ (is-front _ _ c.requires.racked)).0.logs

pub returns-in-Err-clause-lent : goal.returns-in-Err-clause-lent
returns-in-Err-clause-lent c =
    (stay-keeps c.args.depot.now.rounds _ _ (c.in-Err.ensures.once _ (is-front _ _ c.requires.racked)).0).lent

pub returns-in-Err-clause-cause : goal.returns-in-Err-clause-cause
returns-in-Err-clause-cause c = (c.in-Err.ensures.once _ (is-front _ _ c.requires.racked)).1
