use Rattle.depot.specs.Racks.{front_of}
use Rattle.depot.proofs.Racking.{is-front}
use Rattle.depot.proofs.Swapping.{front-out, front-inside, front-in-hand, go-racked, go-lent, go-yields, stay-keeps, stay-racked}
use Rattle.depot.proofs.rack.Rack.give.Goals as goal

-- the magazine in front is out with the seat
pub give-requires-clause-inside : goal.give-requires-clause-inside
give-requires-clause-inside c = front-inside _ _ c.requires.racked

pub give-requires-clause-out : goal.give-requires-clause-out
give-requires-clause-out c = front-out _ _ c.requires.racked

pub give-requires-clause-elements : goal.give-requires-clause-elements
give-requires-clause-elements c = (
  front_of c.args.self.now.seat.me.1,
  is-front _ _ c.requires.racked,
  front-in-hand _ _ c.requires.racked,
  c.requires.suits,
)

-- it went
pub returns-in-Some-clause-racked : goal.returns-in-Some-clause-racked
returns-in-Some-clause-racked c =
    let e = c.in-Ok.ensures in
    let did = e.did _ (is-front _ _ c.requires.racked) in
    let pop = c.in-Some.ensures in
    go-racked _ c.args.self.now c.give.new.seat c.requires.racked e.of did _ _ pop.items pop.capacity

pub returns-in-Some-clause-logs : goal.returns-in-Some-clause-logs
returns-in-Some-clause-logs c = (c.in-Ok.ensures.did _ (is-front _ _ c.requires.racked)).logs

pub returns-in-Some-clause-lent : goal.returns-in-Some-clause-lent
returns-in-Some-clause-lent c =
    let e = c.in-Ok.ensures in
    let did = e.did _ (is-front _ _ c.requires.racked) in
    go-lent _ c.args.self.now c.give.new.seat c.requires.racked e.of did

pub returns-in-Some-clause-yields : goal.returns-in-Some-clause-yields
returns-in-Some-clause-yields c =
    let e = c.in-Ok.ensures in
    let did = e.did _ (is-front _ _ c.requires.racked) in
    go-yields _ c.args.self.now c.give.new.seat c.requires.racked e.of did

-- it didn't
pub returns-in-Err-clause-racked : goal.returns-in-Err-clause-racked
returns-in-Err-clause-racked c =
    let e = c.in-Err.ensures in
    let did = e.did _ (is-front _ _ c.requires.racked) in
    stay-racked _ c.args.self.now c.give.new.seat c.requires.racked e.of did.0

pub returns-in-Err-clause-logs : goal.returns-in-Err-clause-logs
returns-in-Err-clause-logs c = (c.in-Err.ensures.did _ (is-front _ _ c.requires.racked)).0.logs

pub returns-in-Err-clause-lent : goal.returns-in-Err-clause-lent
returns-in-Err-clause-lent c =
    (stay-keeps c.args.depot.now.rounds _ _ (c.in-Err.ensures.did _ (is-front _ _ c.requires.racked)).0).lent

pub returns-in-Err-clause-keeps : goal.returns-in-Err-clause-keeps
returns-in-Err-clause-keeps c = stay-keeps _ _ _ (c.in-Err.ensures.did _ (is-front _ _ c.requires.racked)).0

pub returns-in-Err-clause-cause : goal.returns-in-Err-clause-cause
returns-in-Err-clause-cause c = (c.in-Err.ensures.did _ (is-front _ _ c.requires.racked)).1
