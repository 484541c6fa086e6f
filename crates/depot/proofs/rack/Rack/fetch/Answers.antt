use Rattle.std.proofs.Common.{arith}
use Rattle.depot.proofs.Racking.{behind-size}
use Rattle.depot.proofs.Swapping.{come-racked, come-lent, come-suits, come-gains, come-logs, come-room}
use Rattle.depot.proofs.rack.Rack.fetch.Goals as goal

-- there is room for one more
pub push_front_reserved-requires : goal.push_front_reserved-requires
push_front_reserved-requires c =
    let e = c.in-Ok.ensures in
    let n = c.note.ensures in
    let few = come-room _ _ c.take.new.seat c.note.new.seat c.args.stack _ c.requires.racked n.of e.did n.me n.owned in
    let size = behind-size _ c.args.self.now c.requires.racked in
    let len = c.args.self.now.behind.ok.0 in
    let room = c.requires.racked.capacity in
    omega arith

-- a magazine came
pub returns-in-Ok-clause-racked : goal.returns-in-Ok-clause-racked
returns-in-Ok-clause-racked c =
    let e = c.in-Ok.ensures in
    let n = c.note.ensures in
    let p = c.push_front_reserved.ensures in
    come-racked _ _ c.take.new.seat _ c.args.stack _ c.requires.racked n.of e.did n.me n.owned _ p.items p.capacity

pub returns-in-Ok-clause-logs : goal.returns-in-Ok-clause-logs
returns-in-Ok-clause-logs c =
    let e = c.in-Ok.ensures in
    let n = c.note.ensures in
    come-logs _ _ c.take.new.seat c.note.new.seat c.args.stack _ c.requires.racked n.of e.did n.me n.owned

pub returns-in-Ok-clause-lent : goal.returns-in-Ok-clause-lent
returns-in-Ok-clause-lent c =
    let e = c.in-Ok.ensures in
    let n = c.note.ensures in
    come-lent _ _ c.take.new.seat c.note.new.seat c.args.stack _ c.requires.racked n.of e.did n.me n.owned

pub returns-in-Ok-clause-suits : goal.returns-in-Ok-clause-suits
returns-in-Ok-clause-suits c =
    let e = c.in-Ok.ensures in
    let n = c.note.ensures in
    come-suits _ _ c.take.new.seat c.note.new.seat c.args.stack _ c.requires.racked n.of e.did n.me n.owned

pub returns-in-Ok-clause-gains : goal.returns-in-Ok-clause-gains
returns-in-Ok-clause-gains c =
    let e = c.in-Ok.ensures in
    let n = c.note.ensures in
    come-gains _ _ c.take.new.seat c.note.new.seat c.args.stack _ c.requires.racked n.of e.did n.me n.owned
