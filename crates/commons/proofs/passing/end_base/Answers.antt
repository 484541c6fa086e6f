use Rattle.std.proofs.Common.{arith}
use Rattle.commons.proofs.Bags.{bag-single, one-same}
use Rattle.commons.proofs.EndedRows.{ended-none}
use Rattle.commons.proofs.passing.end_base.Goals as goal

-- a base that is there is one of the holds that end, so the row has a hold of it
pub end_hold-requires-clause-held : goal.end_hold-requires-clause-held
end_hold-requires-clause-held c =
    let e = c.in-Some.element in
    let held = rw c.in-Some.is at (c.requires.held e) in
    omega (arith, held, bag-single e e, one-same e)

pub returns-in-None : goal.returns-in-None
returns-in-None c = rw c.in-None.is (ended-none c.args.worker c.args.row.now c.args.headers.now.items)
