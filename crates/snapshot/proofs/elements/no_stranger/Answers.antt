use Rattle.std.proofs.Common.{◌<◌, length, rules, arith}
use Rattle.snapshot.proofs.Gathered.{stranger-first}
use Rattle.snapshot.proofs.elements.no_stranger.Goals as goal

-- they ascend, so the first is the least
pub returns-clause-first : goal.returns-clause-first
returns-clause-first c =
    let some : 0 < length c.args.elems.now = first_of (search rules, grind arith) in
    stranger-first c.args.snapshot.now c.args.elems.now c.requires.clean c.requires.strangers some
