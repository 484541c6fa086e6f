use Rattle.mbufpool_c.specs.Guarded.{GetsOneGuard}
use Rattle.mbufpool_c.proofs.GuardLemmas.{does}
use Rattle.mbufpool_c.proofs.guarded.get_one_apart.Goals as goal

-- the handle lent its worker, which got or was refused
pub returns-clause-called : goal.returns-clause-called
returns-clause-called c =
    let did = c.get_one-answer.ensures in
    does (GetsOneGuard c.get_one-answer.new.out) c.args.worker.now.value c.lend.result.now
    c.get_one-answer.new.self c.status_of.result c.lend.ensures.value did.same did.since
    (c.get_one-answer.result, c.status_of.ensures, did.got)
