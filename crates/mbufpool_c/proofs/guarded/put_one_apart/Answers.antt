use Rattle.mbufpool_c.specs.Guarded.{PutsOneGuard}
use Rattle.mbufpool_c.proofs.GuardLemmas.{does}
use Rattle.mbufpool_c.proofs.guarded.put_one_apart.Goals as goal

-- the handle lent its worker, which put or was refused
pub returns : goal.returns
returns c =
    let did = c.put_one-answer.ensures in
    record {
      called =
          does (PutsOneGuard c.args.element) c.args.worker.now.value c.lend.result.now
          c.put_one-answer.new.self c.status_of_put.result c.lend.ensures.value did.same did.since
          (c.put_one-answer.result, c.status_of_put.ensures, did.put);
    }
