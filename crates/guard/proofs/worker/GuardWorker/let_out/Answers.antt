use Rattle.std.proofs.Common.{refl}
use Rattle.guard.proofs.Workers.{its-own}
use Rattle.guard.proofs.Steps.{out-body, out-got}
use Rattle.guard.proofs.worker.GuardWorker.let_out.Goals as goal

pub rest_out-requires-clause-number : goal.rest_out-requires-clause-number
rest_out-requires-clause-number c = its-own _ _ c.requires.body _ refl

-- it is out now
pub returns-clause-body : goal.returns-clause-body
returns-clause-body c =
    let r = c.rest_out.ensures in
    out-body _ _ c.requires.body _ c.requires.inside c.rest_out.new.self r.racked r.me _ c.set.ensures _ refl

pub returns-clause-got : goal.returns-clause-got
returns-clause-got c =
    let r = c.rest_out.ensures in out-got _ _ c.requires.body _ c.requires.inside c.rest_out.new.self r.racked r.me
