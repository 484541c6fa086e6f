use Rattle.std.proofs.Common.{arith}
use Rattle.guard.proofs.Keeping.{takes-last}
use Rattle.guard.proofs.kept.Kept.ready.Goals as goal

-- the last of those that are ready, or nothing
pub returns : goal.returns
returns c =
    takes-last c.pop.result _ c.self.inside.ready.items _ _ _ _ c.self.view_is c.pop.ensures.items
    (let a = c.self.invariant.0 in let b = c.self.invariant.1 in omega arith)
