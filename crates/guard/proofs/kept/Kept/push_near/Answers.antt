use Rattle.std.proofs.Common.{arith, subst, sym, ◌<◌}
use Rattle.guard.specs.Keeping.{Keep}
use Rattle.guard.proofs.Keeping.{taken, adds-to, more-last, longer-last}
use Rattle.guard.proofs.kept.Kept.push_near.Goals as goal

-- it is on top
pub returns : goal.returns
returns c =
    let old = c.self.inside.ready.items in let new = c.push_reserved.new.self.items in let waits = c.self.inside.waits.items in
    let push = c.push_reserved.ensures.items in
    let near = subst (λ (k : Keep). 0 < k.near) (sym c.self.view_is) c.requires in
    adds-to _ _ _ _ c.self.view_is
    (taken c.args.element new waits old waits _ _
    (let a = longer-last _ _ _ push in omega arith)
    (λ i. let a = more-last _ _ _ push i in omega arith)
    (let a = longer-last _ _ _ push in let b = c.self.invariant.1 in let d = c.self.invariant.2 in omega arith))
