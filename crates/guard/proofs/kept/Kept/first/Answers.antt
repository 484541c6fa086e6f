use Rattle.std.proofs.Common.{arith, sym, ap, length}
use Rattle.guard.proofs.Keeping.{taken, takes-of, takes-first, is-first, more-first}
use Rattle.guard.proofs.kept.Kept.first.Goals as goal

-- the first of those that are ready
pub returns-then-len-gt0 : goal.returns-then-len-gt0
returns-then-len-gt0 c =
    let old = c.self.inside.ready in let e = c.remove.ensures in let ok = old.ok.0 in let some = c.if-len-gt0.true in
    let is = is-first c.remove.result old.items c.remove.new.self.items (omega arith) e.value e.items in
    takes-of _ _ _ _ c.self.view_is
    (taken c.remove.result old.items c.self.inside.waits.items c.remove.new.self.items c.self.inside.waits.items _ _
    (let all = ap (λ l. length l) is in omega arith)
    (λ i. let more = more-first _ _ _ is i in omega arith)
    (let a = c.self.invariant.0 in let b = c.self.invariant.1 in omega arith))

-- or of those that wait
pub returns : goal.returns
returns c =
    let old = c.self.inside.waits in let pop = c.pop_front.ensures in let ok = c.self.inside.ready.ok.0 in
    let none = c.if-len-gt0.false in
    takes-first c.pop_front.result _ c.self.inside.ready.items old.items _ _ _ _ _ _ c.self.view_is (omega arith)
    pop.items (sym old.ok.0) pop.cases
    (let a = c.self.invariant.0 in let b = c.self.invariant.1 in omega arith) (omega arith)
