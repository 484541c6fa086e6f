use Rattle.std.proofs.Common.{arith, subst, sym, ap, ◌<◌, length}
use Rattle.commons.specs.Bag.{bag}
use Rattle.guard.specs.Keeping.{Keep}
use Rattle.std.proofs.lemmas.List.{length-append}
use Rattle.guard.proofs.Keeping.{taken, adds-to, more-last, longer-last, more-first}
use Rattle.guard.proofs.kept.Kept.push.Goals as goal

-- it waits
pub returns-then-len-self : goal.returns-then-len-self
returns-then-len-self c =
    let ready = c.self.inside.ready.items in let old = c.self.inside.waits.items in
    let new = c.push_back_reserved.new.self.items in let push = c.push_back_reserved.ensures.items in
    let room = subst (λ (k : Keep). length k.items < k.most) (sym c.self.view_is) c.requires in
    let sum = length-append ready old in
    adds-to _ _ _ _ c.self.view_is
    (taken c.args.element ready new ready old _ _
    (let a = longer-last _ _ _ push in omega arith)
    (λ i. let a = more-last _ _ _ push i in omega arith)
    (let a = longer-last _ _ _ push in omega arith))

-- the first of those that wait is ready, and it waits
pub returns-in-Some : goal.returns-in-Some
returns-in-Some c =
    let ready = c.self.inside.ready.items in let old = c.self.inside.waits.items in
    let pop = c.in-Some.ensures.items in
    let push = c.push_back_reserved-in-Some.ensures.items in let top = c.push_reserved.ensures.items in
    let room = subst (λ (k : Keep). length k.items < k.most) (sym c.self.view_is) c.requires in
    let sum = length-append ready old in
    adds-to _ _ _ _ c.self.view_is
    (taken c.args.element c.push_reserved.new.self.items c.push_back_reserved-in-Some.new.self.items ready old _ _
    (let a = longer-last _ _ _ push in let b = longer-last _ _ _ top in let d = ap (λ l. length l) pop in omega arith)
    (λ i. let a = more-last _ _ _ push i in let b = more-last _ _ _ top i in let d = more-first _ _ _ pop i in omega arith)
    (let a = longer-last _ _ _ push in let b = longer-last _ _ _ top in let d = ap (λ l. length l) pop in omega arith))

-- none is to wait
pub returns-in-None : goal.returns-in-None
returns-in-None c =
    let ready = c.self.inside.ready.items in let old = c.self.inside.waits.items in
    let pop = c.in-None.ensures.items in let top = c.push_reserved-in-None.ensures.items in
    let room = subst (λ (k : Keep). length k.items < k.most) (sym c.self.view_is) c.requires in
    let sum = length-append ready old in
    adds-to _ _ _ _ c.self.view_is
    (taken c.args.element c.push_reserved-in-None.new.self.items c.pop_front.new.self.items ready old _ _
    (let b = longer-last _ _ _ top in let d = ap (λ l. length l) pop in omega arith)
    (λ i. let b = more-last _ _ _ top i in let d = ap (λ l. bag l i) pop in omega arith)
    (let b = longer-last _ _ _ top in let d = ap (λ l. length l) pop in omega arith))
