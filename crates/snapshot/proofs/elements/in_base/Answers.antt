use Rattle.std.proofs.Common.{◌∷◌, []}
use Rattle.std.proofs.lemmas.Result.{IfOk-weaker}
use Rattle.commons.specs.Bag.{bag, one}
use Rattle.commons.proofs.Bags.{bag-nil, bag-single}
use Rattle.snapshot.specs.inside.Gathered.{HasGathered}
use Rattle.snapshot.proofs.Gathered.{gathered-as, gathered-none}
use Rattle.snapshot.proofs.elements.in_base.Goals as goal

-- a base is named once
pub returns-in-Some : goal.returns-in-Some
returns-in-Some c =
    let elem = c.in-Some.elem in
    let old = c.args.named.now.items in
    let new = c.gather.new.named.items in
    rw c.in-Some.is (IfOk-weaker c.gather.result (λ _. HasGathered c.args.population (one elem) old new)
    (λ _. HasGathered c.args.population (bag (elem ∷ [])) old new)
    (λ _ is. gathered-as c.args.population (one elem) (bag (elem ∷ [])) old new is (bag-single elem)) c.gather.ensures)

-- nothing is named where no base is
pub returns-in-None : goal.returns-in-None
returns-in-None c = rw c.in-None.is (gathered-none c.args.population (bag []) c.args.named.now.items bag-nil)
