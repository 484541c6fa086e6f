use Rattle.std.proofs.Common.{◌∷◌, []}
use Rattle.commons.specs.Bag.{bag, one}
use Rattle.commons.proofs.Bags.{bag-nil, bag-single}
use Rattle.snapshot.proofs.Marks.{marked-as, marked-none}
use Rattle.snapshot.proofs.lost.marks.mark_base.Goals as goal

-- a base is held once
pub returns-in-Some : goal.returns-in-Some
returns-in-Some c = rw c.in-Some.is (marked-as (one c.in-Some.elem) (bag (c.in-Some.elem ∷ [])) _ _ c.mark.ensures
    (bag-single c.in-Some.elem))

-- where there is none, nothing is marked
pub returns-in-None : goal.returns-in-None
returns-in-None c = rw c.in-None.is (marked-none (bag []) c.args.met.now.items bag-nil)
