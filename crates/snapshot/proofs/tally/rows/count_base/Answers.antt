use Rattle.std.proofs.Common.{◌∷◌, [], arith}
use Rattle.commons.specs.Bag.{bag, one}
use Rattle.commons.proofs.Bags.{bag-nil, bag-single}
use Rattle.snapshot.proofs.Meetings.{met-as, met-none}
use Rattle.snapshot.proofs.tally.rows.count_base.Goals as goal

-- and is counted once
pub returns-in-Some : goal.returns-in-Some
returns-in-Some c = rw c.in-Some.is (met-as (one c.in-Some.elem) (bag (c.in-Some.elem ∷ [])) _ _ c.count.ensures
    (bag-single c.in-Some.elem))

-- where there is none, nothing is counted
pub returns-in-None : goal.returns-in-None
returns-in-None c =
    rw c.in-None.is
    (met-none (bag []) c.args.row.now.items (λ i l. omega (arith, c.type_inv.row i 0 l)) bag-nil)
