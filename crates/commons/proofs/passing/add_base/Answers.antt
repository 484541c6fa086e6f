use Rattle.std.proofs.Common.{arith}
use Rattle.commons.proofs.Bags.{bag-nil, bag-single, one-same}
use Rattle.commons.proofs.passing.add_base.Goals as goal

-- a base that is there is counted once among the holds to add, so its bound is the caller's
pub add_hold-requires-clause-below : goal.add_hold-requires-clause-below
add_hold-requires-clause-below c =
    let e = c.in-Some.element in
    let below = rw c.in-Some.is at (c.requires.below e) in
    below (omega (arith, bag-single e e, one-same e))

-- the base's holds and one more are what the caller keeps within the greatest count
pub add_hold-requires-clause-few : goal.add_hold-requires-clause-few
add_hold-requires-clause-few c =
    let e = c.in-Some.element in
    let few = rw c.in-Some.is at (c.requires.few e) in
    omega (arith, few, bag-single e e, one-same e)

-- the row has one hold of the base more, which is all that a base holds
pub returns-in-Some-clause-holds : goal.returns-in-Some-clause-holds
returns-in-Some-clause-holds c =
    λ i. rw c.in-Some.is (omega (arith, c.add_hold.ensures.holds i, bag-single c.in-Some.element i))

pub returns-in-None-clause-holds : goal.returns-in-None-clause-holds
returns-in-None-clause-holds c = λ i. rw c.in-None.is (omega (arith, bag-nil i))
