use Rattle.std.proofs.Common.{[]}
use Rattle.commons.specs.Bag.{bag}
use Rattle.commons.proofs.Bags.{bag-nil}
use Rattle.snapshot.proofs.Marks.{marked-none}
use Rattle.snapshot.proofs.lost.mark_place.Goals as goal

-- an empty place holds nothing
pub returns-in-None : goal.returns-in-None
returns-in-None c = rw c.in-None.is (marked-none (bag []) c.args.met.now.items bag-nil)
