use Rattle.std.proofs.Common.{[]}
use Rattle.commons.specs.Bag.{bag}
use Rattle.commons.proofs.Bags.{bag-nil}
use Rattle.snapshot.proofs.Gathered.{gathered-none}
use Rattle.snapshot.proofs.elements.in_place.Goals as goal

-- nothing is named where no packet is
pub returns-in-None : goal.returns-in-None
returns-in-None c = rw c.in-None.is (gathered-none c.args.population (bag []) c.args.named.now.items bag-nil)
