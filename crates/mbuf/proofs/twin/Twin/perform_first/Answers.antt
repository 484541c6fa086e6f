use Rattle.std.proofs.Common.{sym}
use Rattle.mbuf.specs.Foreign.{bases_in}
use Rattle.mbuf.proofs.twin.Twin.perform_first.Goals as goal

-- The packets of the first pool stay the worker's own with the same guests, and the second pool was
-- asked nothing.
pub returns-clause-own : goal.returns-clause-own
returns-clause-own g c =
    let own = rw (sym c.self.view_is) at c.requires.own in record {
      first = c.perform.ensures.guests (bases_in c.self.inside.second.table) own.first;
      second = own.second;
    }
