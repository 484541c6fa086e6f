use Rattle.std.proofs.Common.{sym}
use Rattle.mbuf.proofs.packets.Packets.flush.Goals as goal

-- The cache's flush makes the calls, and the packets take no part in it.
pub returns-clause-calls : goal.returns-clause-calls
returns-clause-calls g c = rw (sym c.self.view_is) c.flush.ensures.calls
