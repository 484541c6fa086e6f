use Rattle.std.proofs.Common.{sym}
use Rattle.mbuf.proofs.twin.Twin.free_clone.Goals as goal

-- The calls are those of the free.
pub returns-clause-calls : goal.returns-clause-calls
returns-clause-calls g c = rw (sym c.self.view_is) c.free_foreign.ensures.calls
