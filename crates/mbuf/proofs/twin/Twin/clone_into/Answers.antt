use Rattle.std.proofs.Common.{sym}
use Rattle.mbuf.proofs.twin.Twin.clone_into.Goals as goal

-- The calls are those of the clone.
pub returns-clause-calls : goal.returns-clause-calls
returns-clause-calls g c = rw (sym c.self.view_is) c.clone_foreign.ensures.calls
