-- A call that was interrupted left what is known as it was.
use Rattle.std.specs.Io.KnownBytes.{Keeps}
use Rattle.script_io.proofs.retrying.RetryingRead.read.Given as goal

abbrev pub invariant-loop : goal.invariant-loop
invariant-loop g l = Keeps (g.R.Read.remaining l.initial.self.0) (g.R.Read.remaining l.self.0)
