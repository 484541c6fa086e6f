use Rattle.std.proofs.Common.{◌≤◌}
use Rattle.mbufpool_c.specs.Closes.{HaveSame}
use Rattle.mbufpool_c.proofs.closing.count_marked.Given as goal

abbrev pub invariant-loop-k : goal.invariant-loop-k
invariant-loop-k l = record {
  few : l.count ≤ l.k;
  same : HaveSame l.fn.handles l.handles;
}
