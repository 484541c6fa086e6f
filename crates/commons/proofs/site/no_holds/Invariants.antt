use Rattle.std.proofs.Common.{◌≡◌, replicate}
use Rattle.commons.proofs.site.no_holds.Given as goal

abbrev pub invariant-loop : goal.invariant-loop
invariant-loop l = l.rows.items ≡ replicate l.counter (replicate l.population 0)
