use Rattle.std.proofs.Common.{◌≡◌, All}
use Rattle.mbufpool_c.proofs.shared.entries_of.Given as goal

abbrev pub invariant-loop : goal.invariant-loop
invariant-loop l = All (λ tag. tag ≡ l.ground) l.entries.items
