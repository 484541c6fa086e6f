use Rattle.std.proofs.Common.{◌≡◌, length}
use Rattle.snapshot.proofs.HeldEntries.{entries_to}
use Rattle.snapshot.proofs.placing.held.Given as goal

-- the entries of the held elements so far
abbrev pub invariant-loop-i : goal.invariant-loop-i
invariant-loop-i l = l.held.items ≡ entries_to l.snapshot (length l.yielded)
