use Rattle.std.proofs.Common.{◌≡◌, ◌+◌, ◌-◌, length}
use Rattle.mbuf.proofs.clones.refit.Given as goal

-- as many segments stand there as were counted
abbrev pub invariant-loop : goal.invariant-loop
invariant-loop l = length l.packet + (l.count - l.counter) ≡ l.count
