use Rattle.std.proofs.Common.{◌≡◌, replicate, None}
use Rattle.commons.proofs.site.no_packets.Given as goal

abbrev pub invariant-loop : goal.invariant-loop
invariant-loop l = l.packets.items ≡ replicate l.counter None
