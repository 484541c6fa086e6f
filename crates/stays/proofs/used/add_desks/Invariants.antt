use Rattle.std.proofs.Common.{◌≡◌, ◌++◌, map, take}
use Rattle.stays.specs.Stays.{desk_use}
use Rattle.stays.proofs.used.add_desks.Given as goal

-- the packets so far
abbrev pub invariant-loop-packet : goal.invariant-loop-packet
invariant-loop-packet l =
    l.used.items ≡ l.fn.used.items ++ map desk_use (take l.packet-index l.desks)
