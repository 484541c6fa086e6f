-- How a `Twin` is kept. No public clause cites this module.
use Rattle.std.specs.Prelude.{◌≡◌}
use Rattle.mbuf.specs.Twins.{TwinMember}
use Rattle.mbuf.specs.declared.twin.Twin.TheInside.{Inside}

abbrev pub twin_of : Inside → TwinMember
twin_of t = record { first = t.first; second = t.second }

-- it is one worker in both pools
abbrev pub IsKept : Inside → Type 0
IsKept t = t.second.number ≡ t.first.number
