use Rattle.std.proofs.Common.{◌≡◌, List}
use Rattle.stays.specs.Stays.{has_parts}
use Rattle.stays.specs.declared.used.Part.{Part}
use Rattle.stays.specs.inside.Knowing.{has_key}
use Rattle.stays.proofs.known.Known.of.Given as goal

-- the table has the packets so far
abbrev pub invariant-loop-one : goal.invariant-loop-one
invariant-loop-one l = (parts : List Part) → has_key l.keys parts ≡ has_parts l.yielded parts
