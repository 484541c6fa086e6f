use Rattle.std.proofs.Common.{◌≡◌, map, take}
use Rattle.stays.specs.Stays.{part_of}
use Rattle.stays.proofs.used.parts.Given as goal

-- the segments so far
abbrev pub invariant-loop-seg : goal.invariant-loop-seg
invariant-loop-seg l = l.parts.items ≡ map part_of (take l.seg-index l.segs)
