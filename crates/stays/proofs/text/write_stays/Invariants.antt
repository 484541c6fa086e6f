use Rattle.std.proofs.Common.{◌≡◌, ◌++◌, take}
use Rattle.std.specs.List.{flat_map}
use Rattle.stays.specs.StayText.{stay_text}
use Rattle.stays.proofs.text.write_stays.Given as goal

-- the lines so far
abbrev pub invariant-loop-used : goal.invariant-loop-used
invariant-loop-used l = l.out.items ≡ l.fn.out.items ++ flat_map stay_text (take l.used-index l.stay)
