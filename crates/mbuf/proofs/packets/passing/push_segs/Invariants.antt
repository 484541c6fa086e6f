use Rattle.std.proofs.Common.{◌≡◌, ◌++◌, [], get_or, set, take}
use Rattle.mbuf.proofs.packets.passing.push_segs.Given as goal

-- the segments so far stand behind the others
abbrev pub invariant-loop-index : goal.invariant-loop-index
invariant-loop-index l =
    l.packets.items ≡ set l.fn.packets.items l.first (get_or l.fn.packets.items l.first []
    ++ take l.index (get_or l.fn.packets.items l.second []))
