use Rattle.std.proofs.Common.{◌≡◌, ◌<◌, ℕ, get_or}
use Rattle.mbuf.proofs.free_slots.FreeSlots.lowest.Given as goal

-- the words so far are 0
abbrev pub invariant-loop-index : goal.invariant-loop-index
invariant-loop-index l = (j : ℕ) → j < l.index → get_or l.word-items j 0 ≡ 0
