use Rattle.std.proofs.Common.{ℕ, ◌≡◌, ◌<◌, ◌≤◌, get_or}
use Rattle.mbufpool_c.proofs.told.give_numbers.Given as goal

-- what was passed is given, and the rest is as it was
abbrev pub invariant-loop-k : goal.invariant-loop-k
invariant-loop-k l = record {
  given : (j d : ℕ) → j < l.k → get_or l.out j d ≡ get_or l.numbers j (get_or l.fn.out j d);
  stays : (j d : ℕ) → l.k ≤ j → get_or l.out j d ≡ get_or l.fn.out j d;
}
