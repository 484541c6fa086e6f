-- How many steps a call takes at most, and what it read.
use Rattle.std.specs.Prelude.{ℕ, ◌+◌, ◌*◌, ◌≤◌, List, length, Ok, Err}
use Rattle.commons.specs.Calls.{Call, GetList, PutList, Claim, CountOf, Raise, Lower, Offer, Take, CommonCount, HasCause}
use Rattle.commons.specs.declared.limits.Limits.{Limits}
use Rattle.stack_lf.specs.Tries.{Try, IsOfCall, notes_of, readings_of}

-- how many steps on words are noted; the exchange of what is in a desk's slot is noted nowhere
abbrev pub most_steps : Limits → Call → ℕ
most_steps l (GetList n answer) = l.tries * (n + 4) + 1
most_steps l (PutList xs answer) = l.tries * (length xs + 2) + 1
most_steps l (Claim i) = 1
most_steps l (CountOf i n) = 1
most_steps l (Raise i answer) = 2 * l.tries
most_steps l (Lower i answer) = 3
most_steps l (Offer d packet (Ok _)) = 2
most_steps l (Offer d packet (Err e)) = 1
most_steps l (Take d (Ok packet)) = 2
most_steps l (Take d (Err e)) = 1
most_steps l (CommonCount n) = 1

abbrev pub AreBounded : Type 0
AreBounded =
    (l : Limits) (call : Call) (ts : List Try) → IsOfCall l call ts →
    length (notes_of ts) ≤ most_steps l call

-- what the tries of a call read last of its kind is the cause of its answer
abbrev pub AreCauses : Type 0
AreCauses =
    (l : Limits) (call : Call) (ts : List Try) → IsOfCall l call ts →
    HasCause l call (readings_of ts)
