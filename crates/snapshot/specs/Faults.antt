-- The faults of a snapshot, and which of them is the first.
use Rattle.std.specs.Prelude.{ℕ, ◌≡◌, ◌≢◌, ◌⊎◌, ◌<◌, ◌≤◌, ◌+◌, min, max, List, Contains, length, slice_index}
use Rattle.commons.specs.Packets.{IsPacket}
use Rattle.commons.specs.declared.packet.Seg.{Seg}
use Rattle.snapshot.specs.declared.fault.Fault.{Fault}
use Rattle.snapshot.specs.declared.fault.Fault.TheVariants.{BadShape, BadTop, Loop, BadLength, BadElem, BadPacket, DoubleHeader, Doubled, Lost, BadCount, OutOfMemory}
use Rattle.snapshot.specs.declared.snapshot.Snapshot.{Snapshot}
use Rattle.snapshot.specs.Snapshots.{walk, words_met, times_free, times_held, times_own, times_named, HasPacket, HasShape}

-- the snapshot has this fault
abbrev pub IsFault : Snapshot → Fault → Type 0
IsFault s BadShape = ¬ (HasShape s)
IsFault s (BadTop v) = Contains (words_met s) v × (s.limits.population < v)
IsFault s Loop = s.limits.population < length (walk s)
IsFault s (BadLength word found) = (word ≡ s.length) × (found ≡ length (walk s)) × (word ≢ found)
IsFault s (BadElem v) = (0 < times_named s v) × (s.limits.population ≤ v)
IsFault s BadPacket = (segs : List Seg) × HasPacket s segs × (¬ (IsPacket segs))
IsFault s (DoubleHeader e) = 1 < times_own s e
IsFault s (Doubled e) = 1 < times_free s e + min 1 (times_held s e)
IsFault s (Lost e) = (e < s.limits.population) × (times_free s e + times_held s e ≡ 0)
IsFault s (BadCount e word holds) =
    (e < s.limits.population) × (word ≡ slice_index s.counts e) × (holds ≡ times_held s e)
    × (word ≢ max 1 holds)
IsFault s OutOfMemory = ⊥

-- the order in which the kinds of faults are looked for
abbrev pub rank : Fault → ℕ
rank BadShape = 0
rank (BadTop v) = 1
rank Loop = 2
rank (BadLength word found) = 3
rank (BadElem v) = 4
rank BadPacket = 5
rank (DoubleHeader e) = 6
rank (Doubled e) = 7
rank (Lost e) = 8
rank (BadCount e word holds) = 9
rank OutOfMemory = 10

-- the element or word that it names; 0 where it names none
abbrev pub subject : Fault → ℕ
subject BadShape = 0
subject (BadTop v) = v
subject Loop = 0
subject (BadLength word found) = 0
subject (BadElem v) = v
subject BadPacket = 0
subject (DoubleHeader e) = e
subject (Doubled e) = e
subject (Lost e) = e
subject (BadCount e word holds) = e
subject OutOfMemory = 0

-- the one is looked for before the other: its kind is, or they are of one kind, and it names the
-- lesser
abbrev pub IsBefore : Fault → Fault → Type 0
IsBefore f g = (rank f < rank g) ⊎ ((rank f ≡ rank g) × (subject f < subject g))

-- the snapshot has the fault, and none before it
abbrev pub IsFirstFault : Snapshot → Fault → Type 0
IsFirstFault s f = IsFault s f × ((g : Fault) → IsFault s g → ¬ (IsBefore g f))

-- the snapshot has no fault of the first kinds, this many
abbrev pub IsCleanBelow : ℕ → Snapshot → Type 0
IsCleanBelow n s = (g : Fault) → IsFault s g → n ≤ rank g
