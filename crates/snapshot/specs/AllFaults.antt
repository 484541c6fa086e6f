-- Every fault of a snapshot that is told, in the order in which faults are looked for.
use Rattle.std.specs.Prelude.{ℕ, ◌≡◌, ◌↔◌, ◌<◌, ◌≤◌, ◌+◌, min, List, All, Contains, length, sum_by}
use Rattle.std.specs.List.{AllPairs}
use Rattle.commons.specs.Bag.{bag}
use Rattle.snapshot.specs.declared.fault.Fault.{Fault}
use Rattle.snapshot.specs.declared.fault.Fault.TheVariants.{BadShape, BadTop, Loop, BadLength, BadElem, BadPacket, DoubleHeader, Doubled, Lost, BadCount, OutOfMemory}
use Rattle.snapshot.specs.declared.snapshot.Snapshot.{Snapshot}
use Rattle.snapshot.specs.Faults.{IsBefore, IsFault}
use Rattle.snapshot.specs.Snapshots.{HasShape, times_held, times_named, walk, words_met}

-- how often an element stands on this stack and in caches
abbrev pub times_free_on : List ℕ → Snapshot → ℕ → ℕ
times_free_on stack s e = bag stack e + sum_by (λ share. bag share.cache e) s.shares

-- The snapshot has this fault, where these elements are its stack, from the top down. A list has
-- no words, so no fault of words arises. A list may name an element that the pool doesn't have.
abbrev pub IsFaultOn : List ℕ → Snapshot → Fault → Type 0
IsFaultOn stack s BadShape = IsFault s BadShape
IsFaultOn stack s (BadTop v) = ⊥
IsFaultOn stack s Loop = ⊥
IsFaultOn stack s (BadLength word found) = ⊥
IsFaultOn stack s (BadElem v) = (0 < bag stack v + times_named s v) × (s.limits.population ≤ v)
IsFaultOn stack s BadPacket = IsFault s BadPacket
IsFaultOn stack s (DoubleHeader e) = IsFault s (DoubleHeader e)
IsFaultOn stack s (Doubled e) = 1 < times_free_on stack s e + min 1 (times_held s e)
IsFaultOn stack s (Lost e) =
    (e < s.limits.population) × (times_free_on stack s e + times_held s e ≡ 0)
IsFaultOn stack s (BadCount e word holds) = IsFault s (BadCount e word holds)
IsFaultOn stack s OutOfMemory = ⊥

-- the walk along the links ends within the pool: each of its words names an element or none, and
-- it has no more elements than the pool
pub record WalkEnds (s : Snapshot) : Type 0 where
  pub words : All (λ word. word ≤ s.limits.population) (words_met s)
  pub ends : length (walk s) ≤ s.limits.population

-- the number from which holds aren't counted: 2^32 - 1
abbrev pub uncounted : ℕ
uncounted = 4294967295

-- Where a fault is told, and whether the stack ends is the first argument. A bad shape is told
-- alone, since nothing else is one for each element of the pool. What is on the stack is counted
-- where the stack ends. An element that the pool doesn't have is told as `BadElem` alone. A wrong
-- count is told where an element is held fewer than 2^32 - 1 times.
abbrev pub IsTellable : Type 0 → Snapshot → Fault → Type 0
IsTellable ends s BadShape = Unit {0}
IsTellable ends s (BadTop v) = HasShape s
IsTellable ends s Loop = HasShape s
IsTellable ends s (BadLength word found) = HasShape s × ends
IsTellable ends s (BadElem v) = HasShape s
IsTellable ends s BadPacket = HasShape s
IsTellable ends s (DoubleHeader e) = HasShape s × (e < s.limits.population)
IsTellable ends s (Doubled e) = HasShape s × ends × (e < s.limits.population)
IsTellable ends s (Lost e) = HasShape s × ends
IsTellable ends s (BadCount e word holds) = HasShape s × (holds < uncounted)
IsTellable ends s OutOfMemory = ⊥

-- a fault of the snapshot that is told, where its stack is the walk along its links
abbrev pub IsTold : Snapshot → Fault → Type 0
IsTold s f = IsFault s f × IsTellable (WalkEnds s) s f

-- and where its stack is this list, which ends
abbrev pub IsToldOn : List ℕ → Snapshot → Fault → Type 0
IsToldOn stack s f = IsFaultOn stack s f × IsTellable (Unit {0}) s f

-- They are exactly the faults that are told, each once, in the order in which faults are looked
-- for: kind after kind, and in one kind by the element or word that they name.
pub record AreAllFaults (Told : Fault → Type 0) (faults : List Fault) : Type 0 where
  pub ordered : AllPairs IsBefore faults
  pub exactly : (f : Fault) → Contains faults f ↔ Told f
