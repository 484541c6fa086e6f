-- Faults that are added to a list. No public clause cites this module.
use Rattle.std.specs.Prelude.{ℕ, ◌≡◌, ◌≢◌, ◌↔◌, ◌<◌, ◌≤◌, ◌+◌, ◌++◌, Bool, IsTrue, List, Contains, map, max, min, slice_index}
use Rattle.snapshot.specs.declared.fault.Fault.{Fault}
use Rattle.snapshot.specs.declared.snapshot.Snapshot.{Snapshot}
use Rattle.snapshot.specs.AllFaults.{AreAllFaults, IsFaultOn, IsTellable, uncounted}
use Rattle.snapshot.specs.Faults.{rank}
use Rattle.snapshot.specs.Lost.{IsAscending}

-- exactly these faults were added, in order
pub record Adds (Told : Fault → Type 0) (old new : List Fault) : Type 0 where
  pub more : List Fault
  pub is : new ≡ old ++ more
  pub are : AreAllFaults Told more

-- for exactly these elements, ascending, their faults were added
pub record AddsEach (fault_of : ℕ → Fault) (Wrong : ℕ → Type 0) (old new : List Fault) : Type 0 where
  pub elems : List ℕ
  pub ascending : IsAscending elems
  pub exactly : (e : ℕ) → Contains elems e ↔ Wrong e
  pub is : new ≡ old ++ map fault_of elems

-- the same of those below a number
abbrev pub AddsBelow : ℕ → (ℕ → Fault) → (ℕ → Type 0) → List Fault → List Fault → Type 0
AddsBelow n fault_of Wrong old new = AddsEach fault_of (λ e. (e < n) × Wrong e) old new

-- what the rows of a tally say is wrong with an element
abbrev pub IsRepeated : List ℕ → ℕ → Type 0
IsRepeated own e = 1 < slice_index own e

abbrev pub IsDouble : Bool → List ℕ → List ℕ → ℕ → Type 0
IsDouble ends free held e = IsTrue ends × (1 < slice_index free e + min 1 (slice_index held e))

abbrev pub IsNowhere : Bool → List ℕ → List ℕ → ℕ → Type 0
IsNowhere ends free held e = IsTrue ends × (slice_index free e + slice_index held e ≡ 0)

abbrev pub IsMiscounted : List ℕ → List ℕ → ℕ → Type 0
IsMiscounted counts held e =
    (slice_index held e < uncounted) × (slice_index counts e ≢ max 1 (slice_index held e))

-- a fault of a later kind than those of the stack's words is told
abbrev pub IsLate : Type 0 → List ℕ → Snapshot → Fault → Type 0
IsLate ends stack s f = (4 ≤ rank f) × IsFaultOn stack s f × IsTellable ends s f
