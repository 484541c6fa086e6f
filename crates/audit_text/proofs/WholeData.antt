-- The JSON of faults has no float, and nests no deeper than a reader goes.
use Rattle.std.proofs.Common.{◌≡◌, ◌≤◌, ℕ, false, List, [], ◌∷◌, Option, None, Some, map, refl, arith}
use Rattle.serde_json.specs.Data.{Data, depth, items_depth}
use Rattle.serde_json.specs.View.{items_of}
use Rattle.serde_json.specs.Written.{has_float, items_have_float}
use Rattle.audit_text.specs.FaultData.{elem_data, elem_of, fault_data, faults_data, two_data}
use Rattle.snapshot.specs.declared.fault.Fault.{Fault}
use Rattle.snapshot.specs.declared.snapshot.Snapshot.{Snapshot}

-- a list has none where no item has
items_whole : {X : Type 0} (f : X → Data) → ((x : X) → has_float (f x) ≡ false) → (xs : List X) →
    items_have_float (items_of (map f xs)) ≡ false
items_whole f each [] = refl
items_whole f each (x ∷ xs) = rw (each x, items_whole f each xs) refl

-- an element is a whole number or null
elem_whole : (elem : Option ℕ) → has_float (elem_data elem) ≡ false
elem_whole None = refl
elem_whole (Some e) = refl

fault_whole : (stack : List ℕ) (s : Snapshot) (fault : Fault) → has_float (fault_data stack s fault) ≡ false
fault_whole stack s fault = rw (elem_whole (elem_of fault)) refl

pub faults_whole : (stack : List ℕ) (s : Snapshot) (faults : List Fault) → has_float (faults_data stack s faults) ≡ false
faults_whole stack s faults = items_whole (fault_data stack s) (fault_whole stack s) faults

pub two_whole : (first second : Data) → has_float first ≡ false → has_float second ≡ false →
    has_float (two_data first second) ≡ false
two_whole first second a b = rw (a, b) refl

-- a list nests one deeper than its items
items_low : {X : Type 0} (n : ℕ) (f : X → Data) → ((x : X) → depth (f x) ≤ n) → (xs : List X) →
    items_depth (items_of (map f xs)) ≤ n
items_low n f each [] = omega arith
items_low n f each (x ∷ xs) = omega (arith, each x, items_low n f each xs)

elem_low : (elem : Option ℕ) → depth (elem_data elem) ≤ 0
elem_low None = omega arith
elem_low (Some e) = omega arith

fault_low : (stack : List ℕ) (s : Snapshot) (fault : Fault) → depth (fault_data stack s fault) ≤ 1
fault_low stack s fault = omega (arith, elem_low (elem_of fault))

pub faults_low : (stack : List ℕ) (s : Snapshot) (faults : List Fault) → depth (faults_data stack s faults) ≤ 2
faults_low stack s faults = omega (arith, items_low 1 (fault_data stack s) (fault_low stack s) faults)

pub two_low : (first second : Data) → depth first ≤ 2 → depth second ≤ 2 → depth (two_data first second) ≤ 3
two_low first second a b = omega (arith, a, b)
