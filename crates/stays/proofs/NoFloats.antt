-- What stays has no float.
use Rattle.std.proofs.Common.{◌≡◌, ℕ, false, List, [], ◌∷◌, Option, None, Some, map, refl}
use Rattle.serde_json.specs.Data.{Data}
use Rattle.serde_json.specs.View.{items_of}
use Rattle.serde_json.specs.Written.{has_float, items_have_float}
use Rattle.statement_text.specs.StatementData.{base_data}
use Rattle.stays.specs.StayData.{part_data, parts_data, stay_data, stay_data_at, stays_data}
use Rattle.stays.specs.declared.used.Part.{Part}
use Rattle.stays.specs.declared.used.Place.{Place}
use Rattle.stays.specs.declared.used.Place.TheVariants.{Slot, Desk}
use Rattle.stays.specs.declared.used.Used.{Used}

-- a list has none where no item has
items_whole : {X : Type 0} (f : X → Data) → ((x : X) → has_float (f x) ≡ false) → (xs : List X) →
    items_have_float (items_of (map f xs)) ≡ false
items_whole f each [] = refl
items_whole f each (x ∷ xs) = rw (each x, items_whole f each xs) refl

-- a base is a whole number or null
base_whole : (base : Option ℕ) → has_float (base_data base) ≡ false
base_whole None = refl
base_whole (Some e) = refl

part_whole : (part : Part) → has_float (part_data part) ≡ false
part_whole part = rw (base_whole part.base) refl

parts_whole : (parts : List Part) → has_float (parts_data parts) ≡ false
parts_whole = items_whole part_data part_whole

at_whole : (place : Place) (parts : List Part) → has_float (stay_data_at place parts) ≡ false
at_whole (Slot worker slot) parts = rw (parts_whole parts) refl
at_whole (Desk desk) parts = rw (parts_whole parts) refl

-- all its numbers are whole
pub stays_whole : (stay : List Used) → has_float (stays_data stay) ≡ false
stays_whole = items_whole stay_data (λ used. at_whole used.place used.parts)
