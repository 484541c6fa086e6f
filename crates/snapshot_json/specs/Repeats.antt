-- A text whose list has elements twice.
use Rattle.std.specs.Prelude.{ℕ, ◌≡◌, ◌≤◌, List, [], IsSomeAnd, IsUtf8, length}
use Rattle.json.specs.Json.{document}
use Rattle.json.specs.Strict.{HasUniqueKeys}
use Rattle.serde_json.specs.Data.{Data}
use Rattle.serde_json.specs.Read.{read}
use Rattle.snapshot_json.specs.Reading.{IsFaultOf, IsLeastDouble, IsOfPool, IsSnapshotText, max_bytes}
use Rattle.snapshot_json.specs.SnapshotData.{HasCommon, HasWords, IsSnapshotData, common_data}
use Rattle.snapshot_json.specs.declared.fault.SnapshotFault.{SnapshotFault}
use Rattle.snapshot_json.specs.declared.fault.SnapshotFault.TheVariants.{Doubled}
use Rattle.snapshot_json.specs.declared.text.Repeats.{Repeats}
use Rattle.snapshot_json.specs.declared.text.Text.{Text}
use Rattle.snapshot_json.specs.declared.text.Text.TheVariants.{One, Repeating}

-- A value is the data of this snapshot with this list as its stack, whose elements are of its pool.
-- The least one that stands there twice is named; the snapshot's own words are those of no element.
pub record IsRepeatingData (d : Data) (r : Repeats) : Type 0 where
  pub value : d ≡ common_data r.snapshot r.common
  pub known : IsOfPool r.snapshot.limits.population r.common
  pub empty : HasCommon [] r.snapshot
  pub least : IsLeastDouble r.common r.double.elem r.double.first r.double.second

-- a value is the data of what a text says
abbrev pub IsDataOf : Data → Text → Type 0
IsDataOf d (One s) = IsSnapshotData d s
IsDataOf d (Repeating r) = IsRepeatingData d r

-- bytes are, within the bound, a text of JSON that is such data, in which no object has a key twice
pub record IsRepeatingText (bytes : List ℕ) (r : Repeats) : Type 0 where
  pub size : length bytes ≤ max_bytes
  pub utf8 : IsUtf8 bytes
  pub value : IsSomeAnd (read bytes) (λ d. IsRepeatingData d r)
  pub once : IsSomeAnd (document bytes) HasUniqueKeys

-- bytes say this
abbrev pub IsTextOf : List ℕ → Text → Type 0
IsTextOf bytes (One s) = IsSnapshotText bytes s
IsTextOf bytes (Repeating r) = IsRepeatingText bytes r

-- bytes are the text of no snapshot whose list has an element twice, and whose numbers fit their types
abbrev pub IsNoRepeatingText : List ℕ → Type 0
IsNoRepeatingText bytes = (r : Repeats) → HasWords r.snapshot → ¬ (IsRepeatingText bytes r)

-- what a fault says of bytes that are neither; an element that stands twice is none
abbrev pub IsTextFaultOf : List ℕ → SnapshotFault → Type 0
IsTextFaultOf bytes (Doubled elem first second) = ⊥
IsTextFaultOf bytes fault = IsFaultOf bytes fault

-- the fault of a list that has elements twice, where a snapshot is asked for
abbrev pub doubled_by : Repeats → SnapshotFault
doubled_by r = Doubled r.double.elem r.double.first r.double.second
