-- What a text says of a snapshot, and why it says nothing.
use Rattle.std.specs.Prelude.{ℕ, ◌≡◌, ◌⊎◌, ◌<◌, ◌≤◌, List, All, None, Some, IsSomeAnd, IsUtf8, ⊤, codes, length, slice_index}
use Rattle.json.specs.Json.{document}
use Rattle.json.specs.Strict.{HasUniqueKeys}
use Rattle.serde_json.specs.Data.{Data}
use Rattle.serde_json.specs.Find.{get}
use Rattle.serde_json.specs.Read.{read}
use Rattle.commons.specs.Bag.{bag}
use Rattle.commons.specs.Bounds.{max_population}
use Rattle.statement_text.specs.StatementData.{counts_data}
use Rattle.snapshot.specs.declared.snapshot.Snapshot.{Snapshot}
use Rattle.snapshot_json.specs.SnapshotData.{HasWords, IsSnapshotData, common_data}
use Rattle.snapshot_json.specs.declared.fault.SnapshotFault.{SnapshotFault}
use Rattle.snapshot_json.specs.declared.fault.SnapshotFault.TheVariants.{OutOfMemory, TooLong, NotJson, Wrong, Doubled}

-- the most bytes of a snapshot's text
abbrev pub max_bytes : ℕ
max_bytes = 2147483647

-- bytes are, within that bound, a text of JSON that is a snapshot's data, in which no object has a key twice
pub record IsSnapshotText (bytes : List ℕ) (s : Snapshot) : Type 0 where
  pub size : length bytes ≤ max_bytes
  pub utf8 : IsUtf8 bytes
  pub value : IsSomeAnd (read bytes) (λ d. IsSnapshotData d s)
  pub once : IsSomeAnd (document bytes) HasUniqueKeys

-- a value is the data of no snapshot whose numbers fit their types
abbrev pub IsNoSnapshotData : Data → Type 0
IsNoSnapshotData d = (s : Snapshot) → HasWords s → ¬ (IsSnapshotData d s)

-- bytes are the text of no such snapshot
abbrev pub IsNoSnapshotText : List ℕ → Type 0
IsNoSnapshotText bytes = (s : Snapshot) → HasWords s → ¬ (IsSnapshotText bytes s)

-- bytes are no text of JSON: not UTF-8, or not of its grammar
abbrev pub IsNoJson : List ℕ → Type 0
IsNoJson bytes = ¬ (IsUtf8 bytes) ⊎ ((read bytes ≡ None) ⊎ (document bytes ≡ None))

-- The least element that stands twice in a list of elements, with the first two places where it
-- stands: before the second it stands at the first alone.
pub record IsLeastDouble (common : List ℕ) (elem first second : ℕ) : Type 0 where
  pub order : first < second
  pub within : second < length common
  pub at_first : slice_index common first ≡ elem
  pub at_second : slice_index common second ≡ elem
  pub first_two : (p : ℕ) → p < second → slice_index common p ≡ elem → p ≡ first
  pub least : (e : ℕ) → e < elem → bag common e ≤ 1

-- the same of the list that a value has as its common one
abbrev pub HasLeastDouble : Data → ℕ → ℕ → ℕ → Type 0
HasLeastDouble d elem first second =
    (common : List ℕ) × (get (codes "common") d ≡ Some (counts_data common)) × IsLeastDouble common elem first second

-- the elements of a list are of a pool with this population, which is one that a pool can have
abbrev pub IsOfPool : ℕ → List ℕ → Type 0
IsOfPool population common = (population ≤ max_population) × All (λ e. e < population) common

-- A value is the data of no snapshot with its stack as a list of its pool's elements, whether each
-- stands there once or not.
abbrev pub IsNoListData : Data → Type 0
IsNoListData d = (s : Snapshot) (common : List ℕ) → HasWords s → d ≡ common_data s common →
    ¬ (IsOfPool s.limits.population common)

-- Bytes are, within the bound, a text of JSON in which an object has a key twice, or whose value has
-- no such list: more is wrong with it than that an element stands twice.
pub record IsWrongText (bytes : List ℕ) : Type 0 where
  pub size : length bytes ≤ max_bytes
  pub utf8 : IsUtf8 bytes
  pub value : IsSomeAnd (document bytes) (λ j. HasUniqueKeys j → IsSomeAnd (read bytes) IsNoListData)

-- what a fault says beside that there is no snapshot
abbrev pub IsFaultOf : List ℕ → SnapshotFault → Type 0
IsFaultOf bytes OutOfMemory = ⊤
IsFaultOf bytes TooLong = max_bytes < length bytes
IsFaultOf bytes (NotJson byte) = IsNoJson bytes
IsFaultOf bytes (Wrong flaw) = IsWrongText bytes
IsFaultOf bytes (Doubled elem first second) = IsSomeAnd (read bytes) (λ d. HasLeastDouble d elem first second)
