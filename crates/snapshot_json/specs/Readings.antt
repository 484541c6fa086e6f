-- What a value is read as. For private clauses.
use Rattle.std.specs.Prelude.{ℕ, ◌≡◌, List, None, IsSomeAnd, ⊤, length}
use Rattle.json.specs.Json.{document}
use Rattle.json.specs.Strict.{HasUniqueKeys}
use Rattle.serde_json.specs.Data.{Data}
use Rattle.snapshot.specs.declared.snapshot.Snapshot.{Snapshot}
use Rattle.snapshot_json.specs.Reading.{IsNoListData, IsNoSnapshotData}
use Rattle.snapshot_json.specs.Repeats.{IsRepeatingData}
use Rattle.snapshot_json.specs.SnapshotData.{HasCommon, HasWords, IsSnapshotData, common_data, links_of, snapshot_data, top_of}
use Rattle.snapshot_json.specs.declared.fault.SnapshotFault.{SnapshotFault}
use Rattle.snapshot_json.specs.declared.fault.SnapshotFault.TheVariants.{OutOfMemory, TooLong, NotJson, Wrong, Doubled}
use Rattle.snapshot_json.specs.declared.reading.Reading.{Reading}
use Rattle.snapshot_json.specs.declared.reading.Reading.TheVariants.{Whole, Twice, Other}

-- a value is the data of no snapshot with its stack as words
abbrev pub IsNoWords : Data → Type 0
IsNoWords d = (s : Snapshot) → HasWords s → ¬ (d ≡ snapshot_data s)

-- the snapshot with the words of this list as its stack
abbrev pub with_list : Snapshot → List ℕ → Snapshot
with_list s common =
    record s { top = top_of common; length = length common; links = links_of s.limits.population common }

-- what a value is, as one with its stack as a list
abbrev pub ReadsCommon : Data → Reading → Type 0
ReadsCommon d (Whole s) = (common : List ℕ) × (d ≡ common_data s common) × HasCommon common s
ReadsCommon d (Twice r) = IsRepeatingData d r
ReadsCommon d Other = IsNoListData d

-- what a value is
abbrev pub Reads : Data → Reading → Type 0
Reads d (Whole s) = IsSnapshotData d s
Reads d (Twice r) = IsRepeatingData d r
Reads d Other = IsNoSnapshotData d × IsNoListData d

-- a fault names a flaw, or says that memory was refused
abbrev pub IsFlaw : SnapshotFault → Type 0
IsFlaw OutOfMemory = ⊤
IsFlaw (Wrong flaw) = ⊤
IsFlaw _ = ⊥

-- a fault says that the text isn't JSON, or that memory was refused
abbrev pub IsBroken : SnapshotFault → Type 0
IsBroken OutOfMemory = ⊤
IsBroken (NotJson byte) = ⊤
IsBroken _ = ⊥

-- why a text isn't one of JSON without a key twice
abbrev pub IsKeyFault : List ℕ → SnapshotFault → Type 0
IsKeyFault text OutOfMemory = ⊤
IsKeyFault text (NotJson byte) = document text ≡ None
IsKeyFault text (Wrong flaw) = IsSomeAnd (document text) (λ j. ¬ HasUniqueKeys j)
IsKeyFault text TooLong = ⊥
IsKeyFault text (Doubled elem first second) = ⊥
