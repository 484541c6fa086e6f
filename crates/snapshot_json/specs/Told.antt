-- What is said of a text that is no snapshot's.
use Rattle.std.specs.Prelude.{ℕ, List, [], ◌∷◌, ◌++◌, Option, None, Some, codes, decimal, flat_map}
use Rattle.std.specs.Fmt.InlineText.{inline_text}
use Rattle.snapshot_json.specs.Reading.{max_bytes}
use Rattle.snapshot_json.specs.declared.fault.Cause.{Cause}
use Rattle.snapshot_json.specs.declared.fault.Cause.TheVariants as causes
use Rattle.snapshot_json.specs.declared.fault.Flaw.{Flaw}
use Rattle.snapshot_json.specs.declared.fault.Key.{Key}
use Rattle.snapshot_json.specs.declared.fault.Key.TheVariants as keys
use Rattle.snapshot_json.specs.declared.fault.SnapshotFault.{SnapshotFault}
use Rattle.snapshot_json.specs.declared.fault.SnapshotFault.TheVariants.{OutOfMemory, TooLong, NotJson, Wrong, Doubled}
use Rattle.snapshot_json.specs.declared.fault.Step.{Step}
use Rattle.snapshot_json.specs.declared.fault.Step.TheVariants.{Item}
use Rattle.snapshot_json.specs.declared.fault.Step.TheVariants as steps

-- a key as it stands in a text
abbrev pub key_name : Key → List ℕ
key_name keys.Base = codes "base"
key_name keys.Buf = codes "buf"
key_name keys.Cache = codes "cache"
key_name keys.Common = codes "common"
key_name keys.Counts = codes "counts"
key_name keys.Desks = codes "desks"
key_name keys.Elem = codes "elem"
key_name keys.Foreign = codes "foreign"
key_name keys.Guests = codes "guests"
key_name keys.Len = codes "len"
key_name keys.Length = codes "length"
key_name keys.Limits = codes "limits"
key_name keys.Links = codes "links"
key_name keys.Off = codes "off"
key_name keys.Population = codes "population"
key_name keys.Putrule = codes "putrule"
key_name keys.Refs = codes "refs"
key_name keys.Shares = codes "shares"
key_name keys.Slots = codes "slots"
key_name keys.Start = codes "start"
key_name keys.Top = codes "top"
key_name keys.Tries = codes "tries"
key_name keys.Worker = codes "worker"
key_name keys.Workers = codes "workers"

-- a step of a path, with what stands in front of a key
abbrev pub step_text : List ℕ → Option Step → List ℕ
step_text before None = []
step_text before (Some (steps.Key key)) = before ++ key_name key
step_text before (Some (Item index)) = codes "[" ++ decimal index ++ codes "]"

-- a path, as `shares[3].slots[17][0].base`: no point stands in front of its first key
abbrev pub path_text : List (Option Step) → List ℕ
path_text [] = []
path_text (first ∷ further) = step_text [] first ++ flat_map (step_text (codes ".")) further

-- what is wrong
abbrev pub cause_text : Cause → List ℕ
cause_text causes.Missing = codes "missing"
cause_text (causes.Unknown key) = codes "unknown member " ++ inline_text key
cause_text causes.Twice = codes "twice"
cause_text causes.NotObject = codes "not an object"
cause_text causes.NotList = codes "not a list"
cause_text causes.NotPlace = codes "not a list or null"
cause_text causes.NotNumber = codes "not a whole number"
cause_text causes.NotBase = codes "not a whole number or null"
cause_text causes.NotFlag = codes "not true or false"
cause_text (causes.OutOfRange high) = codes "out of 0 to " ++ decimal high
cause_text (causes.NoElement population) = codes "not below the population, " ++ decimal population
cause_text causes.Other = codes "not a snapshot"

-- the path of a part; the whole value has none
abbrev pub place_text : List (Option Step) → List ℕ
place_text (Some step ∷ further) = codes " " ++ path_text (Some step ∷ further)
place_text steps = []

-- what is wrong with a part, and where that stands
abbrev pub flaw_text : Flaw → List ℕ
flaw_text flaw =
    codes "snapshot" ++ place_text flaw.path.steps ++ codes ": " ++ cause_text flaw.cause
    ++ codes ", at byte " ++ decimal flaw.byte

-- where an element stands twice on the stack
abbrev pub places_text : ℕ → ℕ → List ℕ
places_text first second =
    codes ": at " ++ decimal first ++ codes " on the stack, at " ++ decimal second ++ codes " on the stack"

-- What is said of a text. Of an element that stands twice in its list the audit's own line of a double
-- is told.
abbrev pub told_of : SnapshotFault → List ℕ
told_of OutOfMemory = codes "out of memory"
told_of TooLong = codes "snapshot: more than " ++ decimal max_bytes ++ codes " bytes"
told_of (NotJson byte) = codes "snapshot: not JSON, at byte " ++ decimal byte
told_of (Wrong flaw) = flaw_text flaw
told_of (Doubled elem first second) =
    codes "fault 108 Doubled element " ++ decimal elem ++ places_text first second
