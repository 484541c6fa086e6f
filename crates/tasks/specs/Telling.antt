-- What became of a text on the errors.
use Rattle.std.specs.Prelude.{ℕ, ◌≡◌, Bool, false, true, List, Option, Result, OnErr, OnOk}
use Rattle.std.specs.Io.KnownBytes.{Appends}
use Rattle.script_io.specs.Told.{EndsFailed, TakesBytes, Told}
use Rattle.script_io.specs.declared.tally.Tally.{Tally}

-- The errors as contracts see them: whether a call failed, what stands there, and what the writer
-- tells of its writes.
pub record Heard : Type 0 where
  pub failed : Bool
  pub contents : Option (List ℕ)
  pub told : Option (List Told)

abbrev pub heard : {W : Type 0} → (W → Option (List ℕ)) → (W → Option (List Told)) → Tally W → Heard
heard contents told t = record { failed = t.failed; contents = contents t.inner; told = told t.inner }

-- the last of some writes answered an error or took nothing
pub record LastFailed (old new : Option (List Told)) : Type 0 where
  pub calls : List Told
  pub ends : EndsFailed old new calls

-- The errors failed: where they hadn't before, the last write answered an error or took nothing.
pub record IsUntold (old new : Heard) : Type 0 where
  pub failed : new.failed ≡ true
  pub last : old.failed ≡ false → LastFailed old.told new.told

-- A text was put behind what stood there, by writes that each took some of it; or the errors failed, at
-- it or before it, and nothing is written on errors that have failed.
pub record Puts (old new : Heard) (text : List ℕ) : Type 0 where
  pub whole : new.failed ≡ false → Appends old.contents new.contents text
  pub sound : new.failed ≡ false → old.failed ≡ false
  pub took : new.failed ≡ false → TakesBytes old.told new.told
  pub broke : new.failed ≡ true → IsUntold old new
  pub stays : old.failed ≡ true → new ≡ old

-- a text was written whole on the errors, or they failed
pub record IsTold {E : Type 0} (old new : Heard) (text : List ℕ) (result : Result Unit E) : Type 0 where
  pub whole : OnOk result (Appends old.contents new.contents text)
  pub sound : OnOk result (new.failed ≡ false)
  pub untold : OnErr result (IsUntold old new)
