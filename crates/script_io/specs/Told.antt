-- What a reader or a writer answered, where it tells.
use Rattle.std.specs.Prelude.{◌≡◌, ◌<◌, ◌++◌, ◌∷◌, [], ℕ, List, Option, Some, None, Result, Ok, Err, All, ⊤}
use Rattle.std.specs.IoError.{error_kind}
use Rattle.std.specs.declared.io.Error.{Error}
use Rattle.std.specs.declared.io.ErrorKind.{ErrorKind}

-- a call on so many bytes, and what it answered
pub record Told : Type 0 where
  pub bytes : ℕ
  pub answer : Result ℕ ErrorKind

-- an answer, with its error's kind alone
abbrev pub answer_of : Result ℕ Error → Result ℕ ErrorKind
answer_of (Ok count) = Ok count
answer_of (Err error) = Err (error_kind error)

-- these calls, and no others, came after those that are told of
abbrev pub AddsCalls : Option (List Told) → Option (List Told) → List Told → Type 0
AddsCalls None new calls = ⊤
AddsCalls (Some before) None calls = ⊥
AddsCalls (Some before) (Some after) calls = after ≡ before ++ calls

-- a write of so many bytes failed: it answered an error, or took none of some
abbrev pub FailsAt : ℕ → Result ℕ ErrorKind → Type 0
FailsAt bytes (Ok count) = (count ≡ 0) × (0 < bytes)
FailsAt bytes (Err kind) = ⊤

-- a write that failed
abbrev pub Failed : Told → Type 0
Failed call = FailsAt call.bytes call.answer

-- a write that didn't
abbrev pub Took : Told → Type 0
Took call = ¬ Failed call

-- writes that took bytes, and no others, came after those that are told of
pub record TakesBytes (old new : Option (List Told)) : Type 0 where
  pub calls : List Told
  pub took : All Took calls
  pub told : AddsCalls old new calls

-- the last write failed
pub record EndsFailed (old new : Option (List Told)) (calls : List Told) : Type 0 where
  pub last : Told
  pub failed : Failed last
  pub told : AddsCalls old new (calls ++ last ∷ [])

-- how the writes ended, of which these took bytes: with them, or with one more that failed
abbrev pub EndsAfter : {E : Type 0} → Option (List Told) → Option (List Told) → List Told → Result Unit E → Type 0
EndsAfter old new calls (Ok done) = AddsCalls old new calls
EndsAfter old new calls (Err count) = EndsFailed old new calls

-- the writes of a text: each took some of its bytes, but for the last where the answer is an error
pub record Writes {E : Type 0} (old new : Option (List Told)) (result : Result Unit E) : Type 0 where
  pub calls : List Told
  pub took : All Took calls
  pub end : EndsAfter old new calls result
