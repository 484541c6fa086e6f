-- Which calls a tally marks.
use Rattle.std.specs.Prelude.{◌≡◌, ◌<◌, ℕ, Bool, List, Result, Ok, Err, length, true}

-- the mark after a read that answered this: an error sets it
abbrev pub MarksRead : {E : Type 0} → Bool → Bool → Result ℕ E → Type 0
MarksRead old new (Ok count) = new ≡ old
MarksRead old new (Err error) = new ≡ true

-- a write that took so many of these bytes took none of some
abbrev pub TakesNone : ℕ → List ℕ → Type 0
TakesNone count bytes = (count ≡ 0) × (0 < length bytes)

-- the mark after a write of these bytes that answered this: an error sets it, and so does a write
-- that took none of some bytes
abbrev pub MarksWrite : {E : Type 0} → Bool → Bool → Result ℕ E → List ℕ → Type 0
MarksWrite old new (Ok count) bytes = (TakesNone count bytes → new ≡ true) × (¬ TakesNone count bytes → new ≡ old)
MarksWrite old new (Err error) bytes = new ≡ true
