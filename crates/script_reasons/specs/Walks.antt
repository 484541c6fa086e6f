-- The walk over the lines of a text, as a function on lists, for the crate's own functions.
-- No public clause cites this module.
use Rattle.std.specs.Prelude.{ℕ, ◌+◌, if◌then◌else◌, List, [], ◌∷◌, Option, Some, None}
use Rattle.script_text.specs.inside.Reading.{is_skipped, words_of}

-- the first of these lines that isn't skipped, with its number; the first of all has this one
unfoldable pub first_from : ℕ → List (List ℕ) → Option (ℕ × List ℕ)
first_from number [] = None
first_from number (line ∷ lines) =
    if is_skipped (words_of line) then first_from (number + 1) lines else Some (number, line)
