-- What it is that the words of a language are read rightly.
use Rattle.std.proofs.Common.{◌≡◌, ℕ, false, List, ◌∷◌, Some, None}
use Rattle.script_text.specs.inside.Reading.{is_marked}
use Rattle.script_text.specs.inside.ScriptReading.{Lexicon, before_colon}

-- the words begin with one that has no colon at its end and isn't marked
pub record BeginsPlainly (words : List (List ℕ)) : Type 0 where
  pub word : List ℕ
  pub rest : List (List ℕ)
  pub words_are : words ≡ word ∷ rest
  pub no_colon : before_colon word ≡ None
  pub unmarked : is_marked word ≡ false

-- words that begin with a verb begin plainly: it has no colon at its end and isn't marked by `#`
pub begins : (words : List (List ℕ)) (word : List ℕ) (rest : List (List ℕ)) → words ≡ word ∷ rest →
    before_colon word ≡ None → is_marked word ≡ false → BeginsPlainly words
begins words word rest e no_colon unmarked = record
    { word = word; rest = rest; words_are = e; no_colon = no_colon; unmarked = unmarked }

-- Of the words of a command: exactly they are read as it, and their first is neither a worker's
-- number nor marked.
pub record IsRight {C : Type 0} (lexicon : Lexicon C) : Type 0 where
  pub comes : (words : List (List ℕ)) (command : C) → lexicon.command_from words ≡ Some command → lexicon.language.IsCommand words command
  pub is : (words : List (List ℕ)) (command : C) → lexicon.language.IsCommand words command → lexicon.command_from words ≡ Some command
  pub plainly : (words : List (List ℕ)) (command : C) → lexicon.language.IsCommand words command → BeginsPlainly words
