-- How the words of a step are read, as functions on lists, for the crate's own functions.
-- Of public clauses those alone cite this module that look at single words.
use Rattle.std.specs.Prelude.{ℕ, true, false, if◌then◌else◌, List, [], ◌∷◌, Option, Some, None, option_and_then, codes}
use Rattle.std.specs.List.{find}
use Rattle.std.specs.Str.{bytes_eq}
use Rattle.script_text.specs.declared.steps.Step.{Step}
use Rattle.script_text.specs.declared.steps.Step.TheVariants as kinds
use Rattle.script_text.specs.declared.step_line.StepVerb.{StepVerb}
use Rattle.script_text.specs.declared.step_line.StepVerb.TheVariants.{LoadLength, Reserve, Add, LoadHead, LoadLink, Cut, StoreLink, Push, Claim, Sole, SoleFree, Raise, Lower, Reset, Hold, Open, Seize, TakeOut, Clear}
use Rattle.script_text.specs.StepGrammar.{steps}
use Rattle.script_text.specs.inside.Reading.{number_at, short_number_at, both_of, only_of, without_words}
use Rattle.script_text.specs.inside.PutInReading.{put_in_from}
use Rattle.script_text.specs.inside.ScriptReading.{Lexicon}

-- how a verb is written; `putin` stands alone
abbrev pub step_word : StepVerb → List ℕ
step_word LoadLength = codes "loadlength"
step_word Reserve = codes "reserve"
step_word Add = codes "add"
step_word LoadHead = codes "loadhead"
step_word LoadLink = codes "loadlink"
step_word Cut = codes "cut"
step_word StoreLink = codes "storelink"
step_word Push = codes "push"
step_word Claim = codes "claim"
step_word Sole = codes "sole"
step_word SoleFree = codes "solefree"
step_word Raise = codes "raise"
step_word Lower = codes "lower"
step_word Reset = codes "reset"
step_word Hold = codes "hold"
step_word Open = codes "open"
step_word Seize = codes "seize"
step_word TakeOut = codes "takeout"
step_word Clear = codes "clear"

-- all verbs
abbrev pub all_step_verbs : List StepVerb
all_step_verbs = LoadLength ∷ Reserve ∷ Add ∷ LoadHead ∷ LoadLink ∷ Cut ∷ StoreLink ∷ Push ∷ Claim
    ∷ Sole ∷ SoleFree ∷ Raise ∷ Lower ∷ Reset ∷ Hold ∷ Open ∷ Seize ∷ TakeOut ∷ Clear ∷ []

-- the verb that a word spells
abbrev pub step_verb_at : List ℕ → Option StepVerb
step_verb_at word = find (λ verb. bytes_eq word (step_word verb)) all_step_verbs

-- the element that a word spells, or the end
abbrev pub element_at : List ℕ → Option (Option ℕ)
element_at word = if bytes_eq word (codes "-") then Some None
    else option_and_then (λ element. Some (Some element)) (number_at word)

-- what the only word spells
abbrev pub one_at : {A : Type 0} → (List ℕ → Option A) → List (List ℕ) → Option A
one_at read words = option_and_then read (only_of words)

-- what the only two words spell
abbrev pub two_at : {A B : Type 0} → (List ℕ → Option A) → (List ℕ → Option B) → List (List ℕ) →
    Option (A × B)
two_at read read_other words = option_and_then
    (λ both. option_and_then (λ a. option_and_then (λ b. Some (a, b)) (read_other both.1))
    (read both.0)) (both_of words)

-- the step of one thing
abbrev pub step_of : {A : Type 0} → (A → Step) → Option A → Option Step
step_of make found = option_and_then (λ a. Some (make a)) found

-- the step of a verb and the words after it
abbrev pub step_with : StepVerb → List (List ℕ) → Option Step
step_with LoadLength words = without_words kinds.LoadLength words
step_with Reserve words = step_of (λ both. kinds.Reserve both.0 both.1)
    (two_at number_at number_at words)
step_with Add words = step_of (λ n. kinds.Add n) (one_at number_at words)
step_with LoadHead words = without_words kinds.LoadHead words
step_with LoadLink words = step_of (λ element. kinds.LoadLink element) (one_at element_at words)
step_with Cut words = without_words kinds.Cut words
step_with StoreLink words = step_of (λ both. kinds.StoreLink both.0 both.1)
    (two_at element_at element_at words)
step_with Push words = without_words kinds.Push words
step_with Claim words = step_of (λ element. kinds.Claim element) (one_at element_at words)
step_with Sole words = step_of (λ element. kinds.Sole element false) (one_at element_at words)
step_with SoleFree words = step_of (λ element. kinds.Sole element true) (one_at element_at words)
step_with Raise words = step_of (λ both. kinds.Raise both.0 both.1)
    (two_at element_at number_at words)
step_with Lower words = step_of (λ element. kinds.Lower element) (one_at element_at words)
step_with Reset words = step_of (λ element. kinds.Reset element) (one_at element_at words)
step_with Hold words = step_of (λ desk. kinds.Hold desk) (one_at short_number_at words)
step_with Open words = step_of (λ desk. kinds.Open desk) (one_at short_number_at words)
step_with Seize words = step_of (λ desk. kinds.Seize desk) (one_at short_number_at words)
step_with TakeOut words = step_of (λ desk. kinds.TakeOut desk) (one_at short_number_at words)
step_with Clear words = step_of (λ desk. kinds.Clear desk) (one_at short_number_at words)

-- the step that words are
abbrev pub step_from : List (List ℕ) → Option Step
step_from [] = None
step_from (word ∷ words) = if bytes_eq word (codes "putin") then put_in_from words
    else option_and_then (λ verb. step_with verb words) (step_verb_at word)

-- how steps are read
abbrev pub step_lexicon : Lexicon Step
step_lexicon = record { language = steps; command_from = step_from }
