-- Steps of a script of steps: which words are one.
use Rattle.std.specs.Prelude.{◌≡◌, ℕ, ◌≤◌, true, false, List, [], ◌∷◌, ◌++◌, length, Option, Some, None, codes}
use Rattle.script_text.specs.declared.lines.Line as lines
use Rattle.script_text.specs.declared.steps.Step.{Step}
use Rattle.script_text.specs.declared.steps.Step.TheVariants.{LoadLength, Reserve, Add, LoadHead, LoadLink, Cut, StoreLink, Push, Claim, Sole, Raise, Lower, Reset, Hold, PutIn, Open, Seize, TakeOut, Clear}
use Rattle.script_text.specs.declared.steps.StepSegment.{StepSegment}
use Rattle.script_text.specs.Numbers.{IsNumber}

-- a line with a step
abbrev pub StepLine : Type 0
StepLine = lines.Line Step

-- a step makes no names
abbrev pub no_names : Step → List (List ℕ)
no_names step = []

-- the word is an element's number, or `-` for the end
abbrev pub IsElementOrEnd : List ℕ → Option ℕ → Type 0
IsElementOrEnd word (Some element) = IsNumber word element
IsElementOrEnd word None = word ≡ codes "-"

-- the word is a desk's number, at most 65,535
abbrev pub IsDesk : List ℕ → ℕ → Type 0
IsDesk word desk = IsNumber word desk × (desk ≤ 65535)

-- the word is an element's number, and after it a `>` and that of the base, where there is one
abbrev pub IsSegment : List ℕ → ℕ → Option ℕ → Type 0
IsSegment word element None = IsNumber word element
IsSegment word element (Some base) = (own : List ℕ) × (other : List ℕ)
    × (word ≡ own ++ (codes ">" ++ other)) × IsNumber own element × IsNumber other base

-- the words are these segments, one each
abbrev pub AreSegments : List (List ℕ) → List StepSegment → Type 0
AreSegments [] [] = Unit {0}
AreSegments (word ∷ words) (segment ∷ segments) = IsSegment word segment.element segment.base
    × AreSegments words segments
AreSegments _ _ = ⊥

-- the words are `putin`, this desk and these segments, 1 to 32
pub record IsPutIn (words : List (List ℕ)) (desk : ℕ) (segments : List StepSegment) : Type 0 where
  pub number : List ℕ
  pub rest : List (List ℕ)
  pub words_are : words ≡ codes "putin" ∷ number ∷ rest
  pub is_desk : IsDesk number desk
  pub are_segments : AreSegments rest segments
  pub some : 1 ≤ length segments
  pub few : length segments ≤ 32

-- the words are this verb and a word that is this
abbrev pub AreVerbAnd : {A : Type 0} → (List ℕ → A → Type 0) → List (List ℕ) → List ℕ → A → Type 0
AreVerbAnd Is words verb a = (word : List ℕ) × (words ≡ verb ∷ word ∷ []) × Is word a

-- the words are this verb and two words that are these
abbrev pub AreVerbAndTwo : {A B : Type 0} → (List ℕ → A → Type 0) → (List ℕ → B → Type 0) →
    List (List ℕ) → List ℕ → A → B → Type 0
AreVerbAndTwo Is IsOther words verb a b = (word : List ℕ) × (other : List ℕ)
    × (words ≡ verb ∷ word ∷ other ∷ []) × Is word a × IsOther other b

-- the words are this step
abbrev pub IsStep : List (List ℕ) → Step → Type 0
IsStep words LoadLength = words ≡ codes "loadlength" ∷ []
IsStep words (Reserve old n) = AreVerbAndTwo IsNumber IsNumber words (codes "reserve") old n
IsStep words (Add n) = AreVerbAnd IsNumber words (codes "add") n
IsStep words LoadHead = words ≡ codes "loadhead" ∷ []
IsStep words (LoadLink element) = AreVerbAnd IsElementOrEnd words (codes "loadlink") element
IsStep words Cut = words ≡ codes "cut" ∷ []
IsStep words (StoreLink element next) =
    AreVerbAndTwo IsElementOrEnd IsElementOrEnd words (codes "storelink") element next
IsStep words Push = words ≡ codes "push" ∷ []
IsStep words (Claim element) = AreVerbAnd IsElementOrEnd words (codes "claim") element
IsStep words (Sole element false) = AreVerbAnd IsElementOrEnd words (codes "sole") element
IsStep words (Sole element true) = AreVerbAnd IsElementOrEnd words (codes "solefree") element
IsStep words (Raise element old) =
    AreVerbAndTwo IsElementOrEnd IsNumber words (codes "raise") element old
IsStep words (Lower element) = AreVerbAnd IsElementOrEnd words (codes "lower") element
IsStep words (Reset element) = AreVerbAnd IsElementOrEnd words (codes "reset") element
IsStep words (Hold desk) = AreVerbAnd IsDesk words (codes "hold") desk
IsStep words (PutIn desk segments) = IsPutIn words desk segments
IsStep words (Open desk) = AreVerbAnd IsDesk words (codes "open") desk
IsStep words (Seize desk) = AreVerbAnd IsDesk words (codes "seize") desk
IsStep words (TakeOut desk) = AreVerbAnd IsDesk words (codes "takeout") desk
IsStep words (Clear desk) = AreVerbAnd IsDesk words (codes "clear") desk
