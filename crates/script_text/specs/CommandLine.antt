-- Commands of a script: which words are one.
use Rattle.std.specs.Prelude.{◌≡◌, ℕ, ◌≤◌, List, [], ◌∷◌, length, codes}
use Rattle.std.specs.List.{AllByRecursion}
use Rattle.commons.specs.declared.change.Change.{Change}
use Rattle.commons.specs.declared.change.Change.TheVariants.{Append, Prepend, Adj, Trim}
use Rattle.script_text.specs.declared.commands.Command.{Command}
use Rattle.script_text.specs.declared.commands.Command.TheVariants.{Alloc, Bulk, Free, Resize, Chain, Attach, Detach, Clone, CloneTo, Count, Offer, Take, Flush}
use Rattle.script_text.specs.Names.{IsName}
use Rattle.script_text.specs.Numbers.{IsNumber}

-- how a change of lengths is written
abbrev pub change_word : Change → List ℕ
change_word (Append n) = codes "append"
change_word (Prepend n) = codes "prepend"
change_word (Adj n) = codes "adj"
change_word (Trim n) = codes "trim"

-- by how many bytes it is
abbrev pub bytes_of : Change → ℕ
bytes_of (Append n) = n
bytes_of (Prepend n) = n
bytes_of (Adj n) = n
bytes_of (Trim n) = n

-- the words are 1 to 256 names
pub record AreNames (words : List (List ℕ)) : Type 0 where
  pub some : 1 ≤ length words
  pub few : length words ≤ 256
  pub each : AllByRecursion IsName words

-- the words are this verb and a name
abbrev pub AreVerbAndName : List (List ℕ) → List ℕ → List ℕ → Type 0
AreVerbAndName words verb name = (words ≡ verb ∷ name ∷ []) × IsName name

-- the words are this verb and two names
abbrev pub AreVerbAndNames : List (List ℕ) → List ℕ → List ℕ → List ℕ → Type 0
AreVerbAndNames words verb first second = (words ≡ verb ∷ first ∷ second ∷ []) × IsName first
    × IsName second

-- the words are these, with a word for the number among them; the name is one, and the number, of
-- bytes or of a desk, is at most 65,535
pub record AreWithNumber (words : List (List ℕ)) (around : List ℕ → List (List ℕ)) (name : List ℕ)
    (n : ℕ) : Type 0 where
  pub number : List ℕ
  pub words_are : words ≡ around number
  pub is_name : IsName name
  pub is_number : IsNumber number n
  pub short : n ≤ 65535

-- the words are this command
abbrev pub IsCommand : List (List ℕ) → Command → Type 0
IsCommand words (Alloc name) = AreVerbAndName words (codes "alloc") name
IsCommand words (Bulk names) = (words ≡ codes "bulk" ∷ names) × AreNames names
IsCommand words (Free name) = AreVerbAndName words (codes "free") name
IsCommand words (Resize name change) =
    AreWithNumber words (λ number. change_word change ∷ name ∷ number ∷ []) name (bytes_of change)
IsCommand words (Chain head tail) = AreVerbAndNames words (codes "chain") head tail
IsCommand words (Attach first second) = AreVerbAndNames words (codes "attach") first second
IsCommand words (Detach packet) = AreVerbAndName words (codes "detach") packet
IsCommand words (Clone packet made) = AreVerbAndNames words (codes "clone") packet made
IsCommand words (CloneTo packet made) = AreVerbAndNames words (codes "cloneto") packet made
IsCommand words (Count packet) = AreVerbAndName words (codes "count") packet
IsCommand words (Offer packet desk) =
    AreWithNumber words (λ number. codes "offer" ∷ packet ∷ number ∷ []) packet desk
IsCommand words (Take desk made) =
    AreWithNumber words (λ number. codes "take" ∷ number ∷ made ∷ []) made desk
IsCommand words Flush = words ≡ codes "flush" ∷ []
