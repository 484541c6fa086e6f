-- How the words of a command are read, as functions on lists, for the crate's own functions.
-- Of public clauses those alone cite this module that look at single words.
use Rattle.std.specs.Prelude.{ℕ, Bool, ◌&&◌, ◌++◌, if◌then◌else◌, nat_le, List, [], ◌∷◌, length, Option, Some, None, option_and_then, codes}
use Rattle.std.specs.List.{find, list_all}
use Rattle.std.specs.Str.{bytes_eq}
use Rattle.commons.specs.declared.change.Change.{Change}
use Rattle.commons.specs.declared.change.Change.TheVariants.{Append, Prepend, Adj, Trim}
use Rattle.script_text.specs.declared.commands.Command.{Command}
use Rattle.script_text.specs.declared.commands.Command.TheVariants.{Alloc, Bulk, Free, Resize, Chain, Attach, Detach, Clone, CloneTo, Count, Offer, Take, Flush}
use Rattle.script_text.specs.declared.command_line.Verb.{Verb}
use Rattle.script_text.specs.declared.command_line.Verb.TheVariants as verbs
use Rattle.script_text.specs.Grammar.{commands}
use Rattle.script_text.specs.inside.Reading.{is_name_word, short_number_at, both_of, without_words}
use Rattle.script_text.specs.inside.ScriptReading.{Lexicon}

-- how a verb is written
abbrev pub verb_word : Verb → List ℕ
verb_word verbs.Alloc = codes "alloc"
verb_word verbs.Bulk = codes "bulk"
verb_word verbs.Free = codes "free"
verb_word verbs.Append = codes "append"
verb_word verbs.Prepend = codes "prepend"
verb_word verbs.Adj = codes "adj"
verb_word verbs.Trim = codes "trim"
verb_word verbs.Chain = codes "chain"
verb_word verbs.Attach = codes "attach"
verb_word verbs.Detach = codes "detach"
verb_word verbs.Clone = codes "clone"
verb_word verbs.CloneTo = codes "cloneto"
verb_word verbs.Count = codes "count"
verb_word verbs.Offer = codes "offer"
verb_word verbs.Take = codes "take"
verb_word verbs.Flush = codes "flush"

-- the verbs of commands that make a packet, end it, or change its data
abbrev pub buffer_verbs : List Verb
buffer_verbs = verbs.Alloc ∷ verbs.Bulk ∷ verbs.Free ∷ verbs.Append ∷ verbs.Prepend ∷ verbs.Adj
    ∷ verbs.Trim ∷ []

-- the verbs of commands that bring packets together, share, count or move them
abbrev pub sharing_verbs : List Verb
sharing_verbs = verbs.Chain ∷ verbs.Attach ∷ verbs.Detach ∷ verbs.Clone ∷ verbs.CloneTo ∷ verbs.Count
    ∷ verbs.Offer ∷ verbs.Take ∷ verbs.Flush ∷ []

-- all verbs
abbrev pub all_verbs : List Verb
all_verbs = buffer_verbs ++ sharing_verbs

-- the verb of these that a word spells
abbrev pub verb_among : List Verb → List ℕ → Option Verb
verb_among verbs word = find (λ verb. bytes_eq word (verb_word verb)) verbs

-- the verb that a word spells
abbrev pub verb_at : List ℕ → Option Verb
verb_at word = verb_among all_verbs word

-- the only one of the words, where it is a name
abbrev pub only_name_of : List (List ℕ) → Option (List ℕ)
only_name_of [] = None
only_name_of (word ∷ []) = if is_name_word word then Some word else None
only_name_of (word ∷ other ∷ words) = None

-- the words, where they are 1 to 256 names
abbrev pub are_names : List (List ℕ) → Bool
are_names words = nat_le 1 (length words) && nat_le (length words) 256
    && list_all is_name_word words

abbrev pub names_with : List (List ℕ) → Option (List (List ℕ))
names_with words = if are_names words then Some words else None

-- the word, where it is a name
abbrev pub name_at : List ℕ → Option (List ℕ)
name_at word = if is_name_word word then Some word else None

-- the name that one word is, and the number that the other spells
abbrev pub numbered_name : List ℕ → List ℕ → Option (List ℕ × ℕ)
numbered_name word other =
    option_and_then (λ name. option_and_then (λ n. Some (name, n)) (short_number_at other))
    (name_at word)

-- a name and the number after it
abbrev pub name_and_number : List (List ℕ) → Option (List ℕ × ℕ)
name_and_number words = option_and_then (λ both. numbered_name both.0 both.1) (both_of words)

-- a name and the number in front of it
abbrev pub number_and_name : List (List ℕ) → Option (List ℕ × ℕ)
number_and_name words = option_and_then (λ both. numbered_name both.1 both.0) (both_of words)

-- two names
abbrev pub both_names : List (List ℕ) → Option (List ℕ × List ℕ)
both_names words =
    option_and_then (λ both.
    option_and_then
    (λ first. option_and_then (λ second. Some (first, second)) (name_at both.1))
    (name_at both.0)) (both_of words)

-- the command of a verb and a name
abbrev pub name_with : (List ℕ → Command) → List (List ℕ) → Option Command
name_with make words = option_and_then (λ name. Some (make name)) (only_name_of words)

-- the command of a verb and two names
abbrev pub both_with : (List ℕ → List ℕ → Command) → List (List ℕ) → Option Command
both_with make words = option_and_then (λ names. Some (make names.0 names.1)) (both_names words)

-- the command of a verb, a name and a number
abbrev pub numbered_with : (List ℕ → ℕ → Command) → Option (List ℕ × ℕ) → Option Command
numbered_with make found = option_and_then (λ named. Some (make named.0 named.1)) found

-- the command of a change of lengths
abbrev pub resize_with : (ℕ → Change) → List (List ℕ) → Option Command
resize_with change words = numbered_with (λ name n. Resize name (change n)) (name_and_number words)

-- the command of a verb and the words after it
abbrev pub command_with : Verb → List (List ℕ) → Option Command
command_with verbs.Alloc words = name_with Alloc words
command_with verbs.Bulk words = option_and_then (λ names. Some (Bulk names)) (names_with words)
command_with verbs.Free words = name_with Free words
command_with verbs.Append words = resize_with Append words
command_with verbs.Prepend words = resize_with Prepend words
command_with verbs.Adj words = resize_with Adj words
command_with verbs.Trim words = resize_with Trim words
command_with verbs.Chain words = both_with Chain words
command_with verbs.Attach words = both_with Attach words
command_with verbs.Detach words = name_with Detach words
command_with verbs.Clone words = both_with Clone words
command_with verbs.CloneTo words = both_with CloneTo words
command_with verbs.Count words = name_with Count words
command_with verbs.Offer words = numbered_with Offer (name_and_number words)
command_with verbs.Take words = numbered_with (λ made desk. Take desk made) (number_and_name words)
command_with verbs.Flush words = without_words Flush words

-- the command that words are
abbrev pub command_from : List (List ℕ) → Option Command
command_from [] = None
command_from (word ∷ words) = option_and_then (λ verb. command_with verb words) (verb_at word)

-- how commands are read
abbrev pub command_lexicon : Lexicon Command
command_lexicon = record { language = commands; command_from = command_from }
