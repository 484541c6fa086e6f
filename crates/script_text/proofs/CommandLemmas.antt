-- A command is what the reading function gives.
use Rattle.std.proofs.Common.{◌≡◌, ℕ, ◌≤◌, leb, true, List, [], ◌∷◌, length, Option, Some, None, refl, sym, ap, ◌∙◌, subst}
use Rattle.std.specs.Prelude.{◌&&◌, option_and_then, codes, IfSome, IfOk, Result, Ok, Err}
use Rattle.std.specs.List.{AllByRecursion, list_all}
use Rattle.std.proofs.lemmas.Bool.{leb-true, le-leb, cond-true, and_parts, and_from}
use Rattle.std.proofs.lemmas.Option.{cond_some}
use Rattle.commons.specs.declared.change.Change.TheVariants.{Append, Prepend, Adj, Trim}
use Rattle.script_text.specs.declared.command_line.Verb.{Verb}
use Rattle.script_text.specs.declared.command_line.Verb.TheVariants as verbs
use Rattle.script_text.specs.declared.commands.Command.{Command}
use Rattle.script_text.specs.declared.commands.Command.TheVariants.{Alloc, Bulk, Free, Resize, Chain, Attach, Detach, Clone, CloneTo, Count, Offer, Take, Flush}
use Rattle.script_text.specs.Commands.{names_made}
use Rattle.script_text.specs.Names.{IsName}
use Rattle.script_text.specs.Numbers.{IsNumber}
use Rattle.script_text.specs.CommandLine.{AreNames, AreVerbAndName, AreVerbAndNames, AreWithNumber, IsCommand}
use Rattle.script_text.specs.inside.Reading.{is_name_word, short_number_at, both_of}
use Rattle.script_text.specs.inside.CommandReading.{are_names, names_with, name_at, numbered_name, name_and_number, number_and_name, both_names, name_with, both_with, numbered_with, verb_word, all_verbs, verb_at, only_name_of, command_with, command_from, command_lexicon}
use Rattle.script_text.proofs.NumberLemmas.{all_from, all_to, name_from, name_is, short_number_from, short_number_is}
use Rattle.script_text.proofs.FoundLemmas.{and_then_some, both_is, found_is, if_some, spelled_from, without_words_is}
use Rattle.script_text.proofs.Right.{IsRight, BeginsPlainly, begins}

-- ---- commands

-- the only word is a name
only_name_is : (words : List (List ℕ)) (name : List ℕ) → only_name_of words ≡ Some name →
    (words ≡ name ∷ []) × (is_name_word name ≡ true)
only_name_is [] name e = absurd cc
only_name_is (word ∷ []) name e =
    let h = cond_some (is_name_word word) word name e in
    (ap (λ (w : List ℕ). w ∷ []) h.1, sym (ap is_name_word h.1) ∙ h.0)
only_name_is (word ∷ other ∷ words) name e = absurd cc

-- the verb that is found for a word is written so
verb_from : (word : List ℕ) (verb : Verb) → verb_at word ≡ Some verb → word ≡ verb_word verb
verb_from word verb e = spelled_from verb_word all_verbs word verb e

-- words that are read as a verb and one name are that command
named_is : (verb : Verb) (make : List ℕ → Command) →
    ((all : List (List ℕ)) (name : List ℕ) → AreVerbAndName all (verb_word verb) name →
    IsCommand all (make name)) → (words : List (List ℕ)) (command : Command) →
    name_with make words ≡ Some command →
    IsCommand (verb_word verb ∷ words) command
named_is verb make by words command e =
    let n = and_then_some (λ name. Some (make name)) (only_name_of words) command e in
    let only = only_name_is words n.0 n.1 in
    subst (λ (c : Command). IsCommand (verb_word verb ∷ words) c) (found_is (make n.0) command n.2)
    (by (verb_word verb ∷ words) n.0 (ap (λ (ws : List (List ℕ)). verb_word verb ∷ ws) only.0, name_from n.0 only.1))

-- a word that is taken for a name is that name
name_is_at : (word name : List ℕ) → name_at word ≡ Some name → (word ≡ name) × IsName name
name_is_at word name e =
    let h = cond_some (is_name_word word) word name e in
    (h.1, name_from name (sym (ap is_name_word h.1) ∙ h.0))

-- two words that are read as names are those names
names_found : (words : List (List ℕ)) (both found : List ℕ × List ℕ) (first second : List ℕ) →
    words ≡ both.0 ∷ both.1 ∷ [] → name_at both.0 ≡ Some first → name_at both.1 ≡ Some second →
    (first, second) ≡ found →
    (words ≡ found.0 ∷ found.1 ∷ []) × IsName found.0 × IsName found.1
names_found words both found first second e f g same =
    let one = name_is_at both.0 first f in
    let other = name_is_at both.1 second g in
    subst (λ (p : List ℕ × List ℕ). (words ≡ p.0 ∷ p.1 ∷ []) × IsName p.0 × IsName p.1) same
    (rw (one.0, other.0) at e, one.1, other.1)

-- the only two words are those names
both_names_are : (words : List (List ℕ)) (found : List ℕ × List ℕ) → both_names words ≡ Some found →
    (words ≡ found.0 ∷ found.1 ∷ []) × IsName found.0 × IsName found.1
both_names_are words found e =
    let b =
    and_then_some (λ both.
    option_and_then
    (λ first. option_and_then (λ second. Some (first, second)) (name_at both.1))
    (name_at both.0)) (both_of words) found e in
    let n =
    and_then_some (λ first. option_and_then (λ second. Some (first, second)) (name_at b.0.1))
    (name_at b.0.0) found b.2 in
    let l = and_then_some (λ second. Some (n.0, second)) (name_at b.0.1) found n.2 in
    names_found words b.0 found n.0 l.0 (both_is words b.0 b.1) n.1 l.1 (found_is (n.0, l.0) found l.2)

-- words that are read as a verb and two names are that command
both_named_is : (verb : Verb) (make : List ℕ → List ℕ → Command) →
    ((all : List (List ℕ)) (first second : List ℕ) →
    AreVerbAndNames all (verb_word verb) first second → IsCommand all (make first second)) →
    (words : List (List ℕ)) (command : Command) → both_with make words ≡ Some command →
    IsCommand (verb_word verb ∷ words) command
both_named_is verb make by words command e =
    let n = and_then_some (λ names. Some (make names.0 names.1)) (both_names words) command e in
    let both = both_names_are words n.0 n.1 in
    subst (λ (c : Command). IsCommand (verb_word verb ∷ words) c) (found_is (make n.0.0 n.0.1) command n.2)
    (by (verb_word verb ∷ words) n.0.0 n.0.1 (ap (λ (ws : List (List ℕ)). verb_word verb ∷ ws) both.0, both.1, both.2))

name_at_is : (name : List ℕ) → IsName name → name_at name ≡ Some name
name_at_is name h = cond-true (is_name_word name) (Some name) None (name_is name h)

-- a name and a number, whichever comes first
numbered_name_from : (words : List (List ℕ)) (order : List ℕ → List ℕ → List (List ℕ))
    (word other : List ℕ) (found : List ℕ × ℕ) → words ≡ order word other →
    numbered_name word other ≡ Some found →
    AreWithNumber words (order found.0) found.0 found.1
numbered_name_from words order word other found words_are e =
    let n =
    and_then_some (λ name. option_and_then (λ k. Some (name, k)) (short_number_at other))
    (name_at word) found e in
    let k = and_then_some (λ number. Some (n.0, number)) (short_number_at other) found n.2 in
    let name = name_is_at word n.0 n.1 in
    let number = short_number_from other k.0 k.1 in
    subst (λ (p : List ℕ × ℕ). AreWithNumber words (order p.0) p.0 p.1) (found_is (n.0, k.0) found k.2)
    (record {
      number = other;
      words_are = words_are ∙ ap (λ (w : List ℕ). order w other) name.0;
      is_name = name.1;
      is_number = number.0;
      short = number.1;
    })

-- the name first, and then the number
abbrev name_first : List ℕ → List ℕ → List (List ℕ)
name_first name number = name ∷ number ∷ []

abbrev number_first : List ℕ → List ℕ → List (List ℕ)
number_first name number = number ∷ name ∷ []

-- the two words are a name and then its number
name_and_number_from : (words : List (List ℕ)) (found : List ℕ × ℕ) →
    name_and_number words ≡ Some found → AreWithNumber words (name_first found.0) found.0 found.1
name_and_number_from words found e =
    let b = and_then_some (λ both. numbered_name both.0 both.1) (both_of words) found e in
    numbered_name_from words name_first b.0.0 b.0.1 found (both_is words b.0 b.1) b.2

-- the two words are a number and then its name
number_and_name_from : (words : List (List ℕ)) (found : List ℕ × ℕ) →
    number_and_name words ≡ Some found → AreWithNumber words (number_first found.0) found.0 found.1
number_and_name_from words found e =
    let b = and_then_some (λ both. numbered_name both.1 both.0) (both_of words) found e in
    numbered_name_from words number_first b.0.1 b.0.0 found (both_is words b.0 b.1) b.2

-- words that are read as a verb, a name and a number are that command
numbered_is : (verb : Verb) (order : List ℕ → List ℕ → List (List ℕ)) (make : List ℕ → ℕ → Command)
    → ((all : List (List ℕ)) (name : List ℕ) (n : ℕ) →
    AreWithNumber all (λ number. verb_word verb ∷ order name number) name n →
    IsCommand all (make name n)) →
    (words : List (List ℕ)) (o : Option (List ℕ × ℕ)) →
    ((found : List ℕ × ℕ) → o ≡ Some found → AreWithNumber words (order found.0) found.0 found.1)
    → (command : Command) → numbered_with make o ≡ Some command →
    IsCommand (verb_word verb ∷ words) command
numbered_is verb order make by words o from command e =
    let f = and_then_some (λ named. Some (make named.0 named.1)) o command e in
    let h = from f.0 f.1 in
    subst (λ (c : Command). IsCommand (verb_word verb ∷ words) c) (found_is (make f.0.0 f.0.1) command f.2)
    (by (verb_word verb ∷ words) f.0.0 f.0.1 (record {
      number = h.number;
      words_are = ap (λ (ws : List (List ℕ)). verb_word verb ∷ ws) h.words_are;
      is_name = h.is_name;
      is_number = h.is_number;
      short = h.short;
    }))

-- words that pass the test of names are 1 to 256 names
names_from : (words : List (List ℕ)) → are_names words ≡ true → AreNames words
names_from words e =
    let a = and_parts (leb 1 (length words) && leb (length words) 256) (list_all is_name_word words) e in
    let b = and_parts (leb 1 (length words)) (leb (length words) 256) a.0 in
    record {
      some = leb-true 1 (length words) b.0;
      few = leb-true (length words) 256 b.1;
      each = all_from is_name_word IsName (λ word h. name_from word h) words a.1;
    }

-- words that are 1 to 256 names pass each part of the test
names_are : (words : List (List ℕ)) → AreNames words → are_names words ≡ true
names_are words h =
    and_from (leb 1 (length words) && leb (length words) 256) (list_all is_name_word words)
    (and_from (leb 1 (length words)) (leb (length words) 256) (le-leb 1 (length words) h.some)
    (le-leb (length words) 256 h.few))
    (all_to is_name_word IsName (λ word k. name_is word k) words h.each)

-- each verb takes the words that its row of the table of commands has, and no others
command_of_verb : (verb : Verb) (words : List (List ℕ)) (command : Command) →
    command_with verb words ≡ Some command → IsCommand (verb_word verb ∷ words) command
command_of_verb verbs.Alloc words command e =
    named_is verbs.Alloc (λ name. Alloc name) (λ all name h. h) words command e
command_of_verb verbs.Bulk words command e =
    let n = and_then_some (λ names. Some (Bulk names)) (names_with words) command e in
    let c = if_some (are_names words) (Some words) n.0 n.1 in
    let same = found_is words n.0 c.1 in
    subst (λ (c : Command). IsCommand (verb_word verbs.Bulk ∷ words) c) (found_is (Bulk n.0) command n.2)
    (ap (λ (ws : List (List ℕ)). codes "bulk" ∷ ws) same, subst AreNames same (names_from words c.0))
command_of_verb verbs.Free words command e = named_is verbs.Free (λ name. Free name) (λ all name h. h) words command e
command_of_verb verbs.Append words command e =
    numbered_is verbs.Append name_first (λ name n. Resize name (Append n)) (λ all name n h. h) words
    (name_and_number words) (name_and_number_from words) command e
command_of_verb verbs.Prepend words command e =
    numbered_is verbs.Prepend name_first (λ name n. Resize name (Prepend n)) (λ all name n h. h)
    words (name_and_number words) (name_and_number_from words) command e
command_of_verb verbs.Adj words command e =
    numbered_is verbs.Adj name_first (λ name n. Resize name (Adj n)) (λ all name n h. h) words
    (name_and_number words) (name_and_number_from words) command e
command_of_verb verbs.Trim words command e =
    numbered_is verbs.Trim name_first (λ name n. Resize name (Trim n)) (λ all name n h. h) words
    (name_and_number words) (name_and_number_from words) command e
command_of_verb verbs.Chain words command e =
    both_named_is verbs.Chain (λ head tail. Chain head tail) (λ all head tail h. h) words command e
command_of_verb verbs.Attach words command e =
    both_named_is verbs.Attach (λ first second. Attach first second) (λ all first second h. h) words
    command e
command_of_verb verbs.Detach words command e =
    named_is verbs.Detach (λ packet. Detach packet) (λ all packet h. h) words command e
command_of_verb verbs.Clone words command e =
    both_named_is verbs.Clone (λ packet made. Clone packet made) (λ all packet made h. h) words
    command e
command_of_verb verbs.CloneTo words command e =
    both_named_is verbs.CloneTo (λ packet made. CloneTo packet made) (λ all packet made h. h) words
    command e
command_of_verb verbs.Count words command e =
    named_is verbs.Count (λ packet. Count packet) (λ all packet h. h) words command e
command_of_verb verbs.Offer words command e =
    numbered_is verbs.Offer name_first (λ packet desk. Offer packet desk) (λ all packet desk h. h)
    words (name_and_number words) (name_and_number_from words) command e
command_of_verb verbs.Take words command e =
    numbered_is verbs.Take number_first (λ made desk. Take desk made) (λ all made desk h. h) words
    (number_and_name words) (number_and_name_from words) command e
command_of_verb verbs.Flush words command e =
    let b = without_words_is Flush command words e in
    subst (λ (c : Command). IsCommand (verb_word verbs.Flush ∷ words) c) b.1
    (ap (λ (ws : List (List ℕ)). verb_word verbs.Flush ∷ ws) b.0)

-- words that are read as a command are that command
command_comes : (words : List (List ℕ)) (command : Command) →
    command_from words ≡ Some command → IsCommand words command
command_comes [] command e = absurd cc
command_comes (word ∷ words) command e =
    let v = and_then_some (λ verb. command_with verb words) (verb_at word) command e in
    subst (λ (w : List ℕ). IsCommand (w ∷ words) command) (sym (verb_from word v.0 v.1))
    (command_of_verb v.0 words command v.2)

-- a name that stands alone is the only name
only_name : (name : List ℕ) → IsName name → only_name_of (name ∷ []) ≡ Some name
only_name name h = cond-true (is_name_word name) (Some name) None (name_is name h)

-- a name is read as the command of it
name_by_words : (make : List ℕ → Command) (name : List ℕ) → IsName name → name_with make (name ∷ []) ≡ Some (make name)
name_by_words make name h = ap (option_and_then (λ n. Some (make n))) (only_name name h)

-- two names behind a verb are read as both
both_by_words : (make : List ℕ → List ℕ → Command) (first second : List ℕ) → IsName first →
    IsName second → both_with make (first ∷ second ∷ []) ≡ Some (make first second)
both_by_words make first second h k = rw (name_at_is first h, name_at_is second k) refl

-- a name and a number of at most 65,535 behind a verb are read as both
numbered_by_words : (make : List ℕ → ℕ → Command) (name number : List ℕ) (n : ℕ) → IsName name →
    IsNumber number n → n ≤ 65535 →
    numbered_with make (numbered_name name number) ≡ Some (make name n)
numbered_by_words make name number n h k short = rw (name_at_is name h, short_number_is number n k short) refl

-- a command is read from its words, whatever its verb
command_is : (words : List (List ℕ)) (command : Command) → IsCommand words command →
    command_from words ≡ Some command
command_is words (Alloc name) h = ap command_from h.0 ∙ name_by_words (λ n. Alloc n) name h.1
command_is words (Bulk names) h =
    ap command_from h.0 ∙ ap (option_and_then (λ ns. Some (Bulk ns)))
    (cond-true (are_names names) (Some names) None (names_are names h.1))
command_is words (Free name) h = ap command_from h.0 ∙ name_by_words (λ n. Free n) name h.1
command_is words (Resize name (Append n)) h =
    ap command_from h.words_are
    ∙ numbered_by_words (λ m k. Resize m (Append k)) name h.number n h.is_name h.is_number h.short
command_is words (Resize name (Prepend n)) h =
    ap command_from h.words_are ∙ numbered_by_words (λ m k. Resize m (Prepend k)) name h.number n
    h.is_name h.is_number h.short
command_is words (Resize name (Adj n)) h =
    ap command_from h.words_are
    ∙ numbered_by_words (λ m k. Resize m (Adj k)) name h.number n h.is_name h.is_number h.short
command_is words (Resize name (Trim n)) h =
    ap command_from h.words_are
    ∙ numbered_by_words (λ m k. Resize m (Trim k)) name h.number n h.is_name h.is_number h.short
command_is words (Chain head tail) h = ap command_from h.0 ∙ both_by_words (λ n k. Chain n k) head tail h.1 h.2
command_is words (Attach first second) h = ap command_from h.0 ∙ both_by_words (λ n k. Attach n k) first second h.1 h.2
command_is words (Detach packet) h = ap command_from h.0 ∙ name_by_words (λ n. Detach n) packet h.1
command_is words (Clone packet made) h = ap command_from h.0 ∙ both_by_words (λ n k. Clone n k) packet made h.1 h.2
command_is words (CloneTo packet made) h =
    ap command_from h.0 ∙ both_by_words (λ n k. CloneTo n k) packet made h.1 h.2
command_is words (Count packet) h = ap command_from h.0 ∙ name_by_words (λ n. Count n) packet h.1
command_is words (Offer packet desk) h =
    ap command_from h.words_are
    ∙ numbered_by_words (λ m k. Offer m k) packet h.number desk h.is_name h.is_number h.short
command_is words (Take desk made) h =
    ap command_from h.words_are
    ∙ numbered_by_words (λ m k. Take k m) made h.number desk h.is_name h.is_number h.short
command_is words Flush h = ap command_from h

-- each command's first word is its verb
verb_first : (words : List (List ℕ)) (command : Command) → IsCommand words command → BeginsPlainly words
verb_first words (Alloc name) h = begins words _ _ h.0 refl refl
verb_first words (Bulk names) h = begins words _ _ h.0 refl refl
verb_first words (Free name) h = begins words _ _ h.0 refl refl
verb_first words (Resize name (Append n)) h = begins words _ _ h.words_are refl refl
verb_first words (Resize name (Prepend n)) h = begins words _ _ h.words_are refl refl
verb_first words (Resize name (Adj n)) h = begins words _ _ h.words_are refl refl
verb_first words (Resize name (Trim n)) h = begins words _ _ h.words_are refl refl
verb_first words (Chain head tail) h = begins words _ _ h.0 refl refl
verb_first words (Attach first second) h = begins words _ _ h.0 refl refl
verb_first words (Detach packet) h = begins words _ _ h.0 refl refl
verb_first words (Clone packet made) h = begins words _ _ h.0 refl refl
verb_first words (CloneTo packet made) h = begins words _ _ h.0 refl refl
verb_first words (Count packet) h = begins words _ _ h.0 refl refl
verb_first words (Offer packet desk) h = begins words _ _ h.words_are refl refl
verb_first words (Take desk made) h = begins words _ _ h.words_are refl refl
verb_first words Flush h = begins words _ _ h refl refl

-- the names that a command makes are names
names_by : (words : List (List ℕ)) (command : Command) → IsCommand words command →
    AllByRecursion IsName (names_made command)
names_by words (Alloc packet) h = (h.1, tt)
names_by words (Bulk packets) h = h.1.each
names_by words (Clone packet copy) h = (h.2, tt)
names_by words (CloneTo packet copy) h = (h.2, tt)
names_by words (Take desk packet) h = (h.is_name, tt)
names_by words command h = tt

-- commands are read as they are written
pub commands_are_right : IsRight command_lexicon
commands_are_right = record { comes = command_comes; is = command_is; plainly = verb_first }

-- a command that was read makes names
named : (verb : Verb) (words : List (List ℕ)) (o : Option Command) → o ≡ command_with verb words →
    IfSome o (λ command. AllByRecursion IsName (names_made command))
named verb words None e = tt
named verb words (Some command) e = names_by (verb_word verb ∷ words) command (command_of_verb verb words command (sym e))

-- a command that was read makes names alone
pub read_is_named : {E : Type 0} (verb : Verb) (words : List (List ℕ)) (read : Result (Option Command) E) →
    IfOk read (λ o. o ≡ command_with verb words) →
    IfOk read (λ o. IfSome o (λ command. AllByRecursion IsName (names_made command)))
read_is_named verb words (Ok o) e = named verb words o e
read_is_named verb words (Err error) e = tt
