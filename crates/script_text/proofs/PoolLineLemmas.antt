-- The pool line's numbers are those that the reading function gives, and no others.
use Rattle.std.proofs.Common.{◌≡◌, ℕ, Bool, true, false, List, [], ◌∷◌, Option, Some, None, refl, sym, ap, ◌∙◌, subst, inl, inr}
use Rattle.std.specs.Prelude.{option_and_then, is_some, unwrap_or, codes}
use Rattle.std.specs.Str.{bytes_eq}
use Rattle.std.proofs.lemmas.Bool.{cond-true, cond-false, cases_Bool, false≢true}
use Rattle.std.proofs.lemmas.Slice.Eq.{bytes_eq-Decides}
use Rattle.script_text.specs.declared.commands.Key.{Key}
use Rattle.script_text.specs.declared.commands.Key.TheVariants.{Cache, Workers, Desks, Buf, Refs, Tries, Start, Rule, Second, SecondCache}
use Rattle.script_text.specs.declared.pool_line.LineNumbers.{LineNumbers}
use Rattle.script_text.specs.declared.pool_line.PoolNumbers.{PoolNumbers}
use Rattle.script_text.specs.declared.pool_line.Settings.{Settings}
use Rattle.script_text.specs.Numbers.{IsNumber}
use Rattle.script_text.specs.PoolLine.{key_word, same_key, ArePairs, first_number, AreOnce, numbers_with, second_beside, IsSecond, IsPoolLine}
use Rattle.script_text.specs.inside.Reading.{number_at, keys, key_at, value_of, value_with, with_value, none_given, add_value, add_pair, settings_from, numbers_by, with_second, line_numbers_by, pool_with, numbers_from}
use Rattle.script_text.proofs.NumberLemmas.{number_from, number_is}
use Rattle.script_text.proofs.SettingsLemmas.{no_settings, no_number, one_pair, with_pair}
use Rattle.script_text.proofs.FoundLemmas.{and_then_some, found_is, if_some, if_none, spelled_from}

-- ---- keys

key_from : (word : List ℕ) (key : Key) → key_at word ≡ Some key → word ≡ key_word key
key_from word key e = spelled_from key_word keys word key e

-- each key is found by its own word
key_at-key_word : (key : Key) → key_at (key_word key) ≡ Some key
key_at-key_word Cache = refl
key_at-key_word Workers = refl
key_at-key_word Desks = refl
key_at-key_word Buf = refl
key_at-key_word Refs = refl
key_at-key_word Tries = refl
key_at-key_word Start = refl
key_at-key_word Rule = refl
key_at-key_word Second = refl
key_at-key_word SecondCache = refl

-- keys with the same word are the same
same_key-true : (a b : Key) → same_key a b ≡ true → a ≡ b
same_key-true a b e =
    found_is a b (sym (key_at-key_word a)
    ∙ ap key_at ((bytes_eq-Decides (key_word a) (key_word b)).0 e) ∙ key_at-key_word b)

same_key-refl : (a : Key) → same_key a a ≡ true
same_key-refl a = (bytes_eq-Decides (key_word a) (key_word a)).1 refl

-- the settings have a place for each key, and a new value is written to its own
with-each : (settings : Settings) (key other : Key) (value : ℕ) →
    value_of (with_value settings key value) other ≡ value_with settings key value other
with-each settings key Cache value = refl
with-each settings key Workers value = refl
with-each settings key Desks value = refl
with-each settings key Buf value = refl
with-each settings key Refs value = refl
with-each settings key Tries value = refl
with-each settings key Start value = refl
with-each settings key Rule value = refl
with-each settings key Second value = refl
with-each settings key SecondCache value = refl

-- a key that was given a value has it
with-same : (settings : Settings) (key : Key) (value : ℕ) → value_of (with_value settings key value) key ≡ Some value
with-same settings key value =
    with-each settings key key value
    ∙ cond-true (same_key key key) (Some value) (value_of settings key) (same_key-refl key)

-- a key keeps its value where another was given one
with-other : (settings : Settings) (key other : Key) (value : ℕ) → same_key other key ≡ false →
    value_of (with_value settings key value) other ≡ value_of settings other
with-other settings key other value e =
    with-each settings key other value
    ∙ cond-false (same_key other key) (Some value) (value_of settings other) e

-- ---- pairs

-- the first of two values that is there
abbrev or_else : Option ℕ → Option ℕ → Option ℕ
or_else None other = other
or_else (Some value) other = Some value

-- no key of the pairs has a value before
abbrev AreFree : Settings → List (Key × ℕ) → Type 0
AreFree settings pairs = (key : Key) (value : ℕ) → first_number key pairs ≡ Some value → value_of settings key ≡ None

-- the later settings are the earlier ones with the pairs
abbrev AreWith : Settings → List (Key × ℕ) → Settings → Type 0
AreWith settings pairs later =
    (key : Key) → value_of later key ≡ or_else (first_number key pairs) (value_of settings key)

-- the first pair's key has that pair's number
first_number-same : (key : Key) (value : ℕ) (pairs : List (Key × ℕ)) →
    first_number key ((key, value) ∷ pairs) ≡ Some value
first_number-same key value pairs =
    cond-true (same_key key key) (Some value) (first_number key pairs) (same_key-refl key)

-- another key has the number that the other pairs give it
first_number-other : (other key : Key) (value : ℕ) (pairs : List (Key × ℕ)) →
    same_key other key ≡ false →
    first_number other ((key, value) ∷ pairs) ≡ first_number other pairs
first_number-other other key value pairs e = cond-false (same_key other key) (Some value) (first_number other pairs) e

-- a first pair gives its key a value, and the others give no second one to it
AreWith-more : (settings : Settings) (key : Key) (value : ℕ) (pairs : List (Key × ℕ))
    (later : Settings) → first_number key pairs ≡ None →
    AreWith (with_value settings key value) pairs later →
    AreWith settings ((key, value) ∷ pairs) later
AreWith-more settings key value pairs later none h other =
    elim (cases_Bool (same_key other key)) [
      | inl e ↦
          let same : key ≡ other = sym (same_key-true other key e) in
          subst (λ (k : Key). value_of later k
          ≡ or_else (first_number k ((key, value) ∷ pairs)) (value_of settings k)) same
          (h key ∙ ap (λ (o : Option ℕ). or_else o (value_of (with_value settings key value) key))
          none ∙ with-same settings key value
          ∙ sym (ap (λ (o : Option ℕ). or_else o (value_of settings key))
          (first_number-same key value pairs)))
      | inr e ↦
          h other ∙ ap (or_else (first_number other pairs)) (with-other settings key other value e)
          ∙ sym (ap (λ (o : Option ℕ). or_else o (value_of settings other))
          (first_number-other other key value pairs e))
    ]

-- where nothing can be there, there is nothing
none_or : {A : Type 0} (o : Option A) → ((x : A) → o ≡ Some x → ⊥) → o ≡ None
none_or None h = refl
none_or (Some x) h = absurd (h x refl)

-- where nothing is found to be there, there is nothing
not_some : {A : Type 0} (o : Option A) → is_some o ≡ false → o ≡ None
not_some None e = refl
not_some (Some x) e = absurd (false≢true (sym e))

-- what settings from words say
record ComeFrom (settings : Settings) (words : List (List ℕ)) (later : Settings) : Type 0 where
  pairs : List (Key × ℕ)
  are_pairs : ArePairs words pairs
  once : AreOnce pairs
  free : AreFree settings pairs
  are_with : AreWith settings pairs later

-- a key that is new, before settings that come from the words behind it
settings_with : (settings later : Settings) (key : Key) (value : ℕ) (word number : List ℕ)
    (words : List (List ℕ)) → word ≡ key_word key → IsNumber number value →
    value_of settings key ≡ None → ComeFrom (with_value settings key value) words later →
    ComeFrom settings (word ∷ number ∷ words) later
settings_with settings later key value word number words spells_key is_number before rest =
    let none : first_number key rest.pairs ≡ None =
    none_or (first_number key rest.pairs)
    (λ v f. let clash = sym (with-same settings key value) ∙ rest.free key v f in absurd cc)
    in
    record {
      pairs = (key, value) ∷ rest.pairs;
      are_pairs = (number, words, ap (λ (w : List ℕ). w ∷ number ∷ words) spells_key, is_number, rest.are_pairs);
      once = (none, rest.once);
      free = λ other v f. elim (cases_Bool (same_key other key)) [
        | inl s ↦ ap (value_of settings) (same_key-true other key s) ∙ before
        | inr s ↦
            sym (with-other settings key other value s)
            ∙ rest.free other v (sym (first_number-other other key value rest.pairs s) ∙ f)
      ];
      are_with = AreWith-more settings key value rest.pairs later none rest.are_with;
    }

-- what it takes to read a pair
record IsPair (settings next : Settings) (word number : List ℕ) : Type 0 where
  key : Key
  value : ℕ
  spells_key : word ≡ key_word key
  is_number : IsNumber number value
  before : value_of settings key ≡ None
  next_is : with_value settings key value ≡ next

-- a pair that is read is a key, which had no value, and a number
pair_comes : (settings next : Settings) (word number : List ℕ) →
    add_pair settings word number ≡ Some next → IsPair settings next word number
pair_comes settings next word number e =
    let k =
    and_then_some
    (λ key. option_and_then (λ value. add_value settings key value) (number_at number))
    (key_at word) next e in
    let v = and_then_some (λ value. add_value settings k.0 value) (number_at number) next k.2 in
    let added = if_none (is_some (value_of settings k.0)) (Some (with_value settings k.0 v.0)) next v.2 in
    record {
      key = k.0;
      value = v.0;
      spells_key = key_from word k.0 k.1;
      is_number = number_from number v.0 v.1;
      before = not_some (value_of settings k.0) added.0;
      next_is = found_is (with_value settings k.0 v.0) next added.1;
    }

-- settings that are read come from pairs, each key once, and none had a value before
settings_come : (words : List (List ℕ)) (settings later : Settings) →
    settings_from settings words ≡ Some later → ComeFrom settings words later
settings_come [] settings later e = record {
  pairs = [];
  are_pairs = refl;
  once = tt;
  free = λ key value f. absurd cc;
  are_with =
      λ key.
      ap (λ (s : Settings). value_of s key)
      (sym (found_is settings later (sym (no_settings settings) ∙ e)));
}
settings_come (word ∷ []) settings later e = let none = sym (no_number settings word) ∙ e in absurd cc
settings_come (word ∷ number ∷ words) settings later e =
    let a =
    and_then_some (λ more. settings_from more words) (add_pair settings word number) later
    (sym (one_pair settings word number words) ∙ e) in
    let p = pair_comes settings a.0 word number a.1 in
    settings_with settings later p.key p.value word number words p.spells_key p.is_number p.before
    (settings_come words (with_value settings p.key p.value) later
    (ap (λ (s : Settings). settings_from s words) p.next_is ∙ a.2))

-- pairs with each key once, none of which has a value before, are read as settings
settings_go : (pairs : List (Key × ℕ)) (words : List (List ℕ)) (settings : Settings) →
    ArePairs words pairs → AreOnce pairs → AreFree settings pairs →
    (later : Settings) × (settings_from settings words ≡ Some later) × AreWith settings pairs later
settings_go [] words settings p once free =
    (settings, ap (settings_from settings) p ∙ no_settings settings, λ key. refl)
settings_go ((key, value) ∷ pairs) words settings p once free =
    let number = p.0 in
    let rest = p.1 in
    let next = with_value settings key value in
    let before : value_of settings key ≡ None = free key value (first_number-same key value pairs) in
    let added : add_value settings key value ≡ Some next =
    cond-false (is_some (value_of settings key)) None (Some next) (ap is_some before) in
    let free_next : AreFree next pairs = λ other v f. elim (cases_Bool (same_key other key)) [
      | inl s ↦ let clash =
          sym once.0 ∙ ap (λ (k : Key). first_number k pairs) (sym (same_key-true other key s))
          ∙ f in absurd cc
      | inr s ↦ with-other settings key other value s ∙ free other v (first_number-other other key value pairs s ∙ f)
    ] in
    let more = settings_go pairs rest next p.4 once.1 free_next in (
      more.0,
      ap (settings_from settings) p.2 ∙ with_pair settings (key_word key) number rest key
          (Some value) (key_at-key_word key) (number_is number value p.3)
          ∙ ap (option_and_then (λ s. settings_from s rest)) added ∙ more.1,
      AreWith-more settings key value pairs more.0 once.0 more.2,
    )

-- ---- the numbers

-- a value or nothing is that value
or_none : (o : Option ℕ) → or_else o None ≡ o
or_none None = refl
or_none (Some x) = refl

-- at the beginning no key has a value
none_value : (key : Key) → value_of none_given key ≡ None
none_value Cache = refl
none_value Workers = refl
none_value Desks = refl
none_value Buf = refl
none_value Refs = refl
none_value Tries = refl
none_value Start = refl
none_value Rule = refl
none_value Second = refl
none_value SecondCache = refl

-- each number is the one that the pairs give its key, or its default
numbers_same : (population : ℕ) (pairs : List (Key × ℕ)) (settings : Settings) →
    AreWith none_given pairs settings → numbers_by population settings ≡ numbers_with population pairs
numbers_same population pairs settings h =
    let cache : settings.cache ≡ first_number Cache pairs = h Cache ∙ or_none (first_number Cache pairs) in
    let workers : settings.workers ≡ first_number Workers pairs = h Workers ∙ or_none (first_number Workers pairs) in
    let desks : settings.desks ≡ first_number Desks pairs = h Desks ∙ or_none (first_number Desks pairs) in
    let buf : settings.buf ≡ first_number Buf pairs = h Buf ∙ or_none (first_number Buf pairs) in
    let refs : settings.refs ≡ first_number Refs pairs = h Refs ∙ or_none (first_number Refs pairs) in
    let tries : settings.tries ≡ first_number Tries pairs = h Tries ∙ or_none (first_number Tries pairs) in
    let start : settings.start ≡ first_number Start pairs = h Start ∙ or_none (first_number Start pairs) in
    let rule : settings.rule ≡ first_number Rule pairs = h Rule ∙ or_none (first_number Rule pairs) in
    rw (cache, workers, desks, buf, refs, tries, start, rule) refl

-- the numbers of a second pool are read by what the pairs give it
second_same : (knows : Bool) (first : PoolNumbers) (pairs : List (Key × ℕ)) (settings : Settings) →
    AreWith none_given pairs settings →
    with_second knows first settings.second settings.second_cache
    ≡ with_second knows first (first_number Second pairs) (first_number SecondCache pairs)
second_same knows first pairs settings h =
    let second : settings.second ≡ first_number Second pairs = h Second ∙ or_none (first_number Second pairs) in
    let cache : settings.second_cache ≡ first_number SecondCache pairs =
    h SecondCache ∙ or_none (first_number SecondCache pairs) in
    rw (second, cache) refl

-- the numbers of a line are the first pool's, and beside them those of a second
record AreBoth (knows : Bool) (first : PoolNumbers) (population cache : Option ℕ)
    (numbers : LineNumbers) : Type 0 where
  first_is : numbers.first ≡ first
  second_is : IsSecond knows numbers.first population cache numbers.second

-- what is read beside the first pool's numbers is what a second pool may have
second_comes : (knows : Bool) (first : PoolNumbers) (population cache : Option ℕ) (numbers : LineNumbers) →
    with_second knows first population cache ≡ Some numbers → AreBoth knows first population cache numbers
second_comes knows first None None numbers e =
    subst (AreBoth knows first None None) (found_is (record { first = first; second = None }) numbers e)
    (record { first_is = refl; second_is = (refl, refl) })
second_comes knows first None (Some cache) numbers e = absurd cc
second_comes true first (Some population) cache numbers e =
    let second = second_beside first population (unwrap_or cache 0) in
    subst (AreBoth true first (Some population) cache)
    (found_is (record { first = first; second = Some second }) numbers e)
    (record { first_is = refl; second_is = (refl, (population, refl, refl)) })
second_comes false first (Some population) cache numbers e = absurd cc

-- what a second pool may have is read beside the first pool's numbers
second_goes : (knows : Bool) (first : PoolNumbers) (population cache : Option ℕ) (second : Option PoolNumbers) →
    IsSecond knows first population cache second →
    with_second knows first population cache ≡ Some (record { first = first; second = second })
second_goes knows first population cache None h = rw (h.0, h.1) refl
second_goes knows first population cache (Some second) h = rw (h.0, h.1.1, h.1.2) refl

-- after `pool` stand a number and then pairs, of which the numbers are made
pool_from_words : (knows : Bool) (word : List ℕ) (words : List (List ℕ)) (numbers : LineNumbers) →
    word ≡ codes "pool" → pool_with knows words ≡ Some numbers → IsPoolLine knows (word ∷ words) numbers
pool_from_words knows word [] numbers e f = absurd cc
pool_from_words knows word (number ∷ words) numbers e f =
    let a =
    and_then_some (λ population.
    option_and_then (λ settings. line_numbers_by knows population settings)
    (settings_from none_given words)) (number_at number) numbers f in
    let b =
    and_then_some (λ settings. line_numbers_by knows a.0 settings) (settings_from none_given words)
    numbers a.2 in
    let c = settings_come words none_given b.0 b.1 in
    let is =
    second_comes knows (numbers_by a.0 b.0) (first_number Second c.pairs) (first_number SecondCache c.pairs) numbers
    (sym (second_same knows (numbers_by a.0 b.0) c.pairs b.0 c.are_with) ∙ b.2) in
    record {
      number = number;
      population = a.0;
      rest = words;
      pairs = c.pairs;
      words_are = ap (λ (w : List ℕ). w ∷ number ∷ words) e;
      population_is = number_from number a.0 a.1;
      pairs_are = c.are_pairs;
      once = c.once;
      first_is = is.first_is ∙ numbers_same a.0 c.pairs b.0 c.are_with;
      second_is = is.second_is;
    }

-- words that are read as a pool line begin with `pool`
pub pool_line_from : (knows : Bool) (words : List (List ℕ)) (numbers : LineNumbers) →
    numbers_from knows words ≡ Some numbers → IsPoolLine knows words numbers
pool_line_from knows [] numbers e = absurd cc
pool_line_from knows (word ∷ words) numbers e =
    let a = if_some (bytes_eq word (codes "pool")) (pool_with knows words) numbers e in
    pool_from_words knows word words numbers ((bytes_eq-Decides word (codes "pool")).0 a.0) a.1

-- a pool line of the grammar is read as its numbers
pub pool_line_is : (knows : Bool) (words : List (List ℕ)) (numbers : LineNumbers) →
    IsPoolLine knows words numbers → numbers_from knows words ≡ Some numbers
pool_line_is knows words numbers h =
    let s = settings_go h.pairs h.rest none_given h.pairs_are h.once (λ key value f. none_value key) in
    let first : numbers_by h.population s.0 ≡ numbers.first =
    numbers_same h.population h.pairs s.0 s.2 ∙ sym h.first_is in
    ap (numbers_from knows) h.words_are
    ∙ ap (option_and_then (λ population.
    option_and_then (λ settings. line_numbers_by knows population settings)
    (settings_from none_given h.rest))) (number_is h.number h.population h.population_is)
    ∙ ap (option_and_then (λ settings. line_numbers_by knows h.population settings)) s.1
    ∙ ap (λ (n : PoolNumbers). with_second knows n s.0.second s.0.second_cache) first
    ∙ second_same knows numbers.first h.pairs s.0 s.2
    ∙ second_goes knows numbers.first (first_number Second h.pairs) (first_number SecondCache h.pairs)
    numbers.second h.second_is
