-- How lines, words, numbers, names and the pool line are read, as functions on lists,
-- for the crate's own functions. Of public clauses those alone cite this module that look at single words.
use Rattle.std.specs.Prelude.{ℕ, ◌*◌, ◌/◌, ◌^◌, Bool, true, false, ◌&&◌, ◌||◌, if◌then◌else◌, ◌==◌, nat_le, nat_lt, List, [], ◌∷◌, length, Option, Some, None, is_some, option_and_then, unwrap_or, codes}
use Rattle.std.specs.List.{find, list_all}
use Rattle.std.specs.Str.{bytes_eq}
use Rattle.commons.specs.Bounds.{max_buf, max_cache, max_desks, max_population, max_refs, max_tries, max_workers}
use Rattle.commons.specs.Calls.{spent}
use Rattle.script_text.specs.declared.commands.Key.{Key}
use Rattle.script_text.specs.declared.commands.Key.TheVariants.{Cache, Workers, Desks, Buf, Refs, Tries, Start, Rule, Second, SecondCache}
use Rattle.script_text.specs.declared.pool_line.LineNumbers.{LineNumbers}
use Rattle.script_text.specs.declared.pool_line.PoolNumbers.{PoolNumbers}
use Rattle.script_text.specs.declared.pool_line.Settings.{Settings}
use Rattle.script_text.specs.Numbers.{digits_value}
use Rattle.script_text.specs.PoolLine.{key_word, same_key, second_beside}

-- ---- lines

-- the lines of a text, and the bytes after the last line end
pub record Parts : Type 0 where
  pub lines : List (List ℕ)
  pub rest : List ℕ

-- one byte more in front, which ends no line
abbrev pub with_byte : ℕ → List (List ℕ) → List ℕ → Parts
with_byte byte [] rest = record { lines = []; rest = byte ∷ rest }
with_byte byte (line ∷ lines) rest = record { lines = (byte ∷ line) ∷ lines; rest = rest }

-- the lines of a text and its rest, from the front on
unfoldable pub parts : List ℕ → Parts
parts [] = record { lines = []; rest = [] }
parts (byte ∷ bytes) =
    if byte == 10 then record { lines = [] ∷ (parts bytes).lines; rest = (parts bytes).rest }
    else with_byte byte (parts bytes).lines (parts bytes).rest

-- whether a byte is a space or a character that is printed
abbrev pub is_printed : ℕ → Bool
is_printed byte = nat_le 32 byte && nat_le byte 126

-- whether a line isn't too long, and has no other bytes than those
abbrev pub is_plain : List ℕ → Bool
is_plain line = nat_le (length line) 8192 && list_all is_printed line

-- ---- words

-- one byte more at the front of the first word
abbrev pub on_first : ℕ → List (List ℕ) → List (List ℕ)
on_first byte [] = (byte ∷ []) ∷ []
on_first byte (word ∷ words) = (byte ∷ word) ∷ words

-- a byte of a word, before bytes that have these words
abbrev pub in_word : ℕ → List ℕ → List (List ℕ) → List (List ℕ)
in_word byte [] words = (byte ∷ []) ∷ words
in_word byte (next ∷ bytes) words = if next == 32 then (byte ∷ []) ∷ words else on_first byte words

-- the words of a line
unfoldable pub words_of : List ℕ → List (List ℕ)
words_of [] = []
words_of (byte ∷ bytes) = if byte == 32 then words_of bytes else in_word byte bytes (words_of bytes)

-- the only one of the words
abbrev pub only_of : List (List ℕ) → Option (List ℕ)
only_of [] = None
only_of (word ∷ []) = Some word
only_of (word ∷ other ∷ words) = None

-- the only two of the words
abbrev pub both_of : List (List ℕ) → Option (List ℕ × List ℕ)
both_of [] = None
both_of (word ∷ []) = None
both_of (word ∷ other ∷ []) = Some (word, other)
both_of (word ∷ other ∷ third ∷ words) = None

-- what a verb says that has no words after it
abbrev pub without_words : {C : Type 0} → C → List (List ℕ) → Option C
without_words command [] = Some command
without_words command (word ∷ words) = None

-- whether the first byte is `#`
abbrev pub is_marked : List ℕ → Bool
is_marked [] = false
is_marked (byte ∷ bytes) = byte == 35

-- whether a line with these words is skipped
abbrev pub is_skipped : List (List ℕ) → Bool
is_skipped [] = true
is_skipped (word ∷ words) = is_marked word

-- ---- numbers and names

-- whether a byte is `0` to `9`
abbrev pub is_digit : ℕ → Bool
is_digit byte = nat_le 48 byte && nat_le byte 57

-- whether a word is 1 to 20 digits with a value below 2^64
abbrev pub is_number : List ℕ → Bool
is_number word =
    nat_le 1 (length word) && nat_le (length word) 20 && list_all is_digit word
    && nat_lt (digits_value word) (2 ^ 64)

-- the number that a word spells
unfoldable pub number_at : List ℕ → Option ℕ
number_at word = if is_number word then Some (digits_value word) else None

-- the number, where it is at most 65535, as of a length or of a desk
abbrev pub short_number : ℕ → Option ℕ
short_number n = if nat_le n 65535 then Some n else None

abbrev pub short_number_at : List ℕ → Option ℕ
short_number_at word = option_and_then short_number (number_at word)

-- whether a byte is `a` to `z`
abbrev pub is_letter : ℕ → Bool
is_letter byte = nat_le 97 byte && nat_le byte 122

-- whether the first byte is a letter
abbrev pub begins_with_letter : List ℕ → Bool
begins_with_letter [] = false
begins_with_letter (byte ∷ bytes) = is_letter byte

-- whether a word is 1 to 16 letters and digits, and begins with a letter
unfoldable pub is_name_word : List ℕ → Bool
is_name_word word =
    begins_with_letter word && nat_le (length word) 16
    && list_all (λ byte. is_letter byte || is_digit byte) word

-- ---- the pool line

-- all keys
abbrev pub keys : List Key
keys =
    Cache ∷ Workers ∷ Desks ∷ Buf ∷ Refs ∷ Tries ∷ Start ∷ Rule ∷ Second ∷ SecondCache ∷ []

-- the key that a word spells
abbrev pub key_at : List ℕ → Option Key
key_at word = find (λ key. bytes_eq word (key_word key)) keys

-- the value that a key was given
abbrev pub value_of : Settings → Key → Option ℕ
value_of settings Cache = settings.cache
value_of settings Workers = settings.workers
value_of settings Desks = settings.desks
value_of settings Buf = settings.buf
value_of settings Refs = settings.refs
value_of settings Tries = settings.tries
value_of settings Start = settings.start
value_of settings Rule = settings.rule
value_of settings Second = settings.second
value_of settings SecondCache = settings.second_cache

-- the value of one key once another was given this one
abbrev pub value_with : Settings → Key → ℕ → Key → Option ℕ
value_with settings key value other = if same_key other key then Some value
    else value_of settings other

-- the settings with this value of the key
abbrev pub with_value : Settings → Key → ℕ → Settings
with_value settings key value = record {
  cache = value_with settings key value Cache;
  workers = value_with settings key value Workers;
  desks = value_with settings key value Desks;
  buf = value_with settings key value Buf;
  refs = value_with settings key value Refs;
  tries = value_with settings key value Tries;
  start = value_with settings key value Start;
  rule = value_with settings key value Rule;
  second = value_with settings key value Second;
  second_cache = value_with settings key value SecondCache;
}

-- no key was given a value
abbrev pub none_given : Settings
none_given = record {
  cache = None;
  workers = None;
  desks = None;
  buf = None;
  refs = None;
  tries = None;
  start = None;
  rule = None;
  second = None;
  second_cache = None;
}

-- a new value of a key
abbrev pub add_value : Settings → Key → ℕ → Option Settings
add_value settings key value =
    if is_some (value_of settings key) then None else Some (with_value settings key value)

-- the settings once a key's word and its number's are read
abbrev pub add_pair : Settings → List ℕ → List ℕ → Option Settings
add_pair settings key number =
    option_and_then (λ k. option_and_then (λ value. add_value settings k value) (number_at number))
    (key_at key)

-- the settings once all words are read, a pair after a pair
unfoldable pub settings_from : Settings → List (List ℕ) → Option Settings
settings_from settings [] = Some settings
settings_from settings (key ∷ []) = None
settings_from settings (key ∷ number ∷ words) =
    option_and_then (λ more. settings_from more words) (add_pair settings key number)

-- the numbers of a pool line with this many elements and these settings
abbrev pub numbers_by : ℕ → Settings → PoolNumbers
numbers_by population settings = record {
  population = population;
  cache = unwrap_or settings.cache 0;
  workers = unwrap_or settings.workers 1;
  desks = unwrap_or settings.desks 0;
  buf = unwrap_or settings.buf 2048;
  ref_limit = unwrap_or settings.refs max_refs;
  tries = unwrap_or settings.tries 64;
  start_count = unwrap_or settings.start 0;
  put_rule = unwrap_or settings.rule 0;
}

-- the numbers of the first pool and of a second one, where it has this population and this cache,
-- if they were given
abbrev pub with_second : Bool → PoolNumbers → Option ℕ → Option ℕ → Option LineNumbers
with_second knows first None None = Some (record { first = first; second = None })
with_second knows first None (Some cache) = None
with_second knows first (Some population) cache = if knows then Some (record {
  first = first;
  second = Some (second_beside first population (unwrap_or cache 0));
}) else None

-- the numbers of a pool line with this many elements and these settings
abbrev pub line_numbers_by : Bool → ℕ → Settings → Option LineNumbers
line_numbers_by knows population settings =
    with_second knows (numbers_by population settings) settings.second settings.second_cache

-- the numbers, from the words after `pool`
abbrev pub pool_with : Bool → List (List ℕ) → Option LineNumbers
pool_with knows [] = None
pool_with knows (number ∷ words) =
    option_and_then (λ population.
    option_and_then (λ settings. line_numbers_by knows population settings)
    (settings_from none_given words)) (number_at number)

-- the numbers that the words of a pool line give
abbrev pub numbers_from : Bool → List (List ℕ) → Option LineNumbers
numbers_from knows [] = None
numbers_from knows (word ∷ words) =
    if bytes_eq word (codes "pool") then pool_with knows words else None

-- of each two numbers the first is at most the second where a pool has them
abbrev pub pool_bounds : PoolNumbers → List (ℕ × ℕ)
pool_bounds n =
    (1, n.population) ∷ (n.population, max_population) ∷ (n.cache, max_cache)
    ∷ (n.cache * 3 / 2, n.population) ∷ (1, n.workers) ∷ (n.workers, max_workers)
    ∷ (n.desks, max_desks) ∷ (n.buf, max_buf) ∷ (1, n.ref_limit) ∷ (n.ref_limit, max_refs)
    ∷ (1, n.tries) ∷ (n.tries, max_tries) ∷ (n.start_count, spent)
    ∷ (n.put_rule, 1) ∷ []

-- whether a pool has the numbers
abbrev pub is_pool : PoolNumbers → Bool
is_pool n = list_all (λ bound. nat_le bound.0 bound.1) (pool_bounds n)

-- whether a second pool has the numbers, if they were given, beside a first that has these
abbrev pub is_second : PoolNumbers → Option PoolNumbers → Bool
is_second first None = true
is_second first (Some second) =
    is_pool second && second.workers == first.workers && second.desks == 0

-- whether pools have the numbers
abbrev pub are_pools : LineNumbers → Bool
are_pools numbers = is_pool numbers.first && is_second numbers.first numbers.second
