-- The pool line: which numbers its words give to a pool and to a second one, and which limits have
-- these.
use Rattle.std.specs.Prelude.{◌≡◌, ℕ, Bool, true, if◌then◌else◌, List, [], ◌∷◌, Option, Some, None, option_map, unwrap_or, codes}
use Rattle.std.specs.Option.{ForSome}
use Rattle.std.specs.Str.{bytes_eq}
use Rattle.commons.specs.Bounds.{IsPool, max_refs}
use Rattle.commons.specs.declared.limits.Limits.{Limits}
use Rattle.commons.specs.declared.limits.PutRule.{PutRule}
use Rattle.commons.specs.declared.limits.PutRule.TheVariants.{Keep, Whole}
use Rattle.script_text.specs.declared.commands.Key.{Key}
use Rattle.script_text.specs.declared.commands.Key.TheVariants.{Cache, Workers, Desks, Buf, Refs, Tries, Start, Rule, Second, SecondCache}
use Rattle.script_text.specs.declared.lines.Pools.{Pools}
use Rattle.script_text.specs.declared.pool_line.LineNumbers.{LineNumbers}
use Rattle.script_text.specs.declared.pool_line.PoolNumbers.{PoolNumbers}
use Rattle.script_text.specs.Numbers.{IsNumber}

-- how a key is written
abbrev pub key_word : Key → List ℕ
key_word Cache = codes "cache"
key_word Workers = codes "workers"
key_word Desks = codes "desks"
key_word Buf = codes "buf"
key_word Refs = codes "refs"
key_word Tries = codes "tries"
key_word Start = codes "start"
key_word Rule = codes "putrule"
key_word Second = codes "second"
key_word SecondCache = codes "secondcache"

-- whether two keys are the same, which they are where they are written alike
abbrev pub same_key : Key → Key → Bool
same_key key other = bytes_eq (key_word key) (key_word other)

-- the words are these keys, each with its number after it
abbrev pub ArePairs : List (List ℕ) → List (Key × ℕ) → Type 0
ArePairs words [] = words ≡ []
ArePairs words (pair ∷ pairs) =
    (number : List ℕ) × (rest : List (List ℕ)) × (words ≡ key_word pair.0 ∷ number ∷ rest)
    × IsNumber number pair.1 × ArePairs rest pairs

-- the first number that stands with a key
abbrev pub first_number : Key → List (Key × ℕ) → Option ℕ
first_number key [] = None
first_number key (pair ∷ pairs) = if same_key key pair.0 then Some pair.1
    else first_number key pairs

-- no key stands there twice
abbrev pub AreOnce : List (Key × ℕ) → Type 0
AreOnce [] = Unit {0}
AreOnce (pair ∷ pairs) = (first_number pair.0 pairs ≡ None) × AreOnce pairs

-- the numbers of a pool line with this many elements; each key that doesn't stand there has its
-- default
abbrev pub numbers_with : ℕ → List (Key × ℕ) → PoolNumbers
numbers_with population pairs = record {
  population = population;
  cache = unwrap_or (first_number Cache pairs) 0;
  workers = unwrap_or (first_number Workers pairs) 1;
  desks = unwrap_or (first_number Desks pairs) 0;
  buf = unwrap_or (first_number Buf pairs) 2048;
  ref_limit = unwrap_or (first_number Refs pairs) max_refs;
  tries = unwrap_or (first_number Tries pairs) 64;
  start_count = unwrap_or (first_number Start pairs) 0;
  put_rule = unwrap_or (first_number Rule pairs) 0;
}

-- the numbers of a second pool beside one with these: no buffers, no desks, and all else as there
abbrev pub second_beside : PoolNumbers → ℕ → ℕ → PoolNumbers
second_beside first population cache =
    record first { population = population; cache = cache; desks = 0; buf = 0 }

-- a second pool has these numbers beside the first pool's, where this number of elements and this
-- cache are given to it or not: there is one only where a second is known, and a cache is given to
-- no other
abbrev pub IsSecond : Bool → PoolNumbers → Option ℕ → Option ℕ → Option PoolNumbers → Type 0
IsSecond knows first population cache None = (population ≡ None) × (cache ≡ None)
IsSecond knows first population cache (Some second) = (knows ≡ true) × ((n : ℕ)
    × (population ≡ Some n) × (second ≡ second_beside first n (unwrap_or cache 0)))

-- the words are `pool`, the number of elements and pairs of a key and a number, each key once, and
-- give these numbers, a second pool's only where one is known
pub record IsPoolLine (knows : Bool) (words : List (List ℕ)) (numbers : LineNumbers) : Type 0 where
  pub number : List ℕ
  pub population : ℕ
  pub rest : List (List ℕ)
  pub pairs : List (Key × ℕ)
  pub words_are : words ≡ codes "pool" ∷ number ∷ rest
  pub population_is : IsNumber number population
  pub pairs_are : ArePairs rest pairs
  pub once : AreOnce pairs
  pub first_is : numbers.first ≡ numbers_with population pairs
  pub second_is : IsSecond knows numbers.first (first_number Second pairs)
      (first_number SecondCache pairs) numbers.second

-- the number of a put rule
abbrev pub rule_number : PutRule → ℕ
rule_number Keep = 0
rule_number Whole = 1

-- the numbers of a pool's limits
abbrev pub numbers_of : Limits → PoolNumbers
numbers_of l = record {
  population = l.population;
  cache = l.cache;
  workers = l.workers;
  desks = l.desks;
  buf = l.buf;
  ref_limit = l.ref_limit;
  tries = l.tries;
  start_count = l.start_count;
  put_rule = rule_number l.put_rule;
}

-- the numbers of the limits of each pool
abbrev pub numbers_of_pools : Pools → LineNumbers
numbers_of_pools pools = record {
  first = numbers_of pools.first;
  second = option_map numbers_of pools.second;
}

-- limits of one pool and no second
abbrev pub one_pool : Limits → Pools
one_pool limits = record { first = limits; second = None }

-- the second of these limits has as many workers as the first, and no desks
pub record IsBeside (first second : Limits) : Type 0 where
  pub workers : second.workers ≡ first.workers
  pub desks : second.desks ≡ 0

-- a second pool can be made within the second of these limits, beside one within the first
pub record IsSecondPool (first second : Limits) : Type 0 where
  pub pool : IsPool second
  pub beside : IsBeside first second

-- pools can be made within these limits
pub record ArePools (pools : Pools) : Type 0 where
  pub first : IsPool pools.first
  pub second : ForSome pools.second (IsSecondPool pools.first)

-- pools have these numbers
pub record AreSomePools (numbers : LineNumbers) : Type 0 where
  pub pools : Pools
  pub numbers_are : numbers ≡ numbers_of_pools pools
  pub made : ArePools pools
