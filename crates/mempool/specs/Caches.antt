-- What a worker's cache does with a request: for each case the calls that are made with their
-- answers, the reply and the cache that is left.
use Rattle.std.specs.Prelude.{ℕ, ◌≡◌, ◌+◌, ◌-◌, ◌*◌, ◌/◌, ◌<◌, ◌≤◌, ◌⊎◌, List, [], ◌∷◌, ◌++◌, Result, Ok, Err, length, take, drop, reverse}
use Rattle.commons.specs.declared.limits.Limits.{Limits}
use Rattle.commons.specs.declared.limits.PutRule.TheVariants as rules
use Rattle.commons.specs.declared.refusal.Refusal.{Refusal}
use Rattle.commons.specs.Bounds.{max_cache}
use Rattle.commons.specs.Calls.{Reading, Call, GetList, PutList, Did, Side}
use Rattle.mempool.specs.declared.put.Put.{Put}
use Rattle.mempool.specs.declared.put.Put.TheVariants.{Kept, Flushed, PutOff}

-- the last n of a cache, last first
abbrev pub last : ℕ → List ℕ → List ℕ
last n cache = reverse (drop (length cache - n) cache)

-- a cache without its last n
abbrev pub without_last : ℕ → List ℕ → List ℕ
without_last n cache = take (length cache - n) cache

-- the length from which a cache is flushed
abbrev pub threshold : Limits → ℕ
threshold l = l.cache * 3 / 2

-- a cache can't keep this many by its pool's rule
pub record Overflows (l : Limits) (n : ℕ) : Type 0 where
  pub keep : l.put_rule ≡ rules.Keep → (threshold l ≤ n) × (l.cache < n)
  pub whole : l.put_rule ≡ rules.Whole → threshold l < n

-- an answer of one element, as a list
abbrev pub as_list : Result ℕ Refusal → Result (List ℕ) Refusal
as_list (Ok e) = Ok (e ∷ [])
as_list (Err cause) = Err cause

-- what a get of n does with a cache, by the calls that it makes, its answer and the cache that it
-- leaves
pub data Gets (l : Limits) (cache : List ℕ) (n : ℕ) (calls : List Call)
    (answer : Result (List ℕ) Refusal) (left : List ℕ) : Type 0 where
  -- nothing is asked for
  Nothing : n ≡ 0 → calls ≡ [] → answer ≡ Ok [] → left ≡ cache → Gets l cache n calls answer left
  -- as many as the cache may keep, or more: the stack is asked
  Direct :
      0 < n →
      l.cache ≤ n →
      calls ≡ GetList n answer ∷ [] →
      left ≡ cache →
      Gets l cache n calls answer left
  -- the cache has enough
  FromCache :
      0 < n →
      n < l.cache →
      n ≤ length cache →
      calls ≡ [] →
      answer ≡ Ok (last n cache) →
      left ≡ without_last n cache →
      Gets l cache n calls answer left
  -- the cache is refilled first
  Refill :
      0 < n →
      n < l.cache →
      length cache < n →
      n + l.cache ≤ l.population →
      (more : List ℕ) →
      calls ≡ GetList (n + l.cache - length cache) (Ok more) ∷ [] →
      answer ≡ Ok (last n (cache ++ more)) →
      left ≡ without_last n (cache ++ more) →
      Gets l cache n calls answer left
  -- the refill is refused, and the stack is asked for n
  RefillRefused :
      0 < n →
      n < l.cache →
      length cache < n →
      n + l.cache ≤ l.population →
      (cause : Refusal) →
      calls ≡ GetList (n + l.cache - length cache) (Err cause) ∷ GetList n answer ∷ [] →
      left ≡ cache →
      Gets l cache n calls answer left
  -- no refill can succeed, and the stack is asked for n
  NoRefill :
      0 < n →
      n < l.cache →
      length cache < n →
      l.population < n + l.cache →
      calls ≡ GetList n answer ∷ [] →
      left ≡ cache →
      Gets l cache n calls answer left

-- how many elements went to the stack, or were to go there
abbrev pub put_count : Put → ℕ
put_count Kept = 0
put_count (Flushed k) = k
put_count (PutOff k e) = k

-- what a put of a list does with a cache, by the pool's rule: `Whole` has the cases that begin with
-- its name, `Keep` the others, and both have the first
pub data Puts (l : Limits) (cache list : List ℕ) (calls : List Call) (answer : Put) (left : List ℕ)
    : Type 0 where
  -- nothing is put
  NothingPut :
      list ≡ [] →
      calls ≡ [] →
      answer ≡ Kept →
      left ≡ cache →
      Puts l cache list calls answer left
  -- more than a cache ever keeps goes past it
  Bypass :
      l.put_rule ≡ rules.Keep →
      max_cache < length list →
      calls ≡ PutList list (Ok tt) ∷ [] →
      answer ≡ Flushed (length list) →
      left ≡ cache →
      Puts l cache list calls answer left
  -- more than a cache ever keeps stays in it where the stack refuses it
  BypassPutOff :
      l.put_rule ≡ rules.Keep →
      max_cache < length list →
      (cause : Refusal) →
      calls ≡ PutList list (Err cause) ∷ [] →
      answer ≡ PutOff (length list) cause →
      left ≡ cache ++ list →
      Puts l cache list calls answer left
  -- from the threshold on, all beyond the size goes to the stack in one push
  Flush :
      l.put_rule ≡ rules.Keep →
      0 < length list →
      length list ≤ max_cache →
      threshold l ≤ length (cache ++ list) →
      l.cache < length (cache ++ list) →
      calls ≡ PutList (drop l.cache (cache ++ list)) (Ok tt) ∷ [] →
      answer ≡ Flushed (length (cache ++ list) - l.cache) →
      left ≡ take l.cache (cache ++ list) →
      Puts l cache list calls answer left
  -- from the threshold on, all beyond the size stays in the cache where the stack refuses it
  FlushPutOff :
      l.put_rule ≡ rules.Keep →
      0 < length list →
      length list ≤ max_cache →
      threshold l ≤ length (cache ++ list) →
      l.cache < length (cache ++ list) →
      (cause : Refusal) →
      calls ≡ PutList (drop l.cache (cache ++ list)) (Err cause) ∷ [] →
      answer ≡ PutOff (length (cache ++ list) - l.cache) cause →
      left ≡ cache ++ list →
      Puts l cache list calls answer left
  -- below it the cache keeps all
  Keep :
      l.put_rule ≡ rules.Keep →
      0 < length list →
      length list ≤ max_cache →
      (length (cache ++ list) < threshold l) ⊎ (length (cache ++ list) ≤ l.cache) →
      calls ≡ [] →
      answer ≡ Kept →
      left ≡ cache ++ list →
      Puts l cache list calls answer left
  -- more than a cache ever keeps, or than the threshold, goes past it
  WholeBypass :
      l.put_rule ≡ rules.Whole →
      (max_cache < length list) ⊎ (threshold l < length list) →
      calls ≡ PutList list (Ok tt) ∷ [] →
      answer ≡ Flushed (length list) →
      left ≡ cache →
      Puts l cache list calls answer left
  -- more than a cache ever keeps, or than the threshold, stays in it where the stack refuses it
  WholeBypassPutOff :
      l.put_rule ≡ rules.Whole →
      (max_cache < length list) ⊎ (threshold l < length list) →
      (cause : Refusal) →
      calls ≡ PutList list (Err cause) ∷ [] →
      answer ≡ PutOff (length list) cause →
      left ≡ cache ++ list →
      Puts l cache list calls answer left
  -- where the two would pass the threshold, the whole cache goes to the stack in one push, and the
  -- list becomes the cache
  WholeFlush :
      l.put_rule ≡ rules.Whole →
      0 < length list →
      length list ≤ max_cache →
      length list ≤ threshold l →
      threshold l < length (cache ++ list) →
      calls ≡ PutList cache (Ok tt) ∷ [] →
      answer ≡ Flushed (length cache) →
      left ≡ list →
      Puts l cache list calls answer left
  -- where the stack refuses the whole cache, the list comes after it
  WholeFlushPutOff :
      l.put_rule ≡ rules.Whole →
      0 < length list →
      length list ≤ max_cache →
      length list ≤ threshold l →
      threshold l < length (cache ++ list) →
      (cause : Refusal) →
      calls ≡ PutList cache (Err cause) ∷ [] →
      answer ≡ PutOff (length cache) cause →
      left ≡ cache ++ list →
      Puts l cache list calls answer left
  -- up to the threshold the cache keeps all
  WholeKeep :
      l.put_rule ≡ rules.Whole →
      0 < length list →
      length list ≤ max_cache →
      length (cache ++ list) ≤ threshold l →
      calls ≡ [] →
      answer ≡ Kept →
      left ≡ cache ++ list →
      Puts l cache list calls answer left

-- all of a cache beyond keep went to the stack in one push, or was refused and stayed
pub data Pushed {S : Type 0} (did : S → Call → List Reading → S → Type 0) (side : S → Side)
    (keep : ℕ) (cache : List ℕ) (before : S) (answer : Put) (after : S) (left : List ℕ)
    : Type 0 where
  Gone :
      Did did side before (PutList (drop keep cache) (Ok tt)) after →
      answer ≡ Flushed (length cache - keep) →
      left ≡ take keep cache →
      Pushed did side keep cache before answer after left
  Stays :
      (cause : Refusal) →
      Did did side before (PutList (drop keep cache) (Err cause)) after →
      answer ≡ PutOff (length cache - keep) cause →
      left ≡ cache →
      Pushed did side keep cache before answer after left

-- what a flush does: the whole cache goes to the stack in one push, and an empty one is kept
pub data Flushes (cache : List ℕ) (calls : List Call) (answer : Put) (left : List ℕ) : Type 0 where
  Empty : cache ≡ [] → calls ≡ [] → answer ≡ Kept → left ≡ cache → Flushes cache calls answer left
  Whole :
      0 < length cache →
      calls ≡ PutList cache (Ok tt) ∷ [] →
      answer ≡ Flushed (length cache) →
      left ≡ [] →
      Flushes cache calls answer left
  WholePutOff :
      0 < length cache →
      (cause : Refusal) →
      calls ≡ PutList cache (Err cause) ∷ [] →
      answer ≡ PutOff (length cache) cause →
      left ≡ cache →
      Flushes cache calls answer left
