-- The reference model of requests to the stack and of a worker's cache.
use Rattle.std.specs.Prelude.{ℕ, ◌+◌, ◌-◌, ◌==◌, nat_lt, nat_le, if◌then◌else◌, List, [], ◌++◌, length, take, drop, reverse, Result, Ok, Err}
use Rattle.commons.specs.declared.limits.Limits.{Limits}
use Rattle.commons.specs.declared.limits.PutRule.{PutRule}
use Rattle.commons.specs.declared.limits.PutRule.TheVariants.{Keep, Whole}
use Rattle.commons.specs.declared.refusal.Refusal.{Refusal}
use Rattle.commons.specs.declared.refusal.Refusal.TheVariants.{NoEntries, HeadSpent}
use Rattle.commons.specs.Calls.{spent}
use Rattle.mempool.specs.declared.put.Put.{Put}
use Rattle.mempool.specs.declared.put.Put.TheVariants.{Kept, Flushed, PutOff}
use Rattle.mempool.specs.Caches.{last, without_last, threshold}
use Rattle.pool_model.specs.Pool.{Shared}

-- a request of n elements is served from the front of the common list
abbrev pub ask : ℕ → Shared → Result (List ℕ) Refusal × Shared
ask n s =
    if nat_lt (length s.common) n then (Err NoEntries, s)
    else if s.changes == spent then (Err HeadSpent, s)
    else (Ok (take n s.common), record s { common = drop n s.common; changes = s.changes + 1 })

-- a push puts the list before the common list, its last element on top
abbrev pub push : List ℕ → Shared → Result (Unit {0}) Refusal × Shared
push xs s =
    if s.changes == spent then (Err HeadSpent, s)
    else (Ok tt, record s { common = reverse xs ++ s.common; changes = s.changes + 1 })

abbrev pub get_direct : List ℕ → Result (List ℕ) Refusal × Shared → Result (List ℕ) Refusal × List ℕ × Shared
get_direct cache r = (r.0, cache, r.1)

-- a refill that succeeded is appended; after one that was refused the stack is asked for n
abbrev pub get_refilled : List ℕ → ℕ → Result (List ℕ) Refusal × Shared →
    Result (List ℕ) Refusal × List ℕ × Shared
get_refilled cache n (Ok more, s) = (Ok (last n (cache ++ more)), without_last n (cache ++ more), s)
get_refilled cache n (Err _, s) = get_direct cache (ask n s)

-- the answer to a get of n, and the cache and the stack that it leaves
abbrev pub get : Limits → ℕ → List ℕ → Shared → Result (List ℕ) Refusal × List ℕ × Shared
get l n cache s =
    if n == 0 then (Ok [], cache, s)
    else if nat_le l.cache n then get_direct cache (ask n s)
    else if nat_le n (length cache) then (Ok (last n cache), without_last n cache, s)
    else if nat_le (n + l.cache) l.population then get_refilled cache n (ask (n + l.cache - length cache) s)
    else get_direct cache (ask n s)

-- a list that goes past the cache stays in it where it was refused
abbrev pub put_past : List ℕ → List ℕ → Result (Unit {0}) Refusal × Shared → Put × List ℕ × Shared
put_past cache list (Ok _, s) = (Flushed (length list), cache, s)
put_past cache list (Err e, s) = (PutOff (length list) e, cache ++ list, s)

-- all beyond the size leaves the cache, or stays in it where that was refused
abbrev pub put_beyond : ℕ → List ℕ → Result (Unit {0}) Refusal × Shared → Put × List ℕ × Shared
put_beyond size all (Ok _, s) = (Flushed (length all - size), take size all, s)
put_beyond size all (Err e, s) = (PutOff (length all - size) e, all, s)

-- the whole cache goes, or stays where that was refused
abbrev pub put_whole : List ℕ → Result (Unit {0}) Refusal × Shared → Put × List ℕ × Shared
put_whole cache (Ok _, s) = (Flushed (length cache), [], s)
put_whole cache (Err e, s) = (PutOff (length cache) e, cache, s)

-- the answer to a flush, and the cache and the stack that it leaves; an empty cache isn't pushed
abbrev pub flush : List ℕ → Shared → Put × List ℕ × Shared
flush cache s = if length cache == 0 then (Kept, cache, s) else put_whole cache (push cache s)

-- the whole cache goes and the list takes its place, or comes after it where that was refused
abbrev pub put_after : List ℕ → List ℕ → Result (Unit {0}) Refusal × Shared → Put × List ℕ × Shared
put_after cache list (Ok _, s) = (Flushed (length cache), list, s)
put_after cache list (Err e, s) = (PutOff (length cache) e, cache ++ list, s)

-- by each rule: the answer to a put of a list that isn't empty, and the cache and the stack that it
-- leaves
abbrev pub put_by_rule : PutRule → Limits → List ℕ → List ℕ → Shared → Put × List ℕ × Shared
put_by_rule Keep l list cache s =
    if nat_lt 512 (length list) then put_past cache list (push list s)
    else if nat_lt (length (cache ++ list)) (threshold l) then (Kept, cache ++ list, s)
    else if nat_le (length (cache ++ list)) l.cache then (Kept, cache ++ list, s)
    else put_beyond l.cache (cache ++ list) (push (drop l.cache (cache ++ list)) s)
put_by_rule Whole l list cache s =
    if nat_lt 512 (length list) then put_past cache list (push list s)
    else if nat_lt (threshold l) (length list) then put_past cache list (push list s)
    else if nat_le (length (cache ++ list)) (threshold l) then (Kept, cache ++ list, s)
    else put_after cache list (push cache s)

-- the answer to a put of a list, and the cache and the stack that it leaves
abbrev pub put : Limits → List ℕ → List ℕ → Shared → Put × List ℕ × Shared
put l list cache s =
    if length list == 0 then (Kept, cache, s) else put_by_rule l.put_rule l list cache s
