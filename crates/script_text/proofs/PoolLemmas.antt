-- The test of a pool line's numbers says whether pools have them.
use Rattle.std.proofs.Common.{◌≡◌, ◌≤◌, ℕ, zero, suc, true, leb, Option, Some, None, refl, sym, ap, ◌∙◌, subst, arith}
use Rattle.std.specs.Prelude.{IfSome, ◌&&◌, ◌==◌, option_map}
use Rattle.std.proofs.lemmas.Bool.{and_from, and_parts, eq-eqb, eqb-true, leb-true, le-leb}
use Rattle.std.specs.List.{AllByRecursion}
use Rattle.std.specs.Option.{ForSome}
use Rattle.commons.specs.Bounds.{IsPool}
use Rattle.commons.specs.declared.limits.Limits.{Limits}
use Rattle.commons.specs.declared.limits.PutRule.{PutRule}
use Rattle.commons.specs.declared.limits.PutRule.TheVariants.{Keep, Whole}
use Rattle.script_text.specs.declared.lines.Pools.{Pools}
use Rattle.script_text.specs.declared.pool_line.LineNumbers.{LineNumbers}
use Rattle.script_text.specs.declared.pool_line.PoolNumbers.{PoolNumbers}
use Rattle.script_text.specs.PoolLine.{IsSecondPool, ArePools, AreSomePools, numbers_of, numbers_of_pools, rule_number}
use Rattle.script_text.specs.inside.Reading.{pool_bounds, is_pool, is_second, are_pools}
use Rattle.script_text.specs.inside.ScriptReading.{are_ready}
use Rattle.script_text.proofs.FoundLemmas.{found_is}
use Rattle.script_text.proofs.NumberLemmas.{all_from, all_to}

-- ---- one pool

-- a pool has these numbers
record IsSomePool (numbers : PoolNumbers) : Type 0 where
  limits : Limits
  numbers_are : numbers ≡ numbers_of limits
  pool : IsPool limits

-- the numbers keep each bound
abbrev AreWithin : PoolNumbers → Type 0
AreWithin n = AllByRecursion (λ bound. bound.0 ≤ bound.1) (pool_bounds n)

-- the number of a put rule is 0 or 1
rule_short : (rule : PutRule) → rule_number rule ≤ 1
rule_short Keep = omega arith
rule_short Whole = omega arith

-- 0 and 1 are each the number of a put rule
rule_with : (number : ℕ) → number ≤ 1 → (rule : PutRule) × (number ≡ rule_number rule)
rule_with zero h = (Keep, refl)
rule_with (suc zero) h = (Whole, refl)
rule_with (suc (suc n)) h = absurd (omega arith)

-- two rules with one number are one
rule_once : (a b : PutRule) → rule_number a ≡ rule_number b → a ≡ b
rule_once Keep Keep e = refl
rule_once Keep Whole e = absurd (omega arith)
rule_once Whole Keep e = absurd (omega arith)
rule_once Whole Whole e = refl

-- limits with the same numbers are the same
limits_once : (l m : Limits) → numbers_of l ≡ numbers_of m → l ≡ m
limits_once l m e =
    let rule : l.put_rule ≡ m.put_rule = rule_once l.put_rule m.put_rule (ap (λ (n : PoolNumbers). n.put_rule) e) in
    λ i. record {
      population = (e i).population;
      cache = (e i).cache;
      workers = (e i).workers;
      desks = (e i).desks;
      buf = (e i).buf;
      ref_limit = (e i).ref_limit;
      tries = (e i).tries;
      start_count = (e i).start_count;
      put_rule = rule i;
    }

-- the limits of a pool keep each bound, in the order of the list
bounds_of : (l : Limits) → IsPool l → AreWithin (numbers_of l)
bounds_of l h = (
  h.population_low,
  (
    h.population,
    (
      h.cache,
      (
        h.threshold,
        (
          h.workers_low,
          (
            h.workers,
            (
              h.desks,
              (
                h.buf,
                (
                  h.refs_low,
                  (h.refs, (h.tries_low, (h.tries, (h.start, (rule_short l.put_rule, tt))))),
                ),
              ),
            ),
          ),
        ),
      ),
    ),
  ),
)

-- the limits with these numbers, and this rule
abbrev limits_with : PoolNumbers → PutRule → Limits
limits_with n rule = record {
  population = n.population;
  cache = n.cache;
  workers = n.workers;
  desks = n.desks;
  buf = n.buf;
  ref_limit = n.ref_limit;
  tries = n.tries;
  start_count = n.start_count;
  put_rule = rule;
}

-- numbers that keep each bound of the list are those of a pool
within_bounds : (n : PoolNumbers) → AreWithin n → IsSomePool n
within_bounds n (
  population_low,
  (
    population,
    (
      cache,
      (
        threshold,
        (
          workers_low,
          (
            workers,
            (desks, (buf, (refs_low, (refs, (tries_low, (tries, (start, (rule_low, _)))))))),
          ),
        ),
      ),
    ),
  ),
)
    =
    let rule = rule_with n.put_rule rule_low in
    record {
      limits = limits_with n rule.0;
      numbers_are = ap (λ (number : ℕ). record n { put_rule = number }) rule.1;
      pool = record {
        population_low = population_low;
        population = population;
        cache = cache;
        threshold = threshold;
        workers_low = workers_low;
        workers = workers;
        desks = desks;
        buf = buf;
        refs_low = refs_low;
        refs = refs;
        tries_low = tries_low;
        tries = tries;
        start = start;
      };
    }

-- the numbers of a pool pass the test of each bound
pool_is : (n : PoolNumbers) → IsSomePool n → is_pool n ≡ true
pool_is n h =
    ap is_pool h.numbers_are
    ∙ all_to (λ bound. leb bound.0 bound.1) (λ bound. bound.0 ≤ bound.1)
    (λ bound le. le-leb bound.0 bound.1 le) (pool_bounds (numbers_of h.limits)) (bounds_of h.limits h.pool)

-- numbers that pass the test of each bound are those of a pool
pool_from : (n : PoolNumbers) → is_pool n ≡ true → IsSomePool n
pool_from n e =
    within_bounds n (all_from (λ bound. leb bound.0 bound.1) (λ bound. bound.0 ≤ bound.1)
    (λ bound is. leb-true bound.0 bound.1 is) (pool_bounds n) e)

-- limits whose numbers pass it are those of a pool
pool_of_limits : (l : Limits) → is_pool (numbers_of l) ≡ true → IsPool l
pool_of_limits l e =
    let p = pool_from (numbers_of l) e in subst IsPool (sym (limits_once l p.limits p.numbers_are)) p.pool

-- the limits of a pool have numbers that pass it
limits_pass : (l : Limits) → IsPool l → is_pool (numbers_of l) ≡ true
limits_pass l h = pool_is (numbers_of l) (record { limits = l; numbers_are = refl; pool = h })

-- ---- pools

-- two pools' limits, if there are any, are the same where their numbers are
second_once : (o p : Option Limits) → option_map numbers_of o ≡ option_map numbers_of p → o ≡ p
second_once None None e = refl
second_once None (Some m) e = absurd cc
second_once (Some l) None e = absurd cc
second_once (Some l) (Some m) e =
    ap (λ (x : Limits). Some x) (limits_once l m (found_is (numbers_of l) (numbers_of m) e))

-- pools with the same numbers are the same
pub pools_once : (l m : Pools) → numbers_of_pools l ≡ numbers_of_pools m → l ≡ m
pools_once l m e =
    let first = limits_once l.first m.first (ap (λ (n : LineNumbers). n.first) e) in
    let second = second_once l.second m.second (ap (λ (n : LineNumbers). n.second) e) in
    λ i. record { first = first i; second = second i }

-- a second pool's numbers pass the test beside the first's, if there are any
second_pass : (first : Limits) (o : Option Limits) → ForSome o (IsSecondPool first) →
    is_second (numbers_of first) (option_map numbers_of o) ≡ true
second_pass first None h = refl
second_pass first (Some s) h =
    let second = h s refl in
    and_from (is_pool (numbers_of s) && s.workers == first.workers) (s.desks == 0)
    (and_from (is_pool (numbers_of s)) (s.workers == first.workers) (limits_pass s second.pool)
    (eq-eqb s.workers first.workers second.beside.workers))
    (eq-eqb s.desks 0 second.beside.desks)

-- numbers that pass the test beside the first's are those of a second pool, if there are any
second_from : (first : Limits) (o : Option PoolNumbers) → is_second (numbers_of first) o ≡ true →
    (second : Option Limits) × (o ≡ option_map numbers_of second) × ForSome second (IsSecondPool first)
second_from first None e = (None, refl, λ s is. absurd cc)
second_from first (Some n) e =
    let parts = and_parts (is_pool n && n.workers == first.workers) (n.desks == 0) e in
    let front = and_parts (is_pool n) (n.workers == first.workers) parts.0 in
    let pool = pool_from n front.0 in
    let second : IsSecondPool first pool.limits = record {
      pool = pool.pool;
      beside = record {
        workers =
            sym (ap (λ (x : PoolNumbers). x.workers) pool.numbers_are) ∙ eqb-true n.workers first.workers front.1;
        desks = sym (ap (λ (x : PoolNumbers). x.desks) pool.numbers_are) ∙ eqb-true n.desks 0 parts.1;
      };
    } in (
      Some pool.limits,
      ap (λ (x : PoolNumbers). Some x) pool.numbers_are,
      λ s is. subst (IsSecondPool first) (found_is pool.limits s is) second,
    )

-- limits within which pools can be made have numbers that pass the test
pub pools_pass : (pools : Pools) → ArePools pools → are_pools (numbers_of_pools pools) ≡ true
pools_pass pools h =
    and_from (is_pool (numbers_of pools.first))
    (is_second (numbers_of pools.first) (option_map numbers_of pools.second))
    (limits_pass pools.first h.first) (second_pass pools.first pools.second h.second)

-- the numbers of pools pass the test
pub pools_are : (n : LineNumbers) → AreSomePools n → are_pools n ≡ true
pools_are n h = ap are_pools h.numbers_are ∙ pools_pass h.pools h.made

-- numbers that pass the test are those of pools
pub pools_from : (n : LineNumbers) → are_pools n ≡ true → AreSomePools n
pools_from n e =
    let both = and_parts (is_pool n.first) (is_second n.first n.second) e in
    let first = pool_from n.first both.0 in
    let second =
    second_from first.limits n.second
    (subst (λ (x : PoolNumbers). is_second x n.second ≡ true) first.numbers_are both.1) in
    record {
      pools = record { first = first.limits; second = second.0 };
      numbers_are = λ i. record { first = first.numbers_are i; second = second.1 i };
      made = record { first = first.pool; second = second.2 };
    }

-- pools can be made within limits whose numbers pass the test
pub pools_of_limits : (pools : Pools) → are_pools (numbers_of_pools pools) ≡ true → ArePools pools
pools_of_limits pools e =
    let p = pools_from (numbers_of_pools pools) e in
    subst ArePools (sym (pools_once pools p.pools p.numbers_are)) p.made

-- numbers of pools, or none yet, pass the test
pub ready_is : (o : Option LineNumbers) → IfSome o AreSomePools → are_ready o ≡ true
ready_is None h = refl
ready_is (Some n) h = pools_are n h

-- what passes the test are numbers of pools, or none yet
pub ready_from : (o : Option LineNumbers) → are_ready o ≡ true → IfSome o AreSomePools
ready_from None e = tt
ready_from (Some n) e = pools_from n e
