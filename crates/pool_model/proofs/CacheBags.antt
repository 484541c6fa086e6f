-- What a get and a put do with elements: none comes to be, and none is lost. Both leave the desks,
-- and neither takes back a change of the stack.
use Rattle.std.proofs.Common.{ℕ, ◌≡◌, ◌+◌, ◌-◌, ◌≤◌, ◌==◌, nat_lt, nat_le, inl, inr, List, [], ◌++◌, length, length-append, drop, reverse, Result, Ok, Err, refl, sym, arith}
use Rattle.std.proofs.lemmas.List.{length-take, length-drop, length-reverse}
use Rattle.std.proofs.lemmas.Bool.{cases_Bool, leb-true, ltb-false, eqb-true}
use Rattle.commons.specs.Bag.{bag}
use Rattle.commons.specs.Calls.{spent}
use Rattle.commons.specs.declared.limits.Limits.{Limits}
use Rattle.commons.specs.declared.limits.PutRule.{PutRule}
use Rattle.commons.specs.declared.limits.PutRule.TheVariants.{Keep, Whole}
use Rattle.commons.specs.declared.refusal.Refusal.{Refusal}
use Rattle.commons.proofs.Bags.{bag-nil, bag-append, bag-take-drop, bag-reverse, bag-last, bag-empty}
use Rattle.mempool.specs.declared.put.Put.{Put}
use Rattle.mempool.specs.declared.put.Put.TheVariants.{Kept}
use Rattle.mempool.specs.Caches.{last, without_last, threshold}
use Rattle.pool_model.specs.Pool.{Shared}
use Rattle.pool_model.specs.CacheModel.{ask, push, get_direct, get_refilled, get, put_past, put_beyond, put_after, put_by_rule, put_whole, put, flush}

-- how often an answer has an element
abbrev pub in_answer : Result (List ℕ) Refusal → ℕ → ℕ
in_answer (Ok xs) i = bag xs i
in_answer (Err e) i = 0

-- an answer that is a list has this length
abbrev pub HasLength : ℕ → Result (List ℕ) Refusal → Type 0
HasLength n (Ok xs) = length xs ≡ n
HasLength n (Err e) = Unit {0}

-- what the stack gives leaves the common list, and is as long as it was asked for; a request that
-- is refused changes nothing
pub record IsAsked (n : ℕ) (s : Shared) (r : Result (List ℕ) Refusal × Shared) : Type 0 where
  pub given : (i : ℕ) → in_answer r.0 i + bag r.1.common i ≡ bag s.common i
  pub long : HasLength n r.0
  pub desks : r.1.desks ≡ s.desks
  pub changes : s.changes ≤ r.1.changes
  pub refused : (e : Refusal) → r.0 ≡ Err e → r.1 ≡ s

-- a request that is refused moved no element and left desks and count of changes
refused-IsAsked : (n : ℕ) (s : Shared) (e : Refusal) → IsAsked n s (Err e, s)
refused-IsAsked n s e = record {
  given = λ i. omega arith;
  long = tt;
  desks = refl;
  changes = omega arith;
  refused = λ f q. refl;
}

-- the elements asked for leave the stack from the top, and the count of changes rises by one
ask-IsAsked : (n : ℕ) (s : Shared) → IsAsked n s (ask n s)
ask-IsAsked n s = elim (cases_Bool (nat_lt (length s.common) n)) [
  | inl e ↦ rw e (refused-IsAsked n s _)
  | inr e ↦ elim (cases_Bool (s.changes == spent)) [
    | inl f ↦ rw (e, f) (refused-IsAsked n s _)
    | inr f ↦ rw (e, f) (record {
      given = λ i. bag-take-drop n s.common i;
      long = omega (arith, length-take n s.common, ltb-false (length s.common) n e);
      desks = refl;
      changes = omega arith;
      refused = λ c q. absurd cc;
    })
  ]
]

-- what is pushed goes onto the common list, or nothing changes
push-bag : (xs : List ℕ) (s : Shared) (P : Result (Unit {0}) Refusal × Shared → Type 0) →
    ((t : Shared) → ((i : ℕ) → bag t.common i ≡ bag xs i + bag s.common i) → t.desks ≡ s.desks →
    s.changes ≤ t.changes → P (Ok tt, t)) → ((e : Refusal) → P (Err e, s)) → P (push xs s)
push-bag xs s P goes stays = elim (cases_Bool (s.changes == spent)) [
  | inl f ↦ rw f (stays _)
  | inr f ↦ rw f (goes _ (λ i. omega (arith, bag-append (reverse xs) s.common i, bag-reverse xs i)) refl (omega arith))
]

-- the last of a list and the others are the list
last-bag : (n : ℕ) (xs : List ℕ) (i : ℕ) → bag (last n xs) i + bag (without_last n xs) i ≡ bag xs i
last-bag n xs i = omega (arith, bag-last xs (length xs - n) i)

-- the last n elements of a list that has so many are n
last-length : (n : ℕ) (xs : List ℕ) → n ≤ length xs → length (last n xs) ≡ n
last-length n xs h = omega (arith, length-reverse (drop (length xs - n) xs), length-drop (length xs - n) xs)

-- what was in the cache and the common list is there or in the answer, which has the length asked
-- for; a get that is refused changes nothing
pub record IsGot (n : ℕ) (cache : List ℕ) (s : Shared) (r : Result (List ℕ) Refusal × List ℕ × Shared) : Type 0 where
  pub moved : (i : ℕ) → in_answer r.0 i + (bag r.1 i + bag r.2.common i) ≡ bag cache i + bag s.common i
  pub long : HasLength n r.0
  pub desks : r.2.desks ≡ s.desks
  pub changes : s.changes ≤ r.2.changes
  pub refused : (e : Refusal) → r.0 ≡ Err e → (r.1 ≡ cache) × (r.2 ≡ s)

-- a get from the stack alone moves elements from the common list to the answer
direct-IsGot : (n : ℕ) (cache : List ℕ) (s : Shared) → IsGot n cache s (get_direct cache (ask n s))
direct-IsGot n cache s =
    let a = ask-IsAsked n s in
    record {
      moved = λ i. omega (arith, a.given i);
      long = a.long;
      desks = a.desks;
      changes = a.changes;
      refused = λ e q. (refl, a.refused e q);
    }

-- a get by a refill moves elements from the common list and the cache to the answer
refilled-IsGot : (n : ℕ) (cache : List ℕ) (s : Shared) (k : ℕ)
    (r : Result (List ℕ) Refusal × Shared) → n ≤ length cache + k → IsAsked k s r →
    IsGot n cache s (get_refilled cache n r)
refilled-IsGot n cache s k (Ok more, t) h a = record {
  moved = λ i. omega (arith, last-bag n (cache ++ more) i, bag-append cache more i, a.given i);
  long = last-length n (cache ++ more) (omega (arith, a.long, length-append cache more));
  desks = a.desks;
  changes = a.changes;
  refused = λ e q. absurd cc;
}
refilled-IsGot n cache s k (Err e, t) h a = rw (a.refused e refl) (direct-IsGot n cache s)

-- each get moves elements, and gives as many as it is asked for
pub get-IsGot : (l : Limits) (n : ℕ) (cache : List ℕ) (s : Shared) → IsGot n cache s (get l n cache s)
get-IsGot l n cache s = elim (cases_Bool (n == 0)) [
  | inl a ↦
      rw a (record {
        moved = λ i. omega (arith, bag-nil i);
        long = sym (eqb-true n 0 a);
        desks = refl;
        changes = omega arith;
        refused = λ e q. absurd cc;
      })
  | inr a ↦ elim (cases_Bool (nat_le l.cache n)) [
    | inl b ↦ rw (a, b) (direct-IsGot n cache s)
    | inr b ↦ elim (cases_Bool (nat_le n (length cache))) [
      | inl c ↦
          rw (a, b, c) (record {
            moved = λ i. omega (arith, last-bag n cache i);
            long = last-length n cache (leb-true n (length cache) c);
            desks = refl;
            changes = omega arith;
            refused = λ e q. absurd cc;
          })
      | inr c ↦ elim (cases_Bool (nat_le (n + l.cache) l.population)) [
        | inl d ↦
            rw (a, b, c, d) (refilled-IsGot n cache s (n + l.cache - length cache)
            (ask (n + l.cache - length cache) s) (omega arith)
            (ask-IsAsked (n + l.cache - length cache) s))
        | inr d ↦ rw (a, b, c, d) (direct-IsGot n cache s)
      ]
    ]
  ]
]

-- what was in the cache, the list and the common list is in the cache and the common list
pub record IsPut (list cache : List ℕ) (s : Shared) (r : Put × List ℕ × Shared) : Type 0 where
  pub moved : (i : ℕ) → bag r.1 i + bag r.2.common i ≡ bag cache i + bag list i + bag s.common i
  pub desks : r.2.desks ≡ s.desks
  pub changes : s.changes ≤ r.2.changes

-- a flush moves elements, and loses none
pub flush-IsPut : (cache : List ℕ) (s : Shared) → IsPut [] cache s (flush cache s)
flush-IsPut cache s = elim (cases_Bool (length cache == 0)) [
  | inl a ↦ rw a (record { moved = λ i. omega (arith, bag-nil i); desks = refl; changes = omega arith })
  | inr a ↦ rw a (push-bag cache s (λ r. IsPut [] cache s (put_whole cache r))
      (λ t h same more.
      record { moved = λ i. omega (arith, h i, bag-nil i); desks = same; changes = more })
      (λ e.
      record { moved = λ i. omega (arith, bag-nil i); desks = refl; changes = omega arith }))
]

-- a list that goes past a cache, or comes after it
past-IsPut : (list cache : List ℕ) (s : Shared) → IsPut list cache s (put_past cache list (push list s))
past-IsPut list cache s = push-bag list s (λ r. IsPut list cache s (put_past cache list r))
    (λ t h same more.
    record { moved = λ i. omega (arith, h i); desks = same; changes = more })
    (λ e.
    record { moved = λ i. omega (arith, bag-append cache list i); desks = refl; changes = omega arith })

-- a put whose list the cache keeps moves the list's elements there
kept-IsPut : (list cache : List ℕ) (s : Shared) → IsPut list cache s (Kept, cache ++ list, s)
kept-IsPut list cache s = record {
  moved = λ i. omega (arith, bag-append cache list i);
  desks = refl;
  changes = omega arith;
}

-- a list that takes the place of a cache, or comes after it
after-IsPut : (list cache : List ℕ) (s : Shared) → IsPut list cache s (put_after cache list (push cache s))
after-IsPut list cache s = push-bag cache s (λ r. IsPut list cache s (put_after cache list r))
    (λ t h same more.
    record { moved = λ i. omega (arith, h i); desks = same; changes = more })
    (λ e.
    record { moved = λ i. omega (arith, bag-append cache list i); desks = refl; changes = omega arith })

-- by each rule a put moves elements, and loses none
rule-IsPut : (rule : PutRule) (l : Limits) (list cache : List ℕ) (s : Shared) →
    IsPut list cache s (put_by_rule rule l list cache s)
rule-IsPut Keep l list cache s = elim (cases_Bool (nat_lt 512 (length list))) [
  | inl b ↦ rw b (past-IsPut list cache s)
  | inr b ↦ elim (cases_Bool (nat_lt (length (cache ++ list)) (threshold l))) [
    | inl c ↦ rw (b, c) (kept-IsPut list cache s)
    | inr c ↦ elim (cases_Bool (nat_le (length (cache ++ list)) l.cache)) [
      | inl d ↦ rw (b, c, d) (kept-IsPut list cache s)
      | inr d ↦
          rw (b, c, d) (push-bag (drop l.cache (cache ++ list)) s
          (λ r. IsPut list cache s (put_beyond l.cache (cache ++ list) r))
          (λ t h same more.
          record {
            moved =
                λ i.
                omega (arith, h i, bag-append cache list i, bag-take-drop l.cache (cache ++ list) i);
            desks = same;
            changes = more;
          })
          (λ e.
          record { moved = λ i. omega (arith, bag-append cache list i); desks = refl; changes = omega arith }))
    ]
  ]
]
rule-IsPut Whole l list cache s = elim (cases_Bool (nat_lt 512 (length list))) [
  | inl b ↦ rw b (past-IsPut list cache s)
  | inr b ↦ elim (cases_Bool (nat_lt (threshold l) (length list))) [
    | inl c ↦ rw (b, c) (past-IsPut list cache s)
    | inr c ↦ elim (cases_Bool (nat_le (length (cache ++ list)) (threshold l))) [
      | inl d ↦ rw (b, c, d) (kept-IsPut list cache s)
      | inr d ↦ rw (b, c, d) (after-IsPut list cache s)
    ]
  ]
]

-- each put moves elements, and loses none
pub put-IsPut : (l : Limits) (list cache : List ℕ) (s : Shared) → IsPut list cache s (put l list cache s)
put-IsPut l list cache s = elim (cases_Bool (length list == 0)) [
  | inl a ↦
      rw a (record {
        moved = λ i. omega (arith, bag-empty list i (eqb-true (length list) 0 a));
        desks = refl;
        changes = omega arith;
      })
  | inr a ↦ rw a (rule-IsPut l.put_rule l list cache s)
]
