-- A cache's calls are the reference model's requests, over any stack that answers them.
use Rattle.std.proofs.Common.{ℕ, ◌≡◌, ◌+◌, ◌-◌, ◌<◌, ◌≤◌, ◌≢◌, ◌⊎◌, inl, inr, nat_lt, nat_le, Bool, true, false, cond, List, [], ◌∷◌, ◌++◌, length, length-append, drop, Result, Ok, Err, refl, sym, ◌∙◌, subst, arith}
use Rattle.std.proofs.lemmas.Bool.{eq-eqb, le-leb, le-ltb, lt-leb, lt-ltb, ne_eqb}
use Rattle.commons.specs.declared.limits.Limits.{Limits}
use Rattle.commons.specs.declared.refusal.Refusal.{Refusal}
use Rattle.commons.specs.Calls.{Call, GetList, PutList}
use Rattle.mempool.specs.declared.put.Put.{Put}
use Rattle.mempool.specs.declared.put.Put.TheVariants.{Kept}
use Rattle.mempool.specs.Caches.{threshold, Gets, Nothing, Direct, FromCache, Refill, RefillRefused, NoRefill, Puts, NothingPut, Bypass, BypassPutOff, Flush, FlushPutOff, Keep, WholeBypass, WholeBypassPutOff, WholeFlush, WholeFlushPutOff, WholeKeep, Flushes, Empty, Whole, WholePutOff}
use Rattle.pool_model.specs.Pool.{Shared}
use Rattle.pool_model.specs.CacheModel.{ask, push, get, put, put_beyond, put_past, put_after, flush}
use Rattle.pool_model.specs.CacheLaw.{Meets}

-- the stack's answer to the one call
answered_get : (s t : Shared) (n : ℕ) (answer : Result (List ℕ) Refusal) (calls : List Call) →
    calls ≡ GetList n answer ∷ [] → Meets s calls t → (answer, t) ≡ ask n s
answered_get s t n answer calls c h =
    let e = subst (λ cs. Meets s cs t) c h in subst (λ (u : Shared). (answer, u) ≡ ask n s) e.2 e.1

-- a push that is the only call leaves the stack as the model's push does
answered_put : (s t : Shared) (list : List ℕ) (answer : Result (Unit {0}) Refusal)
    (calls : List Call) → calls ≡ PutList list answer ∷ [] → Meets s calls t →
    (answer, t) ≡ push list s
answered_put s t list answer calls c h =
    let e = subst (λ cs. Meets s cs t) c h in
    subst (λ (u : Shared). (answer, u) ≡ push list s) e.2 e.1

-- a get by the rules, whose calls the stack answers, is the model's
pub got_by : (s t : Shared) (l : Limits) (cache : List ℕ) (n : ℕ) (calls : List Call)
    (answer : Result (List ℕ) Refusal) (left : List ℕ) →
    Gets l cache n calls answer left → Meets s calls t → (answer, left, t) ≡ get l n cache s
got_by s t l cache n calls answer left (Nothing z c a k) h =
    let e = subst (λ cs. Meets s cs t) c h in
    rw (eq-eqb n 0 z, a, k, sym e) refl
got_by s t l cache n calls answer left (Direct p q c k) h =
    let f = answered_get s t n answer calls c h in
    rw (ne_eqb n 0 (omega arith), le-leb l.cache n q, k, ← f) refl
got_by s t l cache n calls answer left (FromCache p q r c a k) h =
    let e = subst (λ cs. Meets s cs t) c h in
    rw (ne_eqb n 0 (omega arith), lt-leb l.cache n q, le-leb n (length cache) r, a, k, sym e) refl
got_by s t l cache n calls answer left (Refill p q r m more c a k) h =
    let f = answered_get s t (n + l.cache - length cache) (Ok more) calls c h in
    rw (
      ne_eqb n 0 (omega arith),
      lt-leb l.cache n q,
      lt-leb n (length cache) r,
      le-leb (n + l.cache) l.population m,
      a,
      k,
      ← f,
    ) refl
got_by s t l cache n calls answer left (RefillRefused p q r m cause c k) h =
    let e = subst (λ cs. Meets s cs t) c h in
    let f = e.1 in
    let g = answered_get e.0 t n answer (GetList n answer ∷ []) refl e.2 in
    rw (
      ne_eqb n 0 (omega arith),
      lt-leb l.cache n q,
      lt-leb n (length cache) r,
      le-leb (n + l.cache) l.population m,
      k,
      ← f,
      ← g,
    ) refl
got_by s t l cache n calls answer left (NoRefill p q r m c k) h =
    let f = answered_get s t n answer calls c h in
    rw (
      ne_eqb n 0 (omega arith),
      lt-leb l.cache n q,
      lt-leb n (length cache) r,
      lt-leb (n + l.cache) l.population m,
      k,
      ← f,
    ) refl

-- a test between two equal things makes no difference
either : {X : Type 0} (b : Bool) (y : X) → cond b y y ≡ y
either true y = refl
either false y = refl

-- below the threshold, or at most the size, the first or the second test keeps all
kept_below : {X : Type 0} (n threshold size : ℕ) (x y z : X) → (n < threshold) ⊎ (n ≤ size) →
    x ≡ y → x ≡ cond (nat_lt n threshold) y (cond (nat_le n size) y z)
kept_below n threshold size x y z b e =
    elim b [
      | inl h ↦ rw (lt-ltb n threshold h) e
      | inr h ↦ rw (le-leb n size h) (e ∙ sym (either (nat_lt n threshold) y))
    ]

-- a list that is longer than one of the two numbers has an element
long : {n most threshold : ℕ} → (most < n) ⊎ (threshold < n) → n ≢ 0
long (inl h) e = omega arith
long (inr h) e = omega arith

-- longer than a cache ever keeps, or than the threshold, the first or the second test lets a list
-- past
past_either : {X : Type 0} (n threshold : ℕ) (x y z : X) → (512 < n) ⊎ (threshold < n) →
    x ≡ y → x ≡ cond (nat_lt 512 n) y (cond (nat_lt threshold n) y z)
past_either n threshold x y z p e =
    elim p [
      | inl h ↦ rw (lt-ltb 512 n h) e
      | inr h ↦ rw (lt-ltb threshold n h) (e ∙ sym (either (nat_lt 512 n) y))
    ]

-- a put by the rules, whose calls the stack answers, is the model's
pub put_by : (s t : Shared) (l : Limits) (cache list : List ℕ) (calls : List Call) (answer : Put) (left : List ℕ) →
    Puts l cache list calls answer left → Meets s calls t → (answer, left, t) ≡ put l list cache s
put_by s t l cache list calls answer left (NothingPut z c a k) h =
    let e = subst (λ cs. Meets s cs t) c h in
    rw (z, a, k, sym e) refl
put_by s t l cache list calls answer left (Bypass rule p c a k) h =
    let f = answered_put s t list (Ok tt) calls c h in
    rw (ne_eqb (length list) 0 (omega arith), rule, lt-ltb 512 (length list) p, a, k, ← f) refl
put_by s t l cache list calls answer left (BypassPutOff rule p cause c a k) h =
    let f = answered_put s t list (Err cause) calls c h in
    rw (ne_eqb (length list) 0 (omega arith), rule, lt-ltb 512 (length list) p, a, k, ← f) refl
put_by s t l cache list calls answer left (Flush rule p q r m c a k) h =
    let f = answered_put s t (drop l.cache (cache ++ list)) (Ok tt) calls c h in
    rw (
      ne_eqb (length list) 0 (omega arith),
      rule,
      le-ltb 512 (length list) q,
      le-ltb (length (cache ++ list)) (threshold l) r,
      lt-leb (length (cache ++ list)) l.cache m,
      a,
      k,
      ← f,
    ) refl
put_by s t l cache list calls answer left (FlushPutOff rule p q r m cause c a k) h =
    let f = answered_put s t (drop l.cache (cache ++ list)) (Err cause) calls c h in
    rw (
      ne_eqb (length list) 0 (omega arith),
      rule,
      le-ltb 512 (length list) q,
      le-ltb (length (cache ++ list)) (threshold l) r,
      lt-leb (length (cache ++ list)) l.cache m,
      a,
      k,
      ← f,
    ) refl
put_by s t l cache list calls answer left (Keep rule p q b c a k) h =
    let e = subst (λ cs. Meets s cs t) c h in
    let kept =
    kept_below (length (cache ++ list)) (threshold l) l.cache (answer, left, t)
    (Kept, cache ++ list, s)
    (put_beyond l.cache (cache ++ list) (push (drop l.cache (cache ++ list)) s)) b
    (rw (a, k, sym e) refl) in
    rw (ne_eqb (length list) 0 (omega arith), rule, le-ltb 512 (length list) q) kept
put_by s t l cache list calls answer left (WholeBypass rule p c a k) h =
    let f = answered_put s t list (Ok tt) calls c h in
    let past : (answer, left, t) ≡ put_past cache list (push list s) = rw (a, k, ← f) refl in
    let kept : Put × List ℕ × Shared = (Kept, cache ++ list, s) in
    rw (ne_eqb (length list) 0 (long p), rule)
    (past_either (length list) (threshold l) (answer, left, t) (put_past cache list (push list s))
    (cond (nat_le (length (cache ++ list)) (threshold l)) kept (put_after cache list (push cache s))) p past)
put_by s t l cache list calls answer left (WholeBypassPutOff rule p cause c a k) h =
    let f = answered_put s t list (Err cause) calls c h in
    let past : (answer, left, t) ≡ put_past cache list (push list s) = rw (a, k, ← f) refl in
    let kept : Put × List ℕ × Shared = (Kept, cache ++ list, s) in
    rw (ne_eqb (length list) 0 (long p), rule)
    (past_either (length list) (threshold l) (answer, left, t) (put_past cache list (push list s))
    (cond (nat_le (length (cache ++ list)) (threshold l)) kept (put_after cache list (push cache s))) p past)
put_by s t l cache list calls answer left (WholeFlush rule p q r m c a k) h =
    let f = answered_put s t cache (Ok tt) calls c h in
    rw (
      ne_eqb (length list) 0 (omega arith),
      rule,
      le-ltb 512 (length list) q,
      le-ltb (threshold l) (length list) r,
      lt-leb (length (cache ++ list)) (threshold l) m,
      a,
      k,
      ← f,
    ) refl
put_by s t l cache list calls answer left (WholeFlushPutOff rule p q r m cause c a k) h =
    let f = answered_put s t cache (Err cause) calls c h in
    rw (
      ne_eqb (length list) 0 (omega arith),
      rule,
      le-ltb 512 (length list) q,
      le-ltb (threshold l) (length list) r,
      lt-leb (length (cache ++ list)) (threshold l) m,
      a,
      k,
      ← f,
    ) refl
put_by s t l cache list calls answer left (WholeKeep rule p q b c a k) h =
    let e = subst (λ cs. Meets s cs t) c h in
    let short : length list ≤ threshold l = omega (arith, length-append cache list) in
    rw (
      ne_eqb (length list) 0 (omega arith),
      rule,
      le-ltb 512 (length list) q,
      le-ltb (threshold l) (length list) short,
      le-leb (length (cache ++ list)) (threshold l) b,
      a,
      k,
      sym e,
    ) refl

-- a flush by the rules, whose calls the stack answers, is the model's
pub flushed_by : (s t : Shared) (cache : List ℕ) (calls : List Call) (answer : Put) (left : List ℕ) →
    Flushes cache calls answer left → Meets s calls t → (answer, left, t) ≡ flush cache s
flushed_by s t cache calls answer left (Empty z c a k) h =
    let e = subst (λ cs. Meets s cs t) c h in
    rw (a, k, z, sym e) refl
flushed_by s t cache calls answer left (Whole p c a k) h =
    let f = answered_put s t cache (Ok tt) calls c h in
    rw (ne_eqb (length cache) 0 (omega arith), a, k, ← f) refl
flushed_by s t cache calls answer left (WholePutOff p cause c a k) h =
    let f = answered_put s t cache (Err cause) calls c h in
    rw (ne_eqb (length cache) 0 (omega arith), a, k, ← f) refl
