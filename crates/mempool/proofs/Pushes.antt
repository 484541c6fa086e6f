-- A push of what is beyond a size is the one request of a put's or a flush's rule.
use Rattle.std.proofs.Common.{◌≡◌, ◌<◌, ◌≤◌, ◌+◌, ◌-◌, ◌++◌, inl, inr, ℕ, List, [], ◌∷◌, length, length-append, drop, arith, refl, sym, ap, ◌∙◌, subst, Ok, Err}
use Rattle.std.proofs.Math.Seq.{take-append_seam, drop-append_seam}
use Rattle.commons.specs.declared.limits.Limits.{Limits}
use Rattle.commons.specs.declared.limits.PutRule.TheVariants as rules
use Rattle.commons.specs.declared.refusal.Refusal.{Refusal}
use Rattle.commons.specs.Bounds.{max_cache}
use Rattle.commons.specs.Calls.{Reading, Call, PutList, Side, Calls}
use Rattle.mempool.specs.declared.put.Put.{Put}
use Rattle.mempool.specs.declared.put.Put.TheVariants.{Flushed, PutOff}
use Rattle.mempool.proofs.Rules.{one_rule}
use Rattle.mempool.specs.Caches.{Pushed, Gone, Stays, Puts, Bypass, BypassPutOff, Flush, FlushPutOff, WholeBypass, WholeBypassPutOff, WholeFlush, WholeFlushPutOff, Flushes, Whole, WholePutOff, threshold}

-- From the threshold on, a push of all beyond the size is the one request of a put.
pub put_over : {S : Type 0} (did : S → Call → List Reading → S → Type 0) (side : S → Side)
    (l : Limits) (cache list all : List ℕ) (before after : S) (answer : Put) (left : List ℕ) →
    l.put_rule ≡ rules.Keep → all ≡ cache ++ list → 0 < length list → length list ≤ max_cache → threshold l ≤ length all →
    l.cache < length all →
    Pushed did side l.cache all before answer after left →
    Calls did side before after (λ calls. Puts l cache list calls answer left)
put_over did side l cache list all before after answer left keep e some few t s (Gone d a k) = (
  record { call = PutList (drop l.cache all) (Ok tt); readings = d.readings } ∷ [],
  (after, d.step, refl),
  Flush keep some few (rw (← e) t) (rw (← e) s) (rw (← e)) (rw (← e) a) (rw (← e) k),
)
put_over did side l cache list all before after answer left keep e some few t s (Stays cause d a k) = (
  record { call = PutList (drop l.cache all) (Err cause); readings = d.readings } ∷ [],
  (after, d.step, refl),
  FlushPutOff keep some few (rw (← e) t) (rw (← e) s) cause (rw (← e)) (rw (← e) a) (rw (← e) k),
)

-- more than a cache ever keeps goes past it by either rule
bypassed : (l : Limits) (cache list : List ℕ) (calls : List Call) (answer : Put) (left : List ℕ) →
    max_cache < length list → calls ≡ PutList list (Ok tt) ∷ [] → answer ≡ Flushed (length list) → left ≡ cache →
    Puts l cache list calls answer left
bypassed l cache list calls answer left many c a k = elim (one_rule l.put_rule) [
  | inl keep ↦ Bypass keep many c a k
  | inr whole ↦ WholeBypass whole (inl many) c a k
]

-- more than a cache ever keeps stays in it, where it is refused, by either rule
bypass_put_off : (l : Limits) (cache list : List ℕ) (calls : List Call) (answer : Put) (left : List ℕ) →
    max_cache < length list → (cause : Refusal) → calls ≡ PutList list (Err cause) ∷ [] →
    answer ≡ PutOff (length list) cause → left ≡ cache ++ list → Puts l cache list calls answer left
bypass_put_off l cache list calls answer left many cause c a k = elim (one_rule l.put_rule) [
  | inl keep ↦ BypassPutOff keep many cause c a k
  | inr whole ↦ WholeBypassPutOff whole (inl many) cause c a k
]

-- A list that was pushed past the cache: all beyond the cache's own length of the two together.
pub put_passed : {S : Type 0} (did : S → Call → List Reading → S → Type 0) (side : S → Side)
    (l : Limits) (cache list : List ℕ) (before after : S) (answer : Put) (left : List ℕ) →
    max_cache < length list → Pushed did side (length cache) (cache ++ list) before answer after left →
    Calls did side before after (λ calls. Puts l cache list calls answer left)
put_passed did side l cache list before after answer left many (Gone d a k) =
    let n : length (cache ++ list) - length cache ≡ length list = omega (arith, length-append cache list) in (
      record { call = PutList (drop (length cache) (cache ++ list)) (Ok tt); readings = d.readings } ∷ [],
      (after, d.step, refl),
      bypassed l cache list (PutList (drop (length cache) (cache ++ list)) (Ok tt) ∷ []) answer left many
          (rw (drop-append_seam cache list) refl) (rw n at a) (k ∙ take-append_seam cache list),
    )
put_passed did side l cache list before after answer left many (Stays cause d a k) =
    let n : length (cache ++ list) - length cache ≡ length list = omega (arith, length-append cache list) in (
      record { call = PutList (drop (length cache) (cache ++ list)) (Err cause); readings = d.readings } ∷ [],
      (after, d.step, refl),
      bypass_put_off l cache list (PutList (drop (length cache) (cache ++ list)) (Err cause) ∷ []) answer left many cause
          (rw (drop-append_seam cache list) refl) (rw n at a) k,
    )

-- Where the cache goes whole, a push past it of a list that is longer than the threshold is the one
-- request of a put.
pub put_whole_passed : {S : Type 0} (did : S → Call → List Reading → S → Type 0) (side : S → Side)
    (l : Limits) (cache list : List ℕ) (before after : S) (answer : Put) (left : List ℕ) →
    l.put_rule ≡ rules.Whole → threshold l < length list →
    Pushed did side (length cache) (cache ++ list) before answer after left →
    Calls did side before after (λ calls. Puts l cache list calls answer left)
put_whole_passed did side l cache list before after answer left whole long (Gone d a k) =
    let n : length (cache ++ list) - length cache ≡ length list = omega (arith, length-append cache list) in (
      record { call = PutList (drop (length cache) (cache ++ list)) (Ok tt); readings = d.readings } ∷ [],
      (after, d.step, refl),
      WholeBypass whole (inr long) (rw (drop-append_seam cache list) refl) (rw n at a) (k ∙ take-append_seam cache list),
    )
put_whole_passed did side l cache list before after answer left whole long (Stays cause d a k) =
    let n : length (cache ++ list) - length cache ≡ length list = omega (arith, length-append cache list) in (
      record { call = PutList (drop (length cache) (cache ++ list)) (Err cause); readings = d.readings } ∷ [],
      (after, d.step, refl),
      WholeBypassPutOff whole (inr long) cause (rw (drop-append_seam cache list) refl) (rw n at a) k,
    )

-- Where cache and list pass the threshold, a push of the whole cache, after which the list comes,
-- is the one request.
pub put_after_cache : {S : Type 0} (did : S → Call → List Reading → S → Type 0) (side : S → Side)
    (l : Limits) (cache list rest : List ℕ) (before after : S) (answer : Put) (left : List ℕ) →
    l.put_rule ≡ rules.Whole → 0 < length list → length list ≤ max_cache → length list ≤ threshold l →
    threshold l < length cache + length list → left ≡ rest ++ list → Pushed did side 0 cache before answer after rest →
    Calls did side before after (λ calls. Puts l cache list calls answer left)
put_after_cache did side l cache list rest before after answer left whole some few short over e (Gone d a k) =
    let all : length cache - 0 ≡ length cache = omega arith in (
      record { call = PutList cache (Ok tt); readings = d.readings } ∷ [],
      (after, d.step, refl),
      WholeFlush whole some few short (omega (arith, length-append cache list)) refl (rw all at a)
          (e ∙ ap (λ (xs : List ℕ). xs ++ list) k),
    )
put_after_cache did side l cache list rest before after answer left whole some few short over e (Stays cause d a k) =
    let all : length cache - 0 ≡ length cache = omega arith in (
      record { call = PutList cache (Err cause); readings = d.readings } ∷ [],
      (after, d.step, refl),
      WholeFlushPutOff whole some few short (omega (arith, length-append cache list)) cause refl (rw all at a)
          (e ∙ ap (λ (xs : List ℕ). xs ++ list) k),
    )

-- Where nothing is kept and the cache is empty, a push of the list past it is a put's one request, by
-- either rule.
pub put_kept_none : {S : Type 0} (did : S → Call → List Reading → S → Type 0) (side : S → Side)
    (l : Limits) (cache list : List ℕ) (before after : S) (answer : Put) (left : List ℕ) →
    l.cache ≡ 0 → length cache ≡ 0 → 0 < length list → length list ≤ max_cache →
    Pushed did side (length cache) (cache ++ list) before answer after left →
    Calls did side before after (λ calls. Puts l cache list calls answer left)
put_kept_none did side l cache list before after answer left none empty some few p =
    let t : threshold l ≡ 0 = rw none refl in
    elim (one_rule l.put_rule) [
      | inl keep ↦ put_over did side l cache list (cache ++ list) before after answer left keep refl some few
          (omega (arith, t)) (omega (arith, none, length-append cache list))
          (subst (λ (keep : ℕ). Pushed did side keep (cache ++ list) before answer after left) (empty ∙ sym none) p)
      | inr whole ↦ put_whole_passed did side l cache list before after answer left whole (omega (arith, t)) p
    ]

-- A push of all beyond a length of 0 is the one request of a flush.
pub flush_whole : {S : Type 0} (did : S → Call → List Reading → S → Type 0) (side : S → Side)
    (cache : List ℕ) (before after : S) (answer : Put) (left : List ℕ) →
    0 < length cache → Pushed did side 0 cache before answer after left →
    Calls did side before after (λ calls. Flushes cache calls answer left)
flush_whole did side cache before after answer left some (Gone d a k) = (
  record { call = PutList cache (Ok tt); readings = d.readings } ∷ [],
  (after, d.step, refl),
  Whole some refl (let e : length cache - 0 ≡ length cache = omega arith in rw e at a) k,
)
flush_whole did side cache before after answer left some (Stays cause d a k) = (
  record { call = PutList cache (Err cause); readings = d.readings } ∷ [],
  (after, d.step, refl),
  WholePutOff some cause refl
      (let e : length cache - 0 ≡ length cache = omega arith in rw e at a) k,
)
