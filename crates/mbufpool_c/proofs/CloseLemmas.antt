-- Handles are taken one after another, where a pool is closed.
use Rattle.std.proofs.Common.{ℕ, ◌≡◌, ◌≢◌, ◌+◌, ◌<◌, ◌≤◌, inl, inr, All, List, [], ◌∷◌, ◌++◌, Option, None, get_or, get_or-set_same, get_or-set_other, length, set, take, append-nil, Result, Ok, Err, IfOk, refl, sym, ap, ◌∙◌, subst, arith}
use Rattle.std.proofs.lemmas.Bool.{cases_eq}
use Rattle.std.proofs.lemmas.Grind.{flat_map-append}
use Rattle.std.proofs.lemmas.List.{get_or-map, length-map, map-append, take_more}
use Rattle.std.proofs.lemmas.List.Elements.{All-from_get_or, All-get_or}
use Rattle.std.proofs.Math.Seq.{map-set_same}
use Rattle.std.specs.Prelude.{Some, flat_map, slice_index_or}
use Rattle.ground.specs.Seats.{Grounded}
use Rattle.word_pool.specs.Workers.{WorkerState}
use Rattle.mbufpool_c.specs.Labelled.{Labelled}
use Rattle.mbufpool_c.specs.Closes.{AreApart, AreEmpty, Closes, HasClosed, HasOneOf, HaveSame, IsLost, IsSettled, worker_number, numbers_in, values_of}
use Rattle.mbufpool_c.specs.inside.Shared.{AreAbove}
use Rattle.mbufpool_c.specs.declared.ending.Ending.{Ending}
use Rattle.mbufpool_c.specs.declared.worker_handle.WorkerHandle.{WorkerHandle}

-- the numbers of handles and of one more
joined : (hs : List WorkerHandle) (h : WorkerHandle) → numbers_in (hs ++ h ∷ []) ≡ numbers_in hs ++ worker_number h.value
joined hs h =
    ap (flat_map worker_number) (map-append (λ (x : WorkerHandle). x.value) hs (h ∷ []))
    ∙ flat_map-append worker_number (values_of hs) (h.value ∷ [])
    ∙ ap (λ (ws : List ℕ). numbers_in hs ++ ws) (append-nil (worker_number h.value))

-- a handle that has what it had changes nothing
pub keeps_at : (old new : List WorkerHandle) (k : ℕ) (h d : WorkerHandle) → HaveSame old new →
    h.value ≡ (get_or new k d).value → HaveSame old (set new k h)
keeps_at old new k h d same kept = map-set_same (λ (x : WorkerHandle). x.value) new k h d kept ∙ same

-- in empty handles there is no worker
pub empty_at : (old new : List WorkerHandle) (k : ℕ) (d : WorkerHandle) → HaveSame old new → k < length new →
    AreEmpty old → (get_or new k d).value ≡ None
empty_at old new k d same low empty =
    let more : k < length (values_of new) = omega (arith, low, length-map new (λ (x : WorkerHandle). x.value)) in
    sym (get_or-map (λ (x : WorkerHandle). x.value) new k d None low)
    ∙ All-get_or (λ (v : Option Labelled). v ≡ None) (values_of new) k None more
    (subst (All (λ (v : Option Labelled). v ≡ None)) (sym same) empty)

-- the handles before place k are empty, and so is the one there
pub emptied_more : (hs : List WorkerHandle) (k : ℕ) (h : WorkerHandle) → k < length hs → h.value ≡ None →
    ((j : ℕ) (d : WorkerHandle) → j < k → (get_or hs j d).value ≡ None) →
    (j : ℕ) (d : WorkerHandle) → j < k + 1 → (get_or (set hs k h) j d).value ≡ None
emptied_more hs k h more none before j d low = elim (cases_eq j k) [
  | inl same ↦
      subst (λ (i : ℕ). (get_or (set hs k h) i d).value ≡ None) (sym same)
      (ap (λ (x : WorkerHandle). x.value) (get_or-set_same hs k h d more) ∙ none)
  | inr other ↦
      let lower : j < k = omega (arith, low, other) in
      ap (λ (x : WorkerHandle). x.value) (get_or-set_other hs k j h d other) ∙ before j d lower
]

-- and those after it are as they were
pub others_stay : (old hs : List WorkerHandle) (k : ℕ) (h : WorkerHandle) →
    ((j : ℕ) (d : WorkerHandle) → k ≤ j → get_or hs j d ≡ get_or old j d) →
    (j : ℕ) (d : WorkerHandle) → k + 1 ≤ j → get_or (set hs k h) j d ≡ get_or old j d
others_stay old hs k h stay j d past =
    let other : j ≢ k = λ same. absurd (omega (arith, past, same)) in
    let from : k ≤ j = omega (arith, past) in
    get_or-set_other hs k j h d other ∙ stay j d from

-- handles that are empty, each, are so all together
pub all_empty : (hs : List WorkerHandle) → ((j : ℕ) (d : WorkerHandle) → j < length hs → (get_or hs j d).value ≡ None) → AreEmpty hs
all_empty [] each = λ k d low. absurd (omega (arith, low))
all_empty (h ∷ hs) each =
    All-from_get_or (λ (v : Option Labelled). v ≡ None) (values_of (h ∷ hs)) None (λ j low.
    let there : j < length (h ∷ hs) = omega (arith, low, length-map (h ∷ hs) (λ (x : WorkerHandle). x.value)) in
    get_or-map (λ (x : WorkerHandle). x.value) (h ∷ hs) j h None there ∙ each j h there)

-- the number of one more worker is noted
pub noted_more : (old : List WorkerHandle) (k : ℕ) (d : WorkerHandle) (v : Option Labelled) (xs : List ℕ) → k < length old →
    v ≡ (get_or old k d).value → xs ≡ numbers_in (take k old) → xs ++ worker_number v ≡ numbers_in (take (k + 1) old)
noted_more old k d v xs low is noted =
    ap (λ (ys : List ℕ). ys ++ worker_number v) noted
    ∙ ap (λ (w : Option Labelled). numbers_in (take k old) ++ worker_number w) is
    ∙ sym (ap numbers_in (take_more old k d low)
    ∙ joined (take k old) (get_or old k d))

-- what holds of an answer that isn't a refusal, where something else does
pub if_ok : {A E : Type 0} (P Q : A → Type 0) → ((x : A) → P x → Q x) → (r : Result A E) → IfOk r P → IfOk r Q
if_ok P Q lead (Ok x) holds = lead x holds
if_ok P Q lead (Err e) holds = tt

pub if_ok_both : {A E : Type 0} (P P' Q : A → Type 0) → ((x : A) → P x → P' x → Q x) → (r : Result A E) →
    IfOk r P → IfOk r P' → IfOk r Q
if_ok_both P P' Q lead (Ok x) holds too = lead x holds too
if_ok_both P P' Q lead (Err e) holds too = tt

pub empty_of : (xs : List ℕ) → length xs ≡ 0 → xs ≡ []
empty_of [] none = refl
empty_of (x ∷ xs) none = absurd (omega (arith, none))

-- workers of whom nobody is missing are settled
pub closed_all : (numbers : List ℕ) (g : Grounded) (ms : List WorkerState) (missing : List ℕ) (e : Ending) →
    AreAbove g 0 ms missing → missing ≡ [] → length ms ≡ length numbers → AreApart numbers missing →
    IsSettled g [] ms e → HasClosed g numbers e
closed_all numbers g ms missing e are none as_many apart settled = record {
  workers = ms;
  missing = missing;
  as_many = as_many;
  apart = apart;
  all = omega (arith, are.as_many);
  settled = subst (λ (ws : List ℕ). IsSettled g ws ms e) (sym none) settled;
}

settled_some : (g : Grounded) (ms : List WorkerState) (missing : List ℕ) (e : Ending) → 0 < length missing →
    IsLost g missing ms e → IsSettled g missing ms e
settled_some g ms [] e some lost = absurd (omega (arith, some))
settled_some g ms (w ∷ missing) e some lost = lost

-- and so are those who are left
pub closed_some : (numbers : List ℕ) (g : Grounded) (ms : List WorkerState) (missing : List ℕ) (e : Ending) →
    AreAbove g 0 ms missing → 0 < length missing → length ms ≡ length numbers → AreApart numbers missing →
    IsLost g missing ms e → HasClosed g numbers e
closed_some numbers g ms missing e are some as_many apart lost = record {
  workers = ms;
  missing = missing;
  as_many = as_many;
  apart = apart;
  all = omega (arith, are.as_many);
  settled = settled_some g ms missing e some lost;
}

-- a worker that is in handles is in those that have the same
pub one_same : (g : Grounded) (old new : List WorkerHandle) → HaveSame old new → HasOneOf g old → HasOneOf g new
one_same g old new same (m, k, there, is) =
    (m, k, subst (λ (vs : List (Option Labelled)). slice_index_or vs k None ≡ Some m) (sym same) there, is)

-- handles that were looked at first are closed as well
pub closes_same : (old looked new : List WorkerHandle) (ending : Option Ending) → HaveSame old looked →
    Closes looked new ending → Closes old new ending
closes_same old looked new ending same closes = record {
  left = closes.left;
  found = closes.found;
  there = closes.there;
  ground = closes.ground;
  of = one_same closes.ground looked old (sym same) closes.of;
  closed = subst (λ (vs : List (Option Labelled)). HasClosed closes.ground (flat_map worker_number vs) closes.found) same closes.closed;
}
