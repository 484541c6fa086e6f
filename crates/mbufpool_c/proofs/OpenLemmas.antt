-- Workers leave a list from its end, and come to handles from the first.
use Rattle.std.proofs.Common.{ℕ, ◌≡◌, ◌+◌, ◌<◌, inl, inr, List, [], ◌∷◌, ◌++◌, Some, append_assoc, get_or, get_or-set_same, get_or-set_other, length, map, drop, reverse, set, subst, sym, ap, ◌∙◌, arith}
use Rattle.std.proofs.lemmas.Bool.{cases_eq}
use Rattle.std.proofs.lemmas.List.{drop-drop, get_or-drop, map-append, reverse-append, length-map}
use Rattle.std.proofs.lemmas.List.FromFn.{length-range_with_len}
use Rattle.std.specs.List.{range_with_len}
use Rattle.commons.specs.declared.limits.Limits.{Limits}
use Rattle.ground.specs.Seats.{Grounded}
use Rattle.mbuf.specs.Members.{Member}
use Rattle.word_pool.specs.Workers.{WorkerState, AreNew, AreWorkers, members_of}
use Rattle.mbufpool_c.proofs.SharedLemmas.{numbers_are}
use Rattle.mbufpool_c.specs.inside.Shared.{numbers_of}
use Rattle.mbufpool_c.specs.Labelled.{Labelled, newly}
use Rattle.mbufpool_c.specs.Opens.{HaveWorkers, IsNewCrew, Opens}
use Rattle.mbufpool_c.specs.declared.worker_handle.WorkerHandle.{WorkerHandle}

-- all workers are as many as the pool has
pub count_of_crew : (g : Grounded) (ms : List WorkerState) → AreWorkers g ms → length ms ≡ g.limits.workers
count_of_crew g ms all =
    sym (length-map ms (λ (m : WorkerState). m.member))
    ∙ sym (length-map (members_of ms) (λ (m : Member). m.number))
    ∙ ap length all.numbers ∙ length-range_with_len 1 g.limits.workers

-- and are numbered from 1
pub numbers_of_crew : (g : Grounded) (ms : List WorkerState) → AreWorkers g ms → numbers_of ms ≡ range_with_len 1 (length ms)
numbers_of_crew g ms all =
    sym (numbers_are ms) ∙ all.numbers ∙ ap (range_with_len 1) (sym (count_of_crew g ms all))

-- workers of a pool as it is made are a new crew, also where they went from list to list
pub crew_of : (l : Limits) (g : Grounded) (ms ns : List WorkerState) → g.limits ≡ l → AreWorkers g ms → AreNew l ms →
    ns ≡ ms → IsNewCrew l ns
crew_of l g ms ns limits workers new same = record {
  ground = g;
  limits = limits;
  workers = subst (λ (xs : List WorkerState). AreWorkers g xs) (sym same) workers;
  new = subst (λ (xs : List WorkerState). AreNew l xs) (sym same) new;
  as_many =
      ap (λ (xs : List WorkerState). length xs) same ∙ count_of_crew g ms workers
      ∙ ap (λ (m : Limits). m.workers) limits;
}

module _ {X A : Type 0} (f : X → A) where
  -- a list that has one more at its end, turned round
  turned : (xs : List X) (x : X) → reverse (map f (xs ++ x ∷ [])) ≡ f x ∷ reverse (map f xs)
  turned xs x = ap reverse (map-append f xs (x ∷ [])) ∙ reverse-append (map f xs) (f x ∷ [])

  -- the last of those who are left goes over to the others, before them
  pub goes_over : (all left rest : List A) (m : A) (xs : List X) (x : X) →
      all ≡ left ++ reverse (map f xs) → left ≡ rest ++ m ∷ [] → f x ≡ m →
      all ≡ rest ++ reverse (map f (xs ++ x ∷ []))
  goes_over all left rest m xs x split last same =
      split ∙ ap (λ (ms : List A). ms ++ reverse (map f xs)) last
      ∙ append_assoc rest (m ∷ []) (reverse (map f xs))
      ∙ ap (λ (n : A). rest ++ n ∷ reverse (map f xs)) (sym same)
      ∙ ap (λ (ms : List A). rest ++ ms) (sym (turned xs x))

  -- what is left of all, from place k on, begins with the last one
  begins : (all : List A) (k : ℕ) (xs rest : List X) (x : X) →
      reverse (map f xs) ≡ drop k all → xs ≡ rest ++ x ∷ [] → f x ∷ reverse (map f rest) ≡ drop k all
  begins all k xs rest x left last =
      sym (turned rest x) ∙ sym (ap (λ (ys : List X). reverse (map f ys)) last) ∙ left

  -- who is the worker at place k
  pub at_place : (all : List A) (k : ℕ) (xs rest : List X) (x : X) →
      reverse (map f xs) ≡ drop k all → xs ≡ rest ++ x ∷ [] → (d : A) → get_or all k d ≡ f x
  at_place all k xs rest x left last d =
      let here : k + 0 ≡ k = omega arith in
      sym (ap (λ (n : ℕ). get_or all n d) here)
      ∙ sym (get_or-drop k all 0 d)
      ∙ sym (ap (λ (ms : List A). get_or ms 0 d) (begins all k xs rest x left last))

  -- and the others are left, from the next place on
  pub next_left : (all : List A) (k : ℕ) (xs rest : List X) (x : X) →
      reverse (map f xs) ≡ drop k all → xs ≡ rest ++ x ∷ [] → reverse (map f rest) ≡ drop (k + 1) all
  next_left all k xs rest x left last =
      ap (λ (ms : List A). drop 1 ms) (begins all k xs rest x left last) ∙ drop-drop 1 k all

-- the handles before place k have their workers, and so has the one that is put there
pub one_more : (out : List WorkerHandle) (k : ℕ) (w : WorkerHandle) (all : List Labelled) (v : Labelled) →
    k < length out → w.value ≡ Some v → ((d : Labelled) → get_or all k d ≡ v) →
    ((j : ℕ) (h : WorkerHandle) (m : Labelled) → j < k → (get_or out j h).value ≡ Some (get_or all j m)) →
    (j : ℕ) (h : WorkerHandle) (m : Labelled) → j < k + 1 → (get_or (set out k w) j h).value ≡ Some (get_or all j m)
one_more out k w all v more new here have j h m low = elim (cases_eq j k) [
  | inl same ↦
      ap (λ (n : ℕ). (get_or (set out k w) n h).value) same
      ∙ ap (λ (x : WorkerHandle). x.value) (get_or-set_same out k w h more)
      ∙ new ∙ sym (ap (λ (x : Labelled). Some x) (here m))
      ∙ sym (ap (λ (n : ℕ). Some (get_or all n m)) same)
  | inr other ↦
      let before : j < k = omega (arith, low, other) in
      ap (λ (x : WorkerHandle). x.value) (get_or-set_other out k j w h other) ∙ have j h m before
]

-- the handles have the workers of a new crew
pub opens_with : (l : Limits) (all : List Labelled) (handles : List WorkerHandle) →
    ((ms : List WorkerState) × IsNewCrew l ms × (all ≡ map newly ms)) → HaveWorkers all handles → Opens l handles
opens_with l all handles (ms, crew, same) have = record {
  workers = ms;
  crew = crew;
  have = subst (λ (ns : List Labelled). HaveWorkers ns handles) same have;
}
