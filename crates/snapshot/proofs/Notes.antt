-- Lists of faults, kind after kind.
use Rattle.std.proofs.Common.{ℕ, suc, ◌≡◌, ◌+◌, ◌<◌, List, [], ◌∷◌, ◌++◌, get_or, length, map, inl, inr, refl, sym, ap, ◌∙◌, subst, append_assoc, arith}
use Rattle.std.specs.Prelude.{All, Contains, IsTrue, false, ◌↔◌, ◌⊎◌}
use Rattle.std.specs.List.{AllPairs}
use Rattle.std.proofs.lemmas.Bool.{cases_lt}
use Rattle.std.proofs.lemmas.List.{append-nil, get_or-map, length-map, map_push}
use Rattle.std.proofs.lemmas.List.Elements.{All-append, All-map, Contains-append_cases, Contains-append_left, Contains-append_right, Contains-get_or, Contains-push, Contains-push_cases}
use Rattle.std.proofs.lemmas.List.Kept.{AllPairs-cons}
use Rattle.std.proofs.lemmas.List.Quantifiers.{all_pairs_push}
use Rattle.snapshot.specs.declared.fault.Fault.{Fault}
use Rattle.snapshot.specs.AllFaults.{AreAllFaults}
use Rattle.snapshot.specs.Faults.{IsBefore, rank}
use Rattle.snapshot.specs.inside.Notes.{Adds, AddsBelow, AddsEach}

-- false isn't true
pub never : IsTrue false → ⊥
never is = cc

-- ---- lists

-- the first is in order with all others
pairs-head : {X : Type 0} (R : X → X → Type 0) (x : X) (xs : List X) → AllPairs R (x ∷ xs) → All (R x) xs
pairs-head R x xs pairs k d l = pairs 0 (suc k) d (omega arith) (omega arith)

pairs-tail : {X : Type 0} (R : X → X → Type 0) (x : X) (xs : List X) → AllPairs R (x ∷ xs) → AllPairs R xs
pairs-tail R x xs pairs i j d l m = pairs (suc i) (suc j) d (omega arith) (omega arith)

-- what all elements of a list have, from what each has
all-contained : {X : Type 0} (P : X → Type 0) (xs : List X) → ((x : X) → Contains xs x → P x) → All P xs
all-contained P xs each k d l = each (get_or xs k d) (Contains-get_or xs k d l)

-- two lists in order, each element of the one before each of the other
pairs-append : {X : Type 0} (R : X → X → Type 0) (xs ys : List X) → AllPairs R xs → AllPairs R ys →
    ((x y : X) → Contains xs x → Contains ys y → R x y) → AllPairs R (xs ++ ys)
pairs-append R [] ys first then across = then
pairs-append R (x ∷ xs) ys first then across =
    AllPairs-cons R x (xs ++ ys)
    (All-append (R x) xs ys (pairs-head R x xs first)
    (all-contained (R x) ys (λ y there. across x y (0, omega arith, refl) there)))
    (pairs-append R xs ys (pairs-tail R x xs first) then
    (λ a b here there. let l = here.1 in across a b (suc here.0, omega arith, here.2) there))

-- the images of ascending numbers
pairs-map : {X : Type 0} (R : X → X → Type 0) (f : ℕ → X) (xs : List ℕ) → AllPairs (λ a b. a < b) xs →
    ((a b : ℕ) → a < b → R (f a) (f b)) → AllPairs R (map f xs)
pairs-map R f [] pairs each = λ i j d l m. absurd (omega arith)
pairs-map R f (x ∷ xs) pairs each =
    AllPairs-cons R (f x) (map f xs)
    (All-map (R (f x)) f xs (λ k d l. each x (get_or xs k d) (pairs-head (λ (a b : ℕ). a < b) x xs pairs k d l)))
    (pairs-map R f xs (pairs-tail (λ (a b : ℕ). a < b) x xs pairs) each)

-- what stands in a mapped list, and the other way round
contains-map : {X : Type 0} (f : ℕ → X) (xs : List ℕ) (y : X) → Contains (map f xs) y →
    (x : ℕ) × Contains xs x × (y ≡ f x)
contains-map f xs y there =
    let k = there.0 in
    let l : k < length xs = omega (arith, there.1, length-map xs f) in
    (get_or xs k 0, Contains-get_or xs k 0 l, sym there.2 ∙ get_or-map f xs k 0 y l)

map-contains : {X : Type 0} (f : ℕ → X) (xs : List ℕ) (x : ℕ) → Contains xs x → Contains (map f xs) (f x)
map-contains f xs x there = (
  there.0,
  omega (arith, there.1, length-map xs f),
  get_or-map f xs there.0 x (f x) there.1 ∙ ap f there.2,
)

-- ---- all faults

-- no fault, where none is told
pub all-none : (Told : Fault → Type 0) → ((f : Fault) → Told f → ⊥) → AreAllFaults Told []
all-none Told none = record {
  ordered = λ i j d l m. absurd (omega arith);
  exactly = λ f. (λ there. absurd (let l = there.1 in omega arith), λ told. absurd (none f told));
}

-- one fault, where it alone is told
pub all-one : (Told : Fault → Type 0) (f : Fault) → Told f → ((g : Fault) → Told g → g ≡ f) → AreAllFaults Told (f ∷ [])
all-one Told f told alone = record {
  ordered = λ i j d l m. absurd (omega arith);
  exactly = λ g. (
    λ there. elim (Contains-push_cases [] f g there) [
      | inl none ↦ absurd (let l = none.1 in omega arith)
      | inr same ↦ subst Told same told
    ],
    λ is. (0, omega arith, sym (alone g is)),
  );
}

-- the faults of one part, and then those of another
pub all-then : (First Then All : Fault → Type 0) (xs ys : List Fault) → AreAllFaults First xs → AreAllFaults Then ys →
    ((f g : Fault) → First f → Then g → IsBefore f g) → ((f : Fault) → All f ↔ (First f ⊎ Then f)) →
    AreAllFaults All (xs ++ ys)
all-then First Then All xs ys first then before is = record {
  ordered =
      pairs-append IsBefore xs ys first.ordered then.ordered
      (λ f g here there. before f g ((first.exactly f).0 here) ((then.exactly g).0 there));
  exactly = λ f. (
    λ there. elim (Contains-append_cases xs ys f there) [
      | inl here ↦ (is f).1 (inl ((first.exactly f).0 here))
      | inr here ↦ (is f).1 (inr ((then.exactly f).0 here))
    ],
    λ told. elim ((is f).0 told) [
      | inl here ↦ Contains-append_left xs ys f ((first.exactly f).1 here)
      | inr here ↦ Contains-append_right xs ys f ((then.exactly f).1 here)
    ],
  );
}

-- the same faults in other words
pub all-as : (These Those : Fault → Type 0) (xs : List Fault) → AreAllFaults These xs →
    ((f : Fault) → Those f ↔ These f) → AreAllFaults Those xs
all-as These Those xs are same = record {
  ordered = are.ordered;
  exactly = λ f. (λ there. (same f).1 ((are.exactly f).0 there), λ told. (are.exactly f).1 ((same f).0 told));
}

-- ---- faults that are added

pub adds-none : (Told : Fault → Type 0) (faults : List Fault) → ((f : Fault) → Told f → ⊥) → Adds Told faults faults
adds-none Told faults none = record { more = []; is = sym (append-nil faults); are = all-none Told none }

pub adds-one : (Told : Fault → Type 0) (faults : List Fault) (f : Fault) → Told f → ((g : Fault) → Told g → g ≡ f) →
    Adds Told faults (faults ++ f ∷ [])
adds-one Told faults f told alone = record { more = f ∷ []; is = refl; are = all-one Told f told alone }

pub adds-then : (First Then All : Fault → Type 0) (old mid new : List Fault) → Adds First old mid → Adds Then mid new →
    ((f g : Fault) → First f → Then g → IsBefore f g) → ((f : Fault) → All f ↔ (First f ⊎ Then f)) → Adds All old new
adds-then First Then All old mid new first then before is = record {
  more = first.more ++ then.more;
  is = then.is ∙ ap (λ (xs : List Fault). xs ++ then.more) first.is ∙ append_assoc old first.more then.more;
  are = all-then First Then All first.more then.more first.are then.are before is;
}

pub adds-as : (These Those : Fault → Type 0) (old new : List Fault) → Adds These old new →
    ((f : Fault) → Those f ↔ These f) → Adds Those old new
adds-as These Those old new added same =
    record { more = added.more; is = added.is; are = all-as These Those added.more added.are same }

-- to none
pub adds-first : (Told : Fault → Type 0) (new : List Fault) → Adds Told [] new → AreAllFaults Told new
adds-first Told new added = subst (AreAllFaults Told) (sym added.is) added.are

-- after the one fault of another part
pub adds-after : (First Then All : Fault → Type 0) (f : Fault) (new : List Fault) → First f →
    ((g : Fault) → First g → g ≡ f) → Adds Then (f ∷ []) new → ((f g : Fault) → First f → Then g → IsBefore f g) →
    ((f : Fault) → All f ↔ (First f ⊎ Then f)) → AreAllFaults All new
adds-after First Then All f new first alone added before is =
    subst (AreAllFaults All) (sym added.is)
    (all-then First Then All (f ∷ []) added.more (all-one First f first alone) added.are before is)

-- those of one kind more
pub adds-kind : (Told : Fault → Type 0) (n : ℕ) (old mid new : List Fault) →
    Adds (λ f. (rank f < n) × Told f) old mid → Adds (λ f. (rank f ≡ n) × Told f) mid new →
    Adds (λ f. (rank f < n + 1) × Told f) old new
adds-kind Told n old mid new first then =
    adds-then (λ f. (rank f < n) × Told f) (λ f. (rank f ≡ n) × Told f) (λ f. (rank f < n + 1) × Told f) old mid new
    first then
    (λ f g low kind. inl (omega (arith, low.0, kind.0)))
    (λ f. (
      λ told. elim (cases_lt (rank f) n) [
        | inl low ↦ inl (low, told.1)
        | inr high ↦ inr (omega (arith, told.0, high), told.1)
      ],
      λ either. elim either [
        | inl low ↦ (omega (arith, low.0), low.1)
        | inr kind ↦ (omega (arith, kind.0), kind.1)
      ],
    ))

-- ---- a fault for each element

-- no element yet
pub each-none : (fault_of : ℕ → Fault) (Wrong : ℕ → Type 0) (faults : List Fault) → AddsBelow 0 fault_of Wrong faults faults
each-none fault_of Wrong faults = record {
  elems = [];
  ascending = λ i j d l m. absurd (omega arith);
  exactly = λ e. (λ there. absurd (let l = there.1 in omega arith), λ is. absurd (let l = is.0 in omega arith));
  is = sym (append-nil faults);
}

-- one element more that has the fault
pub each-more : (fault_of : ℕ → Fault) (Wrong : ℕ → Type 0) (n : ℕ) (old cur : List Fault) →
    AddsBelow n fault_of Wrong old cur → Wrong n → AddsBelow (n + 1) fault_of Wrong old (cur ++ fault_of n ∷ [])
each-more fault_of Wrong n old cur added wrong = record {
  elems = added.elems ++ n ∷ [];
  ascending =
      all_pairs_push (λ (a b : ℕ). a < b) added.elems n added.ascending
      (λ k d l. ((added.exactly (get_or added.elems k d)).0 (Contains-get_or added.elems k d l)).0);
  exactly = λ e. (
    λ there. elim (Contains-push_cases added.elems n e there) [
      | inl before ↦ let is = (added.exactly e).0 before in (let l = is.0 in omega arith, is.1)
      | inr last ↦ (omega (arith, last), subst Wrong last wrong)
    ],
    λ is. elim (cases_lt e n) [
      | inl before ↦ Contains-append_left added.elems (n ∷ []) e ((added.exactly e).1 (before, is.1))
      | inr past ↦
          let l = is.0 in
          let last : n ≡ e = omega arith in
          subst (Contains (added.elems ++ n ∷ [])) last (Contains-push added.elems n)
    ],
  );
  is =
      ap (λ (xs : List Fault). xs ++ fault_of n ∷ []) added.is
      ∙ append_assoc old (map fault_of added.elems) (fault_of n ∷ [])
      ∙ ap (λ (xs : List Fault). old ++ xs) (sym (map_push fault_of added.elems n));
}

-- and one that hasn't
pub each-same : (fault_of : ℕ → Fault) (Wrong : ℕ → Type 0) (n : ℕ) (old cur : List Fault) →
    AddsBelow n fault_of Wrong old cur → (Wrong n → ⊥) → AddsBelow (n + 1) fault_of Wrong old cur
each-same fault_of Wrong n old cur added right = record {
  elems = added.elems;
  ascending = added.ascending;
  exactly = λ e. (
    λ there. let is = (added.exactly e).0 there in (let l = is.0 in omega arith, is.1),
    λ is. (added.exactly e).1 (
      elim (cases_lt e n) [
        | inl before ↦ before
        | inr past ↦ let l = is.0 in
            let last : e ≡ n = omega arith in
            absurd (right (subst Wrong last is.1))
      ],
      is.1,
    ),
  );
  is = added.is;
}

-- so these faults were added
pub adds-each : (Told : Fault → Type 0) (fault_of : ℕ → Fault) (Wrong : ℕ → Type 0) (old new : List Fault) →
    ((a b : ℕ) → a < b → IsBefore (fault_of a) (fault_of b)) → ((e : ℕ) → Wrong e → Told (fault_of e)) →
    ((f : Fault) → Told f → (e : ℕ) × (f ≡ fault_of e) × Wrong e) → AddsEach fault_of Wrong old new → Adds Told old new
adds-each Told fault_of Wrong old new before wrong told added = record {
  more = map fault_of added.elems;
  is = added.is;
  are = record {
    ordered = pairs-map IsBefore fault_of added.elems added.ascending before;
    exactly = λ f. (
      λ there.
          let named = contains-map fault_of added.elems f there in
          subst Told (sym named.2) (wrong named.0 ((added.exactly named.0).0 named.1)),
      λ is.
          let named = told f is in
          subst (Contains (map fault_of added.elems)) (sym named.1)
          (map-contains fault_of added.elems named.0 ((added.exactly named.0).1 named.2)),
    );
  };
}
