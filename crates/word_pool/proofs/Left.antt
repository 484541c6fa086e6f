-- The workers that are left of all of a pool.
use Rattle.std.proofs.Common.{ℕ, zero, suc, ◌≡◌, ◌≢◌, ◌⊎◌, ◌-◌, ◌<◌, ◌≤◌, inl, inr, List, [], ◌∷◌, length, get_or, map, take, drop, refl, sym, ap, ◌∙◌, subst, arith}
use Rattle.std.specs.Prelude.{Contains, ◌==◌}
use Rattle.std.specs.List.{AllPairs, remove, range_with_len}
use Rattle.std.proofs.lemmas.Bool.{cond_both, eqb-false, eqb-true}
use Rattle.std.proofs.lemmas.List.{length-map}
use Rattle.std.proofs.lemmas.List.Edits.{length-remove}
use Rattle.std.proofs.lemmas.List.Elements.{All-append, All-drop, All-take, Contains-append_right}
use Rattle.std.proofs.lemmas.List.FromFn.{get_or-range_with_len, length-range_with_len}
use Rattle.std.proofs.lemmas.List.Quantifiers.{all_pairs_remove}
use Rattle.commons.specs.declared.limits.Limits.{Limits}
use Rattle.ground.specs.Seats.{Grounded}
use Rattle.mbuf.specs.Members.{Member}
use Rattle.book.specs.Lost.{AreOrdered, IsOf}
use Rattle.book.proofs.Lost.{all_ordered}
use Rattle.word_pool.specs.Lost.{AreLeft, left_of}
use Rattle.word_pool.specs.Workers.{WorkerState, AreCrew, IsAt, members_of}
use Rattle.word_pool.proofs.Parts.{as_many as all_many}

-- the numbers of members
abbrev pub numbers : List Member → List ℕ
numbers ms = map (λ (m : Member). m.number) ms

map-remove : {A B : Type 0} (f : A → B) (xs : List A) (k : ℕ) → map f (remove xs k) ≡ remove (map f xs) k
map-remove f [] zero = refl
map-remove f (x ∷ xs) zero = refl
map-remove f [] (suc k) = refl
map-remove f (x ∷ xs) (suc k) = ap (λ ys. f x ∷ ys) (map-remove f xs k)

-- what a list has stands at an index, or without it
contains_without : (k : ℕ) (xs : List ℕ) (v : ℕ) → Contains xs v → Contains (remove xs k) v ⊎ (get_or xs k v ≡ v)
contains_without k [] v there = inr refl
contains_without zero (x ∷ xs) v (zero, l, same) = inr same
contains_without zero (x ∷ xs) v (suc j, l, same) = inl (j, omega arith, same)
contains_without (suc k) (x ∷ xs) v (zero, l, same) = inl (0, omega arith, same)
contains_without (suc k) (x ∷ xs) v (suc j, l, same) = elim (contains_without k xs v (j, omega arith, same)) [
  | inl there ↦ inl (Contains-append_right (x ∷ []) (remove xs k) v there)
  | inr here ↦ inr here
]

module _ (l : Limits) (members : List Member) (all : numbers members ≡ range_with_len 1 l.workers) where
  long : length members ≡ l.workers
  long = sym (length-map members (λ (m : Member). m.number)) ∙ ap length all ∙ length-range_with_len 1 l.workers

  -- all but one are in order, where that one is listed
  pub ordered_without : (n : ℕ) → IsOf l n → AreOrdered l (n ∷ []) (remove members (n - 1))
  ordered_without n of =
      let first = of.first in
      let last = of.last in
      let every = all_ordered l members all (n ∷ []) in
      let less = map-remove (λ (m : Member). m.number) members (n - 1) in
      let within : n - 1 < length (numbers members) = omega (arith, ap length all, length-range_with_len 1 l.workers) in
      record {
        ascending =
            subst (λ (ns : List ℕ). AllPairs (λ a b. a < b) ns) (sym less)
            (all_pairs_remove (λ (a b : ℕ). a < b) (numbers members) (n - 1) within every.ascending);
        workers =
            All-append (λ (m : Member). IsOf l m.number) (take (n - 1) members) (drop (suc (n - 1)) members)
            (All-take (λ (m : Member). IsOf l m.number) (n - 1) members every.workers)
            (All-drop (λ (m : Member). IsOf l m.number) (suc (n - 1)) members every.workers);
        all =
            λ w is. elim (every.all w is) [
              | inl there ↦ elim (contains_without (n - 1) (numbers members) w there) [
                | inl other ↦ inl (subst (λ (ns : List ℕ). Contains ns w) (sym less) other)
                | inr here ↦
                    let at = ap (λ (ns : List ℕ). get_or ns (n - 1) w) all
                    ∙ get_or-range_with_len 1 l.workers (n - 1) w (omega arith) in
                    let same : n ≡ w = omega (arith, at, here) in
                    inr (0, omega arith, same)
              ]
              | inr listed ↦ inr listed
            ];
      }

-- ---- so of a ground's workers, whatever parts they have

module _ (g : Grounded) (ms : List WorkerState) (workers : AreCrew g ms) (n : ℕ) (of : IsOf g.limits n) where
  pub as_many : length ms ≡ g.limits.workers
  as_many = all_many g.limits ms workers.numbers

  -- an only worker stays
  pub only_left : length ms ≡ 1 → AreLeft g (n ∷ []) ms
  only_left one = record {
    some = omega arith;
    each = workers.each;
    ordered = all_ordered g.limits (members_of ms) workers.numbers (n ∷ []);
  }

  -- and of several all but one
  pub others_left : 1 < length ms → AreLeft g (n ∷ []) (remove ms (n - 1))
  others_left many = record {
    some = omega (arith, of.first, of.last, as_many, length-remove ms (n - 1) (omega (arith, of.first, of.last, as_many)));
    each =
        All-append (IsAt g) (take (n - 1) ms) (drop (suc (n - 1)) ms) (All-take (IsAt g) (n - 1) ms workers.each)
        (All-drop (IsAt g) (suc (n - 1)) ms workers.each);
    ordered =
        subst (AreOrdered g.limits (n ∷ [])) (sym (map-remove (λ (m : WorkerState). m.member) ms (n - 1)))
        (ordered_without g.limits (members_of ms) workers.numbers n of);
  }

-- the number of a worker is one of as many
pub number_within : (g : Grounded) (ms : List WorkerState) (number : ℕ) → AreCrew g ms → IsOf g.limits number →
    (1 ≤ number) × (number ≤ length ms)
number_within g ms number workers of =
    (of.first, (let last = of.last in omega (arith, as_many g ms workers number of)))

-- who is left once one is lost
pub left_after : (g : Grounded) (ms : List WorkerState) (number : ℕ) → AreCrew g ms → IsOf g.limits number →
    AreLeft g (number ∷ []) (left_of number ms)
left_after g ms number workers of =
    cond_both (length ms == 1) ms (remove ms (number - 1)) (AreLeft g (number ∷ []))
    (λ t. only_left g ms workers number of (eqb-true (length ms) 1 t))
    (λ t.
    let many : 1 < length ms =
    (let n : length ms ≢ 1 = eqb-false (length ms) 1 t in
    let first = of.first in
    let last = of.last in
    omega (arith, as_many g ms workers number of)) in
    others_left g ms workers number of many)

-- all are left where nobody is lost
pub all_left : (g : Grounded) (ms : List WorkerState) → AreCrew g ms → 1 ≤ g.limits.workers → AreLeft g [] ms
all_left g ms workers some = record {
  some = omega (arith, all_many g.limits ms workers.numbers, some);
  each = workers.each;
  ordered = all_ordered g.limits (members_of ms) workers.numbers [];
}
