-- Marks of the elements that were met.
use Rattle.std.proofs.Common.{ℕ, zero, suc, ◌≡◌, ◌≢◌, ◌+◌, ◌-◌, ◌<◌, ◌≤◌, Bool, true, false, List, [], ◌∷◌, ◌++◌, length, get_or, set, nat_lt, inl, inr, refl, sym, ap, ◌∙◌, subst, length-set, get_or-set_same, get_or-set_other, arith}
use Rattle.std.specs.Prelude.{Contains, min, replicate, slice_index, sum_by}
use Rattle.std.proofs.lemmas.Bool.{cases_eq, cases_lt}
use Rattle.std.proofs.lemmas.Bool.Decides.{nat_tests}
use Rattle.std.proofs.lemmas.List.{get_or-replicate, get_or_past, length-replicate}
use Rattle.std.proofs.lemmas.List.Elements.{Contains-append_left, Contains-get_or, Contains-push, Contains-push_cases}
use Rattle.std.proofs.lemmas.List.Quantifiers.{all_pairs_push}
use Rattle.commons.specs.Bag.{bag, one}
use Rattle.commons.specs.Packets.{held_in}
use Rattle.commons.proofs.Bags.{bag-cons, bag-nil, one-same}
use Rattle.snapshot.specs.declared.snapshot.Snapshot.{Snapshot}
use Rattle.snapshot.specs.Lost.{AreLost}
use Rattle.snapshot.specs.Snapshots.{elements_of, walk, words_from}
use Rattle.snapshot.specs.inside.Marks.{AreUnmarked, HasMarked, mark_at, mark_of, walked_from}
use Rattle.pool_model.specs.Guests.{guest_holds, local_table}
use Rattle.snapshot.proofs.NamedSums.{named-sum}

-- a mark is one or none
mark_of-le : (b : Bool) → mark_of b ≤ 1
mark_of-le true = omega arith
mark_of-le false = omega arith

pub mark-le : (marks : List Bool) (e : ℕ) → mark_at marks e ≤ 1
mark-le marks e = mark_of-le (get_or marks e false)

-- nothing was met
pub marked-none : (times : ℕ → ℕ) (marks : List Bool) → ((e : ℕ) → times e ≡ 0) → HasMarked times marks marks
marked-none times marks none = record {
  len = refl;
  marks = λ e l. omega (arith, none e, mark-le marks e);
}

-- the same elements in other words
pub marked-as : (these those : ℕ → ℕ) (old new : List Bool) → HasMarked these old new →
    ((e : ℕ) → those e ≡ these e) → HasMarked those old new
marked-as these those old new met same = record {
  len = met.len;
  marks = λ e l. omega (arith, met.marks e l, same e);
}

-- these were met, and then those
pub marked-then : (first then all : ℕ → ℕ) (old mid new : List Bool) → HasMarked first old mid →
    HasMarked then mid new → ((e : ℕ) → all e ≡ first e + then e) → HasMarked all old new
marked-then first then all old mid new f t same = record {
  len = t.len ∙ f.len;
  marks = λ e l. let within : e < length mid = omega (arith, f.len) in
      omega (arith, t.marks e within, f.marks e l, same e);
}

-- another element isn't this one
one-other : (k e : ℕ) → e ≢ k → one k e ≡ 0
one-other k e other = grind (arith, nat_tests)

-- an element is marked
pub marked-one : (marks : List Bool) (k : ℕ) → k < length marks → HasMarked (one k) marks (set marks k true)
marked-one marks k l = record {
  len = length-set marks k true;
  marks =
      λ e within. elim (cases_eq e k) [
        | inl same ↦
            let here : get_or (set marks k true) e false ≡ true =
            ap (λ n. get_or (set marks k true) n false) same ∙ get_or-set_same marks k true false l in
            let is : mark_at (set marks k true) e ≡ 1 = ap mark_of here in
            let once : one k e ≡ 1 = ap (one k) same ∙ one-same k in
            omega (arith, is, once)
        | inr other ↦
            let is : mark_at (set marks k true) e ≡ mark_at marks e =
            ap mark_of (get_or-set_other marks k e true false other) in
            omega (arith, is, one-other k e other, mark-le marks e)
      ];
}

-- one that has no mark isn't
pub marked-past : (marks : List Bool) (k : ℕ) → length marks ≤ k → HasMarked (one k) marks marks
marked-past marks k past = record {
  len = refl;
  marks = λ e within. let other : e ≢ k = λ same. omega (arith, same) in
      omega (arith, one-other k e other, mark-le marks e);
}

-- no element has a mark at first
pub mark-first : (n e : ℕ) → mark_at (replicate n false) e ≡ 0
mark-first n e = elim (cases_lt e n) [
  | inl l ↦ ap mark_of (get_or-replicate n e false false l)
  | inr past ↦ ap mark_of (get_or_past (replicate n false) e false (omega (arith, length-replicate {A = Bool} n false)))
]

-- ---- the walk

-- it has ended at 0
pub walked-none : (most population : ℕ) (links : List ℕ) → walked_from most population links 0 ≡ []
walked-none zero population links = refl
walked-none (suc most) population links = refl

-- and at a word above the population
pub walked-over : (most population : ℕ) (links : List ℕ) (word : ℕ) → population < word →
    walked_from most population links word ≡ []
walked-over zero population links word over = refl
walked-over (suc most) population links zero over = absurd (omega arith)
walked-over (suc zero) population links (suc e) over =
    let no : nat_lt e population ≡ false = grind (arith, nat_tests) in
    rw no refl
walked-over (suc (suc most)) population links (suc e) over =
    let no : nat_lt e population ≡ false = grind (arith, nat_tests) in
    rw no refl

-- else it has the element of the word, and then those from its link on
walked-suc : (most population : ℕ) (links : List ℕ) (e : ℕ) → e < population →
    walked_from (suc most) population links (suc e) ≡ e ∷ walked_from most population links (slice_index links e)
walked-suc zero population links e l =
    let yes : nat_lt e population ≡ true = grind (arith, nat_tests) in
    rw yes refl
walked-suc (suc most) population links e l =
    let yes : nat_lt e population ≡ true = grind (arith, nat_tests) in
    rw yes refl

pub walked-more : (most population : ℕ) (links : List ℕ) (word i : ℕ) → 0 < most → 0 < word → word ≤ population →
    bag (walked_from most population links word) i
    ≡ one (word - 1) i + bag (walked_from (most - 1) population links (slice_index links (word - 1))) i
walked-more zero population links word i some there fits = absurd (omega arith)
walked-more (suc most) population links zero i some there fits = absurd (omega arith)
walked-more (suc most) population links (suc e) i some there fits =
    let low : suc e - 1 ≡ e = omega arith in
    let less : suc most - 1 ≡ most = omega arith in
    rw (low, less) (ap (λ (xs : List ℕ). bag xs i) (walked-suc most population links e (omega arith))
    ∙ bag-cons e (walked_from most population links (slice_index links e)) i)

-- ---- the elements without a mark

pub unmarked-none : (marks : List Bool) → AreUnmarked marks 0 []
unmarked-none marks = record {
  ascending = λ i j d l m. absurd (omega arith);
  exactly = λ e. (λ there. absurd (let l = there.1 in omega arith), λ within. absurd (let l = within.0 in omega arith));
}

-- one element more has no mark
pub unmarked-more : (marks : List Bool) (n : ℕ) (elems : List ℕ) → AreUnmarked marks n elems → get_or marks n false ≡ false →
    AreUnmarked marks (n + 1) (elems ++ n ∷ [])
unmarked-more marks n elems are unset = let none : mark_at marks n ≡ 0 = ap mark_of unset in record {
  ascending =
      all_pairs_push (λ (a b : ℕ). a < b) elems n are.ascending
      (λ k d l. ((are.exactly (get_or elems k d)).0 (Contains-get_or elems k d l)).0);
  exactly = λ e. (
    λ there. elim (Contains-push_cases elems n e there) [
      | inl before ↦ let is = (are.exactly e).0 before in (let l = is.0 in omega arith, is.1)
      | inr last ↦ (omega (arith, last), ap (mark_at marks) (sym last) ∙ none)
    ],
    λ is. elim (cases_lt e n) [
      | inl before ↦ Contains-append_left elems (n ∷ []) e ((are.exactly e).1 (before, is.1))
      | inr past ↦
          let l = is.0 in
          let last : n ≡ e = omega arith in
          subst (Contains (elems ++ n ∷ [])) last (Contains-push elems n)
    ],
  );
}

-- or has one
pub unmarked-same : (marks : List Bool) (n : ℕ) (elems : List ℕ) → AreUnmarked marks n elems → get_or marks n false ≡ true →
    AreUnmarked marks (n + 1) elems
unmarked-same marks n elems are set_is = let marked : mark_at marks n ≡ 1 = ap mark_of set_is in record {
  ascending = are.ascending;
  exactly = λ e. (
    λ there. let is = (are.exactly e).0 there in (let l = is.0 in omega arith, is.1),
    λ is. (are.exactly e).1 (
      elim (cases_lt e n) [
        | inl before ↦ before
        | inr past ↦
            let l = is.0 in
            let last : e ≡ n = omega arith in
            absurd (omega (arith, ap (mark_at marks) last, is.1))
      ],
      is.1,
    ),
  );
}

-- those that walk, shares, desks and guests didn't mark are lost
pub unmarked-lost : (s : Snapshot) (first walked shared desked all : List Bool) (elems : List ℕ) →
    first ≡ replicate s.limits.population false → HasMarked (bag (walk s)) first walked →
    HasMarked (λ e. sum_by (λ share. bag share.cache e + held_in (local_table s.foreign share.slots) e) s.shares) walked shared →
    HasMarked (held_in (local_table s.foreign s.desks)) shared desked → HasMarked (guest_holds s.guests) desked all →
    AreUnmarked all s.limits.population elems → AreLost s elems
unmarked-lost s first walked shared desked all elems none a b c d are =
    let long : length first ≡ s.limits.population =
    ap length none ∙ length-replicate {A = Bool} s.limits.population false in
    let met : (e : ℕ) → e < s.limits.population →
    mark_at all e ≡ min 1 (bag (walk s) e
    + (guest_holds s.guests e
    + (sum_by (λ share. bag share.cache e + held_in (local_table s.foreign share.slots) e) s.shares
    + held_in (local_table s.foreign s.desks) e))) =
    (λ e l.
    let m0 : mark_at first e ≡ 0 = ap (λ (marks : List Bool). mark_at marks e) none ∙ mark-first s.limits.population e in
    let m1 = a.marks e (omega (arith, long)) in
    let m2 = b.marks e (omega (arith, long, a.len)) in
    let m3 = c.marks e (omega (arith, long, a.len, b.len)) in
    let m4 = d.marks e (omega (arith, long, a.len, b.len, c.len)) in
    omega (arith, m0, m1, m2, m3, m4)) in
    record {
      ascending = are.ascending;
      exactly = λ e. (
        λ there.
            let is = (are.exactly e).0 there in
            (is.0, omega (arith, is.1, met e is.0, named-sum s e)),
        λ lost. (are.exactly e).1 (lost.0, omega (arith, lost.1, met e lost.0, named-sum s e)),
      );
    }

-- ---- the walk, marked

-- what is marked, and what the walk has yet, is what was marked and what the whole walk has
pub record IsWalking (population : ℕ) (links : List ℕ) (top : ℕ) (old new : List Bool) (most word : ℕ) : Type 0 where
  pub len : length new ≡ length old
  pub marks : (e : ℕ) → e < length old →
      min 1 (mark_at new e + bag (walked_from most population links word) e)
      ≡ min 1 (mark_at old e + bag (elements_of population (words_from population population links top)) e)

-- nothing is marked yet
pub walking-none : (population : ℕ) (links : List ℕ) (top most : ℕ) (marks : List Bool) → most ≡ population + 1 →
    IsWalking population links top marks marks most top
walking-none population links top most marks all =
    let whole : most ≡ suc population = omega arith in
    rw whole (record { len = refl; marks = λ e l. refl })

-- one element more is marked
pub walking-more : (population : ℕ) (links : List ℕ) (top : ℕ) (old mid new : List Bool) (most less word element link : ℕ) →
    IsWalking population links top old mid most word → HasMarked (one element) mid new → 0 < most → less ≡ most - 1 →
    0 < word → word ≤ population → element ≡ word - 1 → link ≡ slice_index links element →
    IsWalking population links top old new less link
walking-more population links top old mid new most less word element link so marked some lesser there fits at next =
    rw (next, at, lesser) (record {
      len = marked.len ∙ so.len;
      marks =
          λ e l.
          let within : e < length mid = omega (arith, so.len) in
          let mark = marked.marks e within in
          let one_is : one element e ≡ one (word - 1) e = ap (λ (k : ℕ). one k e) at in
          omega (arith, so.marks e l, mark, one_is, walked-more most population links word e some there fits);
    })

-- the walk has ended
walking-end : (population : ℕ) (links : List ℕ) (top : ℕ) (old new : List Bool) (most word : ℕ) →
    IsWalking population links top old new most word → walked_from most population links word ≡ [] →
    HasMarked (bag (elements_of population (words_from population population links top))) old new
walking-end population links top old new most word so end = record {
  len = so.len;
  marks =
      λ e l. let none : bag (walked_from most population links word) e ≡ 0 =
      ap (λ (xs : List ℕ). bag xs e) end ∙ bag-nil e in
      omega (arith, so.marks e l, none, mark-le new e);
}

-- at 0
pub walking-zero : (population : ℕ) (links : List ℕ) (top : ℕ) (old new : List Bool) (most word : ℕ) →
    IsWalking population links top old new most word → word ≡ 0 →
    HasMarked (bag (elements_of population (words_from population population links top))) old new
walking-zero population links top old new most word so zero_is =
    walking-end population links top old new most word so
    (ap (walked_from most population links) zero_is ∙ walked-none most population links)

-- at a word above the population
pub walking-over : (population : ℕ) (links : List ℕ) (top : ℕ) (old new : List Bool) (most word : ℕ) →
    IsWalking population links top old new most word → population < word →
    HasMarked (bag (elements_of population (words_from population population links top))) old new
walking-over population links top old new most word so over =
    walking-end population links top old new most word so (walked-over most population links word over)

-- and once it has one element more than the population
pub walking-full : (population : ℕ) (links : List ℕ) (top : ℕ) (old new : List Bool) (most word : ℕ) →
    IsWalking population links top old new most word → most ≡ 0 →
    HasMarked (bag (elements_of population (words_from population population links top))) old new
walking-full population links top old new most word so full =
    walking-end population links top old new most word so (ap (λ (k : ℕ). walked_from k population links word) full)
