-- Workers are taken out of their entries, from the last number to the first.
use Rattle.std.proofs.Common.{ℕ, ◌≡◌, ◌+◌, ◌-◌, ◌<◌, ◌≤◌, inl, inr, All, Contains, List, [], ◌∷◌, ◌++◌, length, map, refl, sym, ap, ◌∙◌, subst, arith, add-one, get_or, length-append, map-id, reverse}
use Rattle.std.proofs.lemmas.Bool.{cases_eq}
use Rattle.std.proofs.lemmas.List.{append_cancel_right, get_or_push, length-map, map-append, reverse-append}
use Rattle.std.proofs.lemmas.List.FromFn.{length-range_with_len, map-range_with_len_more}
use Rattle.std.proofs.lemmas.List.Elements.{All-cons, All-nil, All-head, All-tail, All-weaker, Contains-append_left, Contains-append_right, Contains-push}
use Rattle.std.proofs.lemmas.List.Kept.{AllPairs-cons}
use Rattle.std.specs.List.{range_with_len}
use Rattle.book.specs.Lost.{IsOf}
use Rattle.commons.specs.declared.limits.Limits.{Limits}
use Rattle.ground.specs.Seats.{Grounded}
use Rattle.snapshot.specs.Lost.{IsAscending}
use Rattle.word_pool.specs.Lost.{AreLeft}
use Rattle.word_pool.specs.Workers.{WorkerState, AreCrew, IsAt, members_of}
use Rattle.mbufpool_c.specs.inside.Shared.{AreAbove, IsGathered, numbers_of}

-- no worker is above the last
pub none_above : (g : Grounded) (k : ℕ) → k ≡ g.limits.workers → AreAbove g k [] []
none_above g k last = record {
  each = All-nil (IsAt g);
  above = All-nil (λ w. k < w);
  below = All-nil (λ w. w ≤ g.limits.workers);
  ascending = λ i j d before low. absurd (omega (arith, low));
  all = λ w more most. absurd (omega (arith, more, most, last));
  full = λ _.
      let none : g.limits.workers - k ≡ 0 = omega (arith, last) in
      sym (ap (range_with_len (k + 1)) none);
  as_many = omega (arith, last);
}

-- the worker of the number below is there
pub one_there : (g : Grounded) (k n : ℕ) (ms : List WorkerState) (missing : List ℕ) (m : WorkerState) →
    n ≡ k + 1 → n ≤ g.limits.workers → AreAbove g n ms missing → IsAt g m → m.member.number ≡ n →
    AreAbove g k (m ∷ ms) missing
one_there g k n ms missing m next low are of is = record {
  each = All-cons (IsAt g) m ms of are.each;
  above =
      All-cons (λ w. k < w) m.member.number (numbers_of ms) (omega (arith, next, is))
      (All-weaker (λ w. n < w) (λ w. k < w) (λ w h. omega (arith, h, next)) (numbers_of ms) are.above);
  below =
      All-cons (λ w. w ≤ g.limits.workers) m.member.number (numbers_of ms) (omega (arith, low, is)) are.below;
  ascending =
      AllPairs-cons (λ a b. a < b) m.member.number (numbers_of ms)
      (All-weaker (λ w. n < w) (λ w. m.member.number < w) (λ w h. omega (arith, h, is)) (numbers_of ms) are.above)
      are.ascending;
  all = λ w more most. elim (cases_eq w n) [
    | inl same ↦
        inl (0, omega arith, is ∙ sym same)
    | inr other ↦
        elim (are.all w (omega (arith, more, other, next)) most) [
          | inl there ↦ inl (Contains-append_right (m.member.number ∷ []) (numbers_of ms) w there)
          | inr gone ↦ inr gone
        ]
  ];
  full = λ none.
      let one_more : g.limits.workers - k ≡ (g.limits.workers - n) + 1 = omega (arith, next, low) in
      let first : m.member.number ≡ k + 1 = is ∙ next in
      let others : numbers_of ms ≡ range_with_len (k + 1 + 1) (g.limits.workers - n) =
      are.full none ∙ ap (λ (a : ℕ). range_with_len (a + 1) (g.limits.workers - n)) next in
      ap (λ (a : ℕ). a ∷ numbers_of ms) first
      ∙ ap (λ (ws : List ℕ). (k + 1) ∷ ws) others
      ∙ sym (ap (range_with_len (k + 1)) (one_more ∙ add-one (g.limits.workers - n)));
  as_many = omega (arith, are.as_many, next, low);
}

-- the worker of the number below is missing
pub one_missing : (g : Grounded) (k n : ℕ) (ms : List WorkerState) (missing : List ℕ) →
    n ≡ k + 1 → n ≤ g.limits.workers → AreAbove g n ms missing → AreAbove g k ms (missing ++ n ∷ [])
one_missing g k n ms missing next low are = record {
  each = are.each;
  above = All-weaker (λ w. n < w) (λ w. k < w) (λ w h. omega (arith, h, next)) (numbers_of ms) are.above;
  below = are.below;
  ascending = are.ascending;
  all = λ w more most. elim (cases_eq w n) [
    | inl same ↦ inr (subst (Contains (missing ++ n ∷ [])) (sym same) (Contains-push missing n))
    | inr other ↦
        elim (are.all w (omega (arith, more, other, next)) most) [
          | inl there ↦ inl there
          | inr gone ↦ inr (Contains-append_left missing (n ∷ []) w gone)
        ]
  ];
  full = λ none.
      absurd (omega (arith, length-append missing (n ∷ []), ap {B = ℕ} (λ (ws : List ℕ). length ws) none));
  as_many = omega (arith, are.as_many, next, low, length-append missing (n ∷ []));
}

-- the numbers of workers are those of their members
pub numbers_are : (ms : List WorkerState) → map (λ member. member.number) (members_of ms) ≡ numbers_of ms
numbers_are [] = refl
numbers_are (m ∷ ms) = ap (λ (ws : List ℕ). m.member.number ∷ ws) (numbers_are ms)

-- where none is missing, they are all
pub all_there : (g : Grounded) (ms : List WorkerState) (missing : List ℕ) → AreAbove g 0 ms missing → missing ≡ [] → AreCrew g ms
all_there g ms missing are none = record {
  numbers =
      numbers_are ms ∙ are.full none
      ∙ ap (range_with_len 1) (let whole : g.limits.workers - 0 ≡ g.limits.workers = omega arith in whole);
  each = are.each;
}

are_numbers : (l : Limits) (ms : List WorkerState) → All (λ w. 0 < w) (numbers_of ms) → All (λ w. w ≤ l.workers) (numbers_of ms) →
    All (λ m. IsOf l m.number) (members_of ms)
are_numbers l [] first last = All-nil (λ m. IsOf l m.number)
are_numbers l (m ∷ ms) first last =
    All-cons (λ m. IsOf l m.number) m.member (members_of ms)
    (record {
      first = omega (arith, All-head (λ w. 0 < w) m.member.number (numbers_of ms) first);
      last = All-head (λ w. w ≤ l.workers) m.member.number (numbers_of ms) last;
    })
    (are_numbers l ms (All-tail (λ w. 0 < w) m.member.number (numbers_of ms) first)
    (All-tail (λ w. w ≤ l.workers) m.member.number (numbers_of ms) last))

-- and else they are those who are left
pub some_there : (g : Grounded) (ms : List WorkerState) (missing : List ℕ) → AreAbove g 0 ms missing → 0 < length ms → AreLeft g missing ms
some_there g ms missing are some = record {
  some = some;
  each = are.each;
  ordered = record {
    ascending = subst IsAscending (sym (numbers_are ms)) are.ascending;
    workers = are_numbers g.limits ms are.above are.below;
    all = λ w of.
        let first : 0 < w = omega (arith, of.first) in
        elim (are.all w first of.last) [
          | inl there ↦ inl (subst (λ (ws : List ℕ). Contains ws w) (sym (numbers_are ms)) there)
          | inr gone ↦ inr gone
        ];
  };
}

-- a worker is added at the end, and is the first of all turned round
turned : (ms : List WorkerState) (m : WorkerState) → reverse (ms ++ m ∷ []) ≡ m ∷ reverse ms
turned ms m = reverse-append ms (m ∷ [])

-- one more entry is passed
pub gathered_more : (g tag : Grounded) (k n : ℕ) (ms new : List WorkerState) (missing gone : List ℕ) → tag ≡ g →
    n ≡ k + 1 → n ≤ g.limits.workers → AreAbove g n (reverse ms) missing → IsGathered tag n ms new missing gone →
    AreAbove g k (reverse new) gone
gathered_more g tag k n ms new missing gone same next low are (inl (m, of, is, more, kept)) =
    subst (λ (xs : List WorkerState). AreAbove g k xs gone) (sym (ap reverse more ∙ turned ms m))
    (subst (λ (ws : List ℕ). AreAbove g k (m ∷ reverse ms) ws) (sym kept)
    (one_there g k n (reverse ms) missing m next low are (subst (λ (h : Grounded). IsAt h m) same of) is))
gathered_more g tag k n ms new missing gone same next low are (inr (kept, more)) =
    subst (λ (xs : List WorkerState). AreAbove g k (reverse xs) gone) (sym kept)
    (subst (λ (ws : List ℕ). AreAbove g k (reverse ms) ws) (sym more) (one_missing g k n (reverse ms) missing next low are))

-- all entries are passed
pub gathered_all : (g : Grounded) (k : ℕ) (ms new : List WorkerState) (missing : List ℕ) → k ≡ 0 → new ≡ reverse ms →
    AreAbove g k (reverse ms) missing → AreAbove g 0 new missing
gathered_all g k ms new missing last turned are =
    subst (λ (xs : List WorkerState). AreAbove g 0 xs missing) (sym turned)
    (subst (λ (n : ℕ). AreAbove g n (reverse ms) missing) last are)

-- numbers in a row, and one more
range_more : (a n : ℕ) → range_with_len a (n + 1) ≡ range_with_len a n ++ (a + n) ∷ []
range_more a n =
    sym (map-id (range_with_len a (n + 1))) ∙ map-range_with_len_more (λ (x : ℕ). x) a n (a + n) refl
    ∙ ap (λ (ws : List ℕ). ws ++ (a + n) ∷ []) (map-id (range_with_len a n))

-- the last of workers numbered from 1 has the number of all, and the others are so numbered
pub last_number : (ms rest : List WorkerState) (m : WorkerState) → ms ≡ rest ++ m ∷ [] → numbers_of ms ≡ range_with_len 1 (length ms) →
    (length rest + 1 ≡ m.member.number) × (numbers_of rest ≡ range_with_len 1 (length rest))
last_number ms rest m last all =
    let n = length rest in
    let few : length ms ≡ n + 1 = ap (λ (xs : List WorkerState). length xs) last ∙ length-append rest (m ∷ []) in
    let both : numbers_of rest ++ m.member.number ∷ [] ≡ range_with_len 1 n ++ (1 + n) ∷ [] =
    sym (map-append (λ (x : WorkerState). x.member.number) rest (m ∷ [])) ∙ sym (ap numbers_of last) ∙ all
    ∙ ap (range_with_len 1) few ∙ range_more 1 n in
    let is : m.member.number ≡ 1 + n =
    sym (get_or_push (numbers_of rest) m.member.number 0 n (length-map rest (λ (x : WorkerState). x.member.number)))
    ∙ ap (λ (ws : List ℕ). get_or ws n 0) both
    ∙ get_or_push (range_with_len 1 n) (1 + n) 0 n (length-range_with_len 1 n) in (
      omega (arith, is),
      append_cancel_right (numbers_of rest) (range_with_len 1 n) (m.member.number ∷ [])
          (both ∙ ap (λ (x : ℕ). range_with_len 1 n ++ x ∷ []) (sym is)),
    )
