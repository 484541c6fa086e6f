-- A look at an element's place, and the exchanges that take an element from it, keep the rule and
-- answer their seat what their contracts say.
use Rattle.std.proofs.Common.{◌≡◌, ◌≢◌, ℕ, ◌<◌, ◌≤◌, Bool, true, false, ◌&&◌, not, eqb, List, length, set, refl, sym, ap, ◌∙◌, subst, ⊎_elim, inl, inr, arith, eq-eqb, ne_eqb}
use Rattle.std.specs.Prelude.{slice_index, replicate}
use Rattle.std.proofs.lemmas.Bool.{cases_eq, and_parts, and_cases, ltb-true, ltb-false, lt-ltb, false≢true}
use mathlib.Core.Option.{some, none}
use mathlib.Core.Logic.{dite}
use native.Mathlib.Decide.{ℕ_discrete}
use lib.ListN.{get_elem?}
use prog.Atomic.{either}
use Rattle.atomic_table.specs.Table.{Act, step, keeps, stepped, Valid, Allows, carried_after}
use Rattle.commons.specs.Bag.{bag}
use Rattle.commons.proofs.Bags.{bag-cons, bag-append, one-same}
use Rattle.depot.specs.declared.view.Resting.{Resting}
use Rattle.depot.specs.declared.view.Shape.{Shape}
use Rattle.depot.specs.declared.view.View.{View}
use Rattle.depot.specs.Answers.{losing}
use Rattle.depot.specs.Layout.{place_at, place_in, element_at}
use Rattle.depot.specs.Placing.{looking_get, looking_put, claiming, taking_back, forgetting, looks_get, looks_put, claim_found, claims_it, back_found, takes_back}
use Rattle.depot.specs.Resting.{numbers, out_at, out_with, is_at, is_marked, finds, after_get, after_put, IsNumber}
use Rattle.depot.specs.Rule.{Sat, Depoted, Ruled}
use Rattle.depot.proofs.Bags.{bag-without}
use Rattle.depot.proofs.Guarding.{out-most, out-only}
use Rattle.depot.proofs.Totals.{sum-set, sum-one}
use Rattle.depot.proofs.Stepping.{mine, loads-guarded}
use Rattle.depot.proofs.Exchanges.{lost}
use Rattle.depot.proofs.Placing.{Counts, IsKept, Moves, guard-moved, place-kept, place-new, place-else}
use Rattle.depot.proofs.Looks.{wiped-same, wiped-other, one-other, times-same, times-other, its-number, only-number, none-out, comes}

not-is : (b : Bool) → not b ≡ true → b ≡ false
not-is true e = sym e
not-is false e = refl

is-not : (b : Bool) → not b ≡ false → b ≡ true
is-not true e = refl
is-not false e = sym e

-- a test that answers no, of what is so
not-both : (b : Bool) → b ≡ false → b ≡ true → ⊥
not-both b fails holds = false≢true (sym fails ∙ holds)

module _ (p : Shape) (s : Depoted) (r : Ruled p s) (id : ℕ) (me : Sat)
    (at : get_elem? s.views id ≡ some me.0) (i : ℕ) where
  abbrev slots : ℕ
  slots = length s.homes

  abbrev here : ℕ
  here = place_in s.words slots i

  abbrev looked : Resting → View
  looked x = record me.0 { resting = x }

  -- the seat isn't two of those that have a number
  number-most : (k : ℕ) → numbers me.0.resting k ≤ 1
  number-most k =
      let one_of = sum-one (λ (v : View). numbers v.resting k) s.views id me.0 at in
      let most = r.guarded.once k in omega arith

  zero-not : numbers me.0.resting 0 ≡ 0
  zero-not =
      let one_of = sum-one (λ (v : View). numbers v.resting 0) s.views id me.0 at in
      let none = r.guarded.nobody in omega arith

  get-moves : (b : Bool) → (is_at me.0.resting here && not (is_marked me.0.resting i)) ≡ b →
      Moves slots s.words s.words s.views id me.0
      (looked (after_get b (finds me.0.resting i here) i)) i
  get-moves true is =
      let v = me.0 in
      let w = looked (after_get true (finds v.resting i here) i) in
      let both = and_parts (is_at v.resting here) (not (is_marked v.resting i)) is in
      let own_here : 0 < numbers v.resting here = ltb-true 0 (numbers v.resting here) both.0 in
      let none_marked : bag v.resting.marks i ≤ 0 =
      ltb-false 0 (bag v.resting.marks i) (not-is (is_marked v.resting i) both.1) in
      let once = one-same i in
      record {
        same_numbers = λ j. refl;
        else = λ j n. refl;
        here = inl refl;
        counts =
            let gets = sum-set (λ (u : View). bag u.resting.gets i) s.views id v w at in
            let puts = sum-set (λ (u : View). bag u.resting.puts i) s.views id v w at in
            let outs = sum-set (λ (u : View). out_at u.resting here i) s.views id v w at in
            let more = bag-cons i v.resting.gets i in
            let marked = bag-cons i v.resting.marks i in
            let most = number-most here in
            let old = r.guarded.counts i in omega arith;
        others = λ j n apart.
            let a = bag-cons i v.resting.gets j in let b = bag-cons i v.resting.marks j in
            let none = one-other j i apart in omega arith;
        its = λ n j own there. ⊎_elim
            (λ (e : j ≡ i). subst (IsKept w.resting) (sym e)
            (let marked = bag-cons i v.resting.marks i in omega arith))
            (λ (apart : j ≢ i).
            let old = r.guarded.keeps id v at n j own there in
            let b = bag-cons i v.resting.marks j in
            let l = bag-without j i v.resting.listed in
            let none = one-other j i apart in omega arith) (cases_eq j i);
      }
  get-moves false is =
      let v = me.0 in
      let w = looked (after_get false (finds v.resting i here) i) in
      record {
        same_numbers = λ j. refl;
        else = λ j n. refl;
        here = inl refl;
        counts =
            let gets = sum-set (λ (u : View). bag u.resting.gets i) s.views id v w at in
            let puts = sum-set (λ (u : View). bag u.resting.puts i) s.views id v w at in
            let outs = sum-set (λ (u : View). out_at u.resting here i) s.views id v w at in
            let old = r.guarded.counts i in omega arith;
        others = λ j n apart. omega arith;
        its = λ n j own there. ⊎_elim
            (λ (e : j ≡ i). subst (IsKept w.resting) (sym e)
            (let at_i : here ≡ n = subst (λ (x : ℕ). place_in s.words slots x ≡ n) e there in
            let own_here : 0 < numbers v.resting here =
            subst (λ (x : ℕ). 0 < numbers v.resting x) (sym at_i) own in
            ⊎_elim
            (λ no. absurd (not-both (is_at v.resting here) no
            (lt-ltb 0 (numbers v.resting here) own_here)))
            (λ no. let marked : 0 < bag v.resting.marks i =
            ltb-true 0 (bag v.resting.marks i) (is-not (is_marked v.resting i) no) in omega arith)
            (and_cases (is_at v.resting here) (not (is_marked v.resting i)) is)))
            (λ (apart : j ≢ i).
            let old = r.guarded.keeps id v at n j own there in
            let l = bag-without j i v.resting.listed in
            let none = one-other j i apart in omega arith) (cases_eq j i);
      }

  put-moves : (b : Bool) → (is_at me.0.resting here && is_marked me.0.resting i) ≡ b →
      Moves slots s.words s.words s.views id me.0
      (looked (after_put b (finds me.0.resting i here) i)) i
  put-moves true is =
      let v = me.0 in
      let w = looked (after_put true (finds v.resting i here) i) in
      let both = and_parts (is_at v.resting here) (is_marked v.resting i) is in
      let own_here : 0 < numbers v.resting here = ltb-true 0 (numbers v.resting here) both.0 in
      let marked : 0 < bag v.resting.marks i = ltb-true 0 (bag v.resting.marks i) both.1 in
      let once = one-same i in
      record {
        same_numbers = λ j. refl;
        else = λ j n. refl;
        here = inl refl;
        counts =
            let gets = sum-set (λ (u : View). bag u.resting.gets i) s.views id v w at in
            let puts = sum-set (λ (u : View). bag u.resting.puts i) s.views id v w at in
            let outs = sum-set (λ (u : View). out_at u.resting here i) s.views id v w at in
            let more = bag-cons i v.resting.puts i in
            let none = wiped-same i v.resting.marks in
            let most = number-most here in
            let old = r.guarded.counts i in omega arith;
        others = λ j n apart.
            let a = bag-cons i v.resting.puts j in let b = wiped-other j i v.resting.marks apart in
            let none = one-other j i apart in omega arith;
        its = λ n j own there. ⊎_elim
            (λ (e : j ≡ i). subst (IsKept w.resting) (sym e)
            (let listed = bag-cons i v.resting.listed i in omega arith))
            (λ (apart : j ≢ i).
            let old = r.guarded.keeps id v at n j own there in
            let b = wiped-other j i v.resting.marks apart in
            let l = bag-cons i v.resting.listed j in omega arith) (cases_eq j i);
      }
  put-moves false is = record {
    same_numbers = λ j. refl;
    else = λ j n. refl;
    here = inl refl;
    counts =
        let v = me.0 in
        let w = looked (finds v.resting i here) in
        let gets = sum-set (λ (u : View). bag u.resting.gets i) s.views id v w at in
        let puts = sum-set (λ (u : View). bag u.resting.puts i) s.views id v w at in
        let outs = sum-set (λ (u : View). out_at u.resting here i) s.views id v w at in
        let old = r.guarded.counts i in omega arith;
    others = λ j n apart. omega arith;
    its = λ n j own there. r.guarded.keeps id me.0 at n j own there;
  }

  -- a seat that found nothing at the place any more: its number is in its list no more
  forget-moves : (k : ℕ) → IsNumber me.0.resting k → here ≢ k →
      Moves slots s.words s.words s.views id me.0 (forgetting me.0 i) i
  forget-moves k number gone =
      let v = me.0 in
      let w = forgetting v i in
      record {
        same_numbers = λ j. refl;
        else = λ j n. refl;
        here = inl refl;
        counts =
            let gets = sum-set (λ (u : View). bag u.resting.gets i) s.views id v w at in
            let puts = sum-set (λ (u : View). bag u.resting.puts i) s.views id v w at in
            let outs = sum-set (λ (u : View). out_at u.resting here i) s.views id v w at in
            let old = r.guarded.counts i in omega arith;
        others = λ j n apart. omega arith;
        its = λ n j own there. ⊎_elim
            (λ (e : j ≡ i).
            let at_i : here ≡ n = subst (λ (x : ℕ). place_in s.words slots x ≡ n) e there in
            absurd (gone (at_i ∙ only-number v.resting k n number own)))
            (λ (apart : j ≢ i).
            let old = r.guarded.keeps id v at n j own there in
            let l = bag-without j i v.resting.listed in
            let none = one-other j i apart in omega arith) (cases_eq j i);
      }

  -- a load, whatever it leaves marked and listed
  pub look-kept : (x : Resting) → Moves slots s.words s.words s.views id me.0 (looked x) i →
      Ruled p (stepped s (place_at slots i) here id me.1 (looked x) keeps)
  look-kept x moves =
      let own = mine p s r id me at in
      loads-guarded p s r id me at (place_at slots i) (looked x) refl refl
      (record {
        population = own.population;
        rounds = own.rounds;
        look = own.look;
        chain = own.chain;
      })
      (guard-moved slots s.words s.words s.views r.guarded id me.0 (looked x) at i moves)

  pub forget-kept : (k : ℕ) → IsNumber me.0.resting k → here ≢ k →
      Ruled p (stepped s (place_at slots i) here id me.1 (forgetting me.0 i) keeps)
  forget-kept k number gone =
      let own = mine p s r id me at in
      loads-guarded p s r id me at (place_at slots i) (forgetting me.0 i) refl refl
      (record {
        population = own.population;
        rounds = own.rounds;
        look = own.look;
        chain = own.chain;
      })
      (guard-moved slots s.words s.words s.views r.guarded id me.0 (forgetting me.0 i) at i
      (forget-moves k number gone))

  pub get-kept : Ruled p (stepped s (place_at slots i) here id me.1 (looking_get me.0 i here) keeps)
  get-kept = look-kept _
      (get-moves (is_at me.0.resting here && not (is_marked me.0.resting i)) refl)

  pub put-kept : Ruled p (stepped s (place_at slots i) here id me.1 (looking_put me.0 i here) keeps)
  put-kept = look-kept _ (put-moves (is_at me.0.resting here && is_marked me.0.resting i) refl)

  module _ (inside : i < p.places) where
    abbrev new : List ℕ
    new = set s.words (place_at slots i) 0

    empty : place_in new slots i ≡ 0
    empty = place-new p s r id me at i 0 inside

    -- how often it is out
    abbrev was : ℕ
    was = out_with s.views here i

    pub was-most : was ≤ 1
    was-most = let most = out-most s.views here i in let once = r.guarded.once here in omega arith

    claim-moves : Moves slots s.words new s.views id me.0 (claiming me.0 i was) i
    claim-moves =
        let v = me.0 in
        let w = claiming v i was in
        record {
          same_numbers = λ j. refl;
          else = place-else p s r id me at i 0 inside;
          here = inr (inr empty);
          counts =
              let gets = sum-set (λ (u : View). bag u.resting.gets i) s.views id v w at in
              let puts = sum-set (λ (u : View). bag u.resting.puts i) s.views id v w at in
              let outs = sum-set (λ (u : View). out_at u.resting 0 i) s.views id v w at in
              let more = bag-append (replicate was i) v.resting.puts i in
              let times = times-same was i in
              let none = none-out p s r id me at i inside in
              let not_zero = zero-not in
              let old = r.guarded.counts i in
              let goal : Counts (set s.views id w) i 0 = omega arith in
              subst (Counts (set s.views id w) i) (sym empty) goal;
          others = λ j n apart.
              let more = bag-append (replicate was i) v.resting.puts j in
              let times = times-other was j i apart in omega arith;
          its = λ n j own there. ⊎_elim
              (λ (e : j ≡ i).
              let at_i : place_in new slots i ≡ n =
              subst (λ (x : ℕ). place_in new slots x ≡ n) e there in
              let zero_own : 0 < numbers v.resting 0 =
              subst (λ (x : ℕ). 0 < numbers v.resting x) (sym at_i ∙ empty) own in
              let not_zero = zero-not in absurd (omega arith))
              (λ (apart : j ≢ i). r.guarded.keeps id v at n j own
              (sym (place-else p s r id me at i 0 inside j apart) ∙ there)) (cases_eq j i);
        }

    back-moves : (k : ℕ) → IsNumber me.0.resting k → here ≡ k → bag me.0.resting.marks i ≡ 0 →
        Moves slots s.words new s.views id me.0 (taking_back me.0 i) i
    back-moves k number is unmarked =
        let v = me.0 in
        let w = taking_back v i in
        record {
          same_numbers = λ j. refl;
          else = place-else p s r id me at i 0 inside;
          here = inr (inr empty);
          counts =
              let gets = sum-set (λ (u : View). bag u.resting.gets i) s.views id v w at in
              let puts = sum-set (λ (u : View). bag u.resting.puts i) s.views id v w at in
              let outs = sum-set (λ (u : View). out_at u.resting 0 i) s.views id v w at in
              let none = none-out p s r id me at i inside in
              let not_zero = zero-not in
              let only = out-only s.views id v k i at
              (let one_of = its-number v.resting k number in
              let most = r.guarded.once k in omega arith) in
              let old = subst (Counts s.views i) is (r.guarded.counts i) in
              let goal : Counts (set s.views id w) i 0 = omega arith in
              subst (Counts (set s.views id w) i) (sym empty) goal;
          others = λ j n apart. omega arith;
          its = λ n j own there. ⊎_elim
              (λ (e : j ≡ i).
              let at_i : place_in new slots i ≡ n =
              subst (λ (x : ℕ). place_in new slots x ≡ n) e there in
              let zero_own : 0 < numbers v.resting 0 =
              subst (λ (x : ℕ). 0 < numbers v.resting x) (sym at_i ∙ empty) own in
              let not_zero = zero-not in absurd (omega arith))
              (λ (apart : j ≢ i).
              let old = r.guarded.keeps id v at n j own
              (sym (place-else p s r id me at i 0 inside j apart) ∙ there) in
              let l = bag-without j i v.resting.listed in
              let none = one-other j i apart in omega arith) (cases_eq j i);
        }

    pub claim-kept : 0 < here →
        Ruled p (stepped s (place_at slots i) 0 id me.1 (claiming me.0 i was) keeps)
    claim-kept some_there =
        place-kept p s r id me at i 0 inside (claiming me.0 i was) refl refl refl refl refl
        (comes p s r id me at i inside some_there) claim-moves

    pub back-kept : (k : ℕ) → IsNumber me.0.resting k → 0 < k → here ≡ k →
        bag me.0.resting.marks i ≡ 0 →
        Ruled p (stepped s (place_at slots i) 0 id me.1 (taking_back me.0 i) keeps)
    back-kept k number some_k is unmarked =
        place-kept p s r id me at i 0 inside (taking_back me.0 i) refl refl refl refl refl
        (comes p s r id me at i inside (omega arith)) (back-moves k number is unmarked)

-- which element's place a word is
which : (slots i : ℕ) → element_at slots (place_at slots i) ≡ i
which slots i = omega arith

-- a look to get, and one to put
pub get-looks : (p : Shape) (slots id : ℕ) (me : Sat) (i word : ℕ) → word ≡ place_at slots i →
    Allows (Ruled p) slots id me word (λ n. n) (looks_get (step slots word 0 0 none) me)
get-looks p slots id me i word is =
    subst (λ (x : ℕ). Allows (Ruled p) slots id me x (λ n. n)
    (looks_get (step slots x 0 0 none) me)) (sym is)
    (λ s r many at small.
    let n = slice_index s.words (place_at slots i) in (
      looking_get me.0 i n,
      keeps,
      tt,
      subst (λ (m : ℕ). Ruled p
          (stepped s (place_at m i) (slice_index s.words (place_at m i)) id me.1
          (looking_get me.0 i (slice_index s.words (place_at m i))) keeps)) many
          (get-kept p s r id me at i),
      ap (λ (x : ℕ). (looking_get me.0 x n, me.1)) (sym (which slots i)),
    ))

pub put-looks : (p : Shape) (slots id : ℕ) (me : Sat) (i word : ℕ) → word ≡ place_at slots i →
    Allows (Ruled p) slots id me word (λ n. n) (looks_put (step slots word 0 0 none) me)
put-looks p slots id me i word is =
    subst (λ (x : ℕ). Allows (Ruled p) slots id me x (λ n. n)
    (looks_put (step slots x 0 0 none) me)) (sym is)
    (λ s r many at small.
    let n = slice_index s.words (place_at slots i) in (
      looking_put me.0 i n,
      keeps,
      tt,
      subst (λ (m : ℕ). Ruled p
          (stepped s (place_at m i) (slice_index s.words (place_at m i)) id me.1
          (looking_put me.0 i (slice_index s.words (place_at m i))) keeps)) many
          (put-kept p s r id me at i),
      ap (λ (x : ℕ). (looking_put me.0 x n, me.1)) (sym (which slots i)),
    ))

-- an element is taken from its place
pub claimed : (p : Shape) (slots id : ℕ) (me : Sat) (i k word : ℕ) → i < p.places → 0 < k →
    word ≡ place_at slots i →
    Allows (Ruled p) slots id me word (λ n. either (eqb n k) 0 n)
    (claims_it (step slots word k 0 none) me)
claimed p slots id me i k word inside some_k is =
    subst (λ (x : ℕ). Allows (Ruled p) slots id me x (λ n. either (eqb n k) 0 n)
    (claims_it (step slots x k 0 none) me)) (sym is)
    (λ s r many at small.
    let n = slice_index s.words (place_at slots i) in
    let same : n ≡ place_in s.words (length s.homes) i =
    ap (λ (m : ℕ). slice_index s.words (place_at m i)) (sym many) in
    let G : Bool → Type 0 = λ b.
    (w : View) × (a : Act (List ℕ)) × Valid s.homes me.1 a
    × Ruled p (stepped s (place_at slots i) (either b 0 n) id me.1 w a)
    × claim_found b (element_at slots (place_at slots i)) me (w, carried_after me.1 a) in
    dite (ℕ_discrete n k)
    (λ hit. subst G (sym (eq-eqb n k hit))
    (let was = out_with s.views (place_in s.words (length s.homes) i) i in
    let w = claiming me.0 i was in (
      w,
      keeps,
      tt,
      subst (λ (m : ℕ). Ruled p (stepped s (place_at m i) 0 id me.1 w keeps)) many
          (claim-kept p s r id me at i inside (omega arith)),
      (
        was,
        was-most p s r id me at i inside,
        ap (λ (x : ℕ). (claiming me.0 x was, me.1)) (sym (which slots i)),
      ),
    )))
    (λ miss. subst G (sym (ne_eqb n k miss))
    (losing me.0, keeps, tt, lost p slots id me (place_at slots i) s r at, refl)))

-- what a seat keeps is taken back
pub taken_back : (p : Shape) (slots id : ℕ) (me : Sat) (i k word : ℕ) → i < p.places → 0 < k →
    IsNumber me.0.resting k →
    bag me.0.resting.marks i ≡ 0 → word ≡ place_at slots i →
    Allows (Ruled p) slots id me word (λ n. either (eqb n k) 0 n)
    (takes_back (step slots word k 0 none) me)
taken_back p slots id me i k word inside some_k number unmarked is =
    subst (λ (x : ℕ). Allows (Ruled p) slots id me x (λ n. either (eqb n k) 0 n)
    (takes_back (step slots x k 0 none) me)) (sym is)
    (λ s r many at small.
    let n = slice_index s.words (place_at slots i) in
    let same : n ≡ place_in s.words (length s.homes) i =
    ap (λ (m : ℕ). slice_index s.words (place_at m i)) (sym many) in
    let G : Bool → Type 0 = λ b.
    (w : View) × (a : Act (List ℕ)) × Valid s.homes me.1 a
    × Ruled p (stepped s (place_at slots i) (either b 0 n) id me.1 w a)
    × back_found b (element_at slots (place_at slots i)) me (w, carried_after me.1 a) in
    dite (ℕ_discrete n k)
    (λ hit. subst G (sym (eq-eqb n k hit)) (
      taking_back me.0 i,
      keeps,
      tt,
      subst (λ (m : ℕ). Ruled p
          (stepped s (place_at m i) 0 id me.1 (taking_back me.0 i) keeps)) many
          (back-kept p s r id me at i inside k number some_k (sym same ∙ hit) unmarked),
      ap (λ (x : ℕ). (taking_back me.0 x, me.1)) (sym (which slots i)),
    ))
    (λ miss. subst G (sym (ne_eqb n k miss)) (
      forgetting me.0 i,
      keeps,
      tt,
      subst (λ (m : ℕ). Ruled p
          (stepped s (place_at m i) (slice_index s.words (place_at m i)) id me.1
          (forgetting me.0 i) keeps))
          many (forget-kept p s r id me at i k number (λ e. miss (same ∙ e))),
      ap (λ (x : ℕ). (forgetting me.0 x, me.1)) (sym (which slots i)),
    )))
