-- What is so of places stands where a seat's view is changed, or a word.
use Rattle.std.proofs.Common.{◌≡◌, ℕ, zero, suc, ◌+◌, ◌<◌, ◌≤◌, List, [], ◌∷◌, ◌++◌, set, refl, sym, ap, ◌∙◌, subst, ⊎_elim, arith}
use Rattle.std.specs.Prelude.{sum_by}
use Rattle.std.proofs.lemmas.Bool.{cases_lt}
use Rattle.std.proofs.lemmas.List.Sums.{sum_by-cons}
use mathlib.Core.Option.{some, some-injective, some-ne-none}
use lib.ListN.{get_elem?}
use Rattle.atomic_table.proofs.Lists.{at_set, at_snoc}
use Rattle.commons.specs.Bag.{bag}
use Rattle.commons.proofs.Bags.{bag-nil}
use Rattle.depot.specs.declared.view.Resting.{Resting}
use Rattle.depot.specs.declared.view.View.{View}
use Rattle.depot.specs.Bags.{below}
use Rattle.depot.specs.Dealing.{with_first, with_others}
use Rattle.depot.specs.Layout.{place_in}
use Rattle.depot.specs.Resting.{no_resting, IsBare, numbers, out_at, named, got, put_out, out_with, Keeps, Guarded}
use Rattle.depot.proofs.Bags.{below-at, below-past}
use Rattle.depot.proofs.Totals.{sum-set, sum-one, sum-last}

-- what is no greater of each is no greater of all
module _ {X : Type 0} (f g : X → ℕ) (within : (x : X) → f x ≤ g x) where
  pub sum-within : (xs : List X) → sum_by f xs ≤ sum_by g xs
  sum-within [] = omega arith
  sum-within (x ∷ xs) =
      let more = sum-within xs in let one = within x in omega (arith, sum_by-cons f x xs, sum_by-cons g x xs)

  -- and the others are no further apart than all
  pub sum-gap : (xs : List X) (i : ℕ) (x : X) → get_elem? xs i ≡ some x →
      sum_by f xs + g x ≤ sum_by g xs + f x
  sum-gap [] i x e = absurd (some-ne-none x (sym e))
  sum-gap (z ∷ zs) zero x e =
      let same : f z ≡ f x = ap f (some-injective z x e) in
      let same2 : g z ≡ g x = ap g (some-injective z x e) in
      let more = sum-within zs in
      omega (arith, sum_by-cons f z zs, sum_by-cons g z zs)
  sum-gap (z ∷ zs) (suc i) x e =
      let more = sum-gap zs i x e in let one = within z in omega (arith, sum_by-cons f z zs, sum_by-cons g z zs)

pub out-within : (k i : ℕ) (v : View) → out_at v.resting k i ≤ numbers v.resting k
out-within k i v = omega arith

-- no more than once is an element out
pub out-most : (views : List View) (k i : ℕ) → out_with views k i ≤ named views k
out-most views k i =
    sum-within (λ (v : View). out_at v.resting k i) (λ (v : View). numbers v.resting k) (out-within k i) views

-- what rests at a seat's number is out with that seat or with none
pub out-only : (views : List View) (id : ℕ) (v : View) (k i : ℕ) → get_elem? views id ≡ some v →
    named views k ≤ numbers v.resting k → out_with views k i ≡ out_at v.resting k i
out-only views id v k i at only =
    let gap = sum-gap (λ (u : View). out_at u.resting k i) (λ (u : View). numbers u.resting k) (out-within k i)
    views id v at in
    let least = sum-one (λ (u : View). out_at u.resting k i) views id v at in
    omega arith

-- a view with the same of places
same-sum : (f : Resting → ℕ) (views : List View) (id : ℕ) (v w : View) → get_elem? views id ≡ some v →
    w.resting ≡ v.resting →
    sum_by (λ (u : View). f u.resting) (set views id w) ≡ sum_by (λ (u : View). f u.resting) views
same-sum f views id v w at same =
    let moved = sum-set (λ (u : View). f u.resting) views id v w at in
    let e : f w.resting ≡ f v.resting = ap f same in
    omega arith

pub guard-view : (slots : ℕ) (words : List ℕ) (views : List View) (id : ℕ) (v w : View) → get_elem? views id ≡ some v →
    w.resting ≡ v.resting → Guarded slots words views → Guarded slots words (set views id w)
guard-view slots words views id v w at same g =
    let number : (k : ℕ) → named (set views id w) k ≡ named views k = λ k.
    same-sum (λ r. numbers r k) views id v w at same in
    record {
      once = λ k. let e = number k in let old = g.once k in omega arith;
      nobody = number 0 ∙ g.nobody;
      numbered = λ i there. number (place_in words slots i) ∙ g.numbered i there;
      counts = λ i. let gets = same-sum (λ r. bag r.gets i) views id v w at same in
          let puts = same-sum (λ r. bag r.puts i) views id v w at same in
          let outs = same-sum (λ r. out_at r (place_in words slots i) i) views id v w at same in
          let old = g.counts i in omega arith;
      keeps = λ j u is. ⊎_elim
          (λ here. subst (λ (x : View). Keeps slots words x.resting) here.1
          (subst (Keeps slots words) (sym same) (g.keeps id v at)))
          (λ else. g.keeps j u else.1) (at_set views id j w u is);
    }

-- words in which all places are as they were
pub guard-words : (slots : ℕ) (words new : List ℕ) (views : List View) →
    ((i : ℕ) → place_in new slots i ≡ place_in words slots i) → Guarded slots words views → Guarded slots new views
guard-words slots words new views same g = record {
  once = g.once;
  nobody = g.nobody;
  numbered = λ i there. subst (λ (k : ℕ). 0 < k → named views k ≡ 1) (sym (same i)) (g.numbered i) there;
  counts = λ i. subst (λ (k : ℕ). got views i ≡ put_out views i + out_with views k i) (sym (same i)) (g.counts i);
  keeps = λ id v is k i mine here. g.keeps id v is k i mine (sym (same i) ∙ here);
}

-- one more seat, with which nothing rests
pub guard-more : (slots : ℕ) (words : List ℕ) (views : List View) (v : View) → v.resting ≡ no_resting →
    Guarded slots words views → Guarded slots words (views ++ v ∷ [])
guard-more slots words views v same g =
    let none : (k : ℕ) → numbers v.resting k ≡ 0 = λ k.
    let e : numbers v.resting k ≡ numbers no_resting k = ap (λ (r : Resting). numbers r k) same in omega arith in
    let number : (k : ℕ) → named (views ++ v ∷ []) k ≡ named views k = λ k.
    let last = sum-last (λ (u : View). numbers u.resting k) views v in
    let no = none k in
    omega arith in
    record {
      once = λ k. let e = number k in let old = g.once k in omega arith;
      nobody = number 0 ∙ g.nobody;
      numbered = λ i there. number (place_in words slots i) ∙ g.numbered i there;
      counts = λ i.
          let gets = sum-last (λ (u : View). bag u.resting.gets i) views v in
          let puts = sum-last (λ (u : View). bag u.resting.puts i) views v in
          let outs = sum-last (λ (u : View). out_at u.resting (place_in words slots i) i) views v in
          let no_gets : bag v.resting.gets i ≡ 0 = ap (λ (r : Resting). bag r.gets i) same ∙ bag-nil i in
          let no_puts : bag v.resting.puts i ≡ 0 = ap (λ (r : Resting). bag r.puts i) same ∙ bag-nil i in
          let no = none (place_in words slots i) in
          let old = g.counts i in omega arith;
      keeps = λ j u is. ⊎_elim (λ old. g.keeps j u old)
          (λ new k i mine here. let e : numbers u.resting k ≡ 0 = subst (λ (x : View). numbers x.resting k ≡ 0) new (none k) in
          absurd (omega arith)) (at_snoc views v u j is);
    }

-- the numbers of a seat with which nothing rests stand at no place
pub bare-unused : (slots : ℕ) (words : List ℕ) (views : List View) (id : ℕ) (v : View) → get_elem? views id ≡ some v →
    IsBare v.resting → Guarded slots words views → (i : ℕ) → numbers v.resting (place_in words slots i) ≡ 0
bare-unused slots words views id v at bare g i =
    ⊎_elim
    (λ (own : 0 < numbers v.resting (place_in words slots i)).
    let some_there = g.keeps id v at (place_in words slots i) i own refl in
    let marks : bag v.resting.marks i ≡ 0 = ap (λ (xs : List ℕ). bag xs i) bare.marks ∙ bag-nil i in
    let listed : bag v.resting.listed i ≡ 0 = ap (λ (xs : List ℕ). bag xs i) bare.listed ∙ bag-nil i in
    absurd (omega arith))
    (λ (h : numbers v.resting (place_in words slots i) ≤ 0). omega arith)
    (cases_lt 0 (numbers v.resting (place_in words slots i)))

bare-none : (r : Resting) → IsBare r → (i : ℕ) → (bag r.marks i ≡ 0) × (bag r.gets i ≡ 0) × (bag r.puts i ≡ 0)
bare-none r bare i = (
  ap (λ (xs : List ℕ). bag xs i) bare.marks ∙ bag-nil i,
  ap (λ (xs : List ℕ). bag xs i) bare.gets ∙ bag-nil i,
  ap (λ (xs : List ℕ). bag xs i) bare.puts ∙ bag-nil i,
)

-- such a seat is spent, with its numbers
pub guard-spent : (slots : ℕ) (words : List ℕ) (views : List View) (id : ℕ) (v w : View) → get_elem? views id ≡ some v →
    IsBare v.resting → w.resting ≡ no_resting → Guarded slots words views → Guarded slots words (set views id w)
guard-spent slots words views id v w at bare none g =
    let no : (k : ℕ) → numbers w.resting k ≡ 0 = λ k.
    let e : numbers w.resting k ≡ numbers no_resting k = ap (λ (r : Resting). numbers r k) none in omega arith in
    let number : (k : ℕ) → named (set views id w) k + numbers v.resting k ≡ named views k = λ k.
    let moved = sum-set (λ (u : View). numbers u.resting k) views id v w at in
    let e = no k in omega arith in
    record {
      once = λ k. let e = number k in let old = g.once k in omega arith;
      nobody = let e = number 0 in let old = g.nobody in omega arith;
      numbered = λ i there.
          let e = number (place_in words slots i) in
          let old = g.numbered i there in
          let unused = bare-unused slots words views id v at bare g i in omega arith;
      counts = λ i.
          let p = place_in words slots i in
          let gets = sum-set (λ (u : View). bag u.resting.gets i) views id v w at in
          let puts = sum-set (λ (u : View). bag u.resting.puts i) views id v w at in
          let outs = sum-set (λ (u : View). out_at u.resting p i) views id v w at in
          let was = bare-none v.resting bare i in
          let wm = was.0 in let wg = was.1 in let wp = was.2 in
          let now : (bag w.resting.gets i ≡ 0) × (bag w.resting.puts i ≡ 0) =
          (ap (λ (r : Resting). bag r.gets i) none ∙ bag-nil i, ap (λ (r : Resting). bag r.puts i) none ∙ bag-nil i) in
          let ng = now.0 in let np = now.1 in
          let nn = no p in
          let old = g.counts i in omega arith;
      keeps = λ j u is. ⊎_elim
          (λ here k i own there. let e : numbers u.resting k ≡ 0 = subst (λ (x : View). numbers x.resting k ≡ 0) here.1 (no k) in
          absurd (omega arith))
          (λ else. g.keeps j u else.1) (at_set views id j w u is);
    }

-- fewer numbers are below a lower bound
below-mono : (a b k : ℕ) → a ≤ b → below a k ≤ below b k
below-mono a b k h = ⊎_elim
    (λ (l : k < a). let x = below-at a k l in let y = below-at b k (omega arith) in omega arith)
    (λ (l : a ≤ k). let x = below-past a k l in omega arith) (cases_lt k a)

-- the numbers of a seat with which nothing rests are dealt to it and a new one
pub guard-dealt : (slots : ℕ) (words : List ℕ) (views : List View) (id : ℕ) (v : View) → get_elem? views id ≡ some v →
    IsBare v.resting → v.resting.from < v.resting.to → Guarded slots words views →
    Guarded slots words (set views id (with_first v) ++ with_others v ∷ [])
guard-dealt slots words views id v at bare some_number g =
    let w = with_first v in
    let u = with_others v in
    let first : List View = set views id w in
    let all : List View = first ++ u ∷ [] in
    let cut : (k : ℕ) → numbers w.resting k + numbers u.resting k ≡ numbers v.resting k = λ k.
    let a = below-mono v.resting.from (suc v.resting.from) k (omega arith) in
    let b = below-mono (suc v.resting.from) v.resting.to k (omega arith) in omega arith in
    let number : (k : ℕ) → named all k ≡ named views k = λ k.
    let moved = sum-set (λ (x : View). numbers x.resting k) views id v w at in
    let last = sum-last (λ (x : View). numbers x.resting k) first u in
    let e = cut k in omega arith in
    let unused : (i : ℕ) → numbers v.resting (place_in words slots i) ≡ 0 = bare-unused slots words views id v at bare g in
    record {
      once = λ k. let e = number k in let old = g.once k in omega arith;
      nobody = number 0 ∙ g.nobody;
      numbered = λ i there. number (place_in words slots i) ∙ g.numbered i there;
      counts = λ i.
          let p = place_in words slots i in
          let gets = sum-set (λ (x : View). bag x.resting.gets i) views id v w at in
          let puts = sum-set (λ (x : View). bag x.resting.puts i) views id v w at in
          let outs = sum-set (λ (x : View). out_at x.resting p i) views id v w at in
          let last_gets = sum-last (λ (x : View). bag x.resting.gets i) first u in
          let last_puts = sum-last (λ (x : View). bag x.resting.puts i) first u in
          let last_outs = sum-last (λ (x : View). out_at x.resting p i) first u in
          let none = bag-nil i in
          let e = cut p in
          let no = unused i in
          let old = g.counts i in omega arith;
      keeps = λ j x is. ⊎_elim
          (λ old. ⊎_elim
          (λ here k i own there. absurd
          (let own_w : 0 < numbers w.resting k = subst (λ (y : View). 0 < numbers y.resting k) (sym here.1) own in
          let e = cut k in let no = subst (λ (n : ℕ). numbers v.resting n ≡ 0) there (unused i) in omega arith))
          (λ else. g.keeps j x else.1) (at_set views id j w x old))
          (λ new k i own there. absurd
          (let own_u : 0 < numbers u.resting k = subst (λ (y : View). 0 < numbers y.resting k) (sym new) own in
          let e = cut k in let no = subst (λ (n : ℕ). numbers v.resting n ≡ 0) there (unused i) in omega arith))
          (at_snoc first u x j is);
    }
