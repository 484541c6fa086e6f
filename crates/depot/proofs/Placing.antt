-- A step that writes an element's place, or reads it.
use Rattle.std.proofs.Common.{◌≡◌, ◌≢◌, ◌⊎◌, ℕ, ◌+◌, ◌<◌, ◌≤◌, List, Option, length, set, sym, ap, ◌∙◌, subst, ⊎_elim, arith}
use Rattle.std.specs.Prelude.{IfSome}
use Rattle.std.proofs.lemmas.Bool.{cases_eq}
use Rattle.std.proofs.lemmas.List.{length-set}
use mathlib.Core.Option.{some}
use lib.ListN.{get_elem?}
use Rattle.atomic_table.specs.Table.{keeps, stepped}
use Rattle.atomic_table.proofs.Lists.{at_set}
use Rattle.commons.specs.Bag.{bag}
use Rattle.depot.specs.declared.view.Stack.{Stack}
use Rattle.depot.specs.declared.view.Look.{Look}
use Rattle.depot.specs.declared.view.Chain.{Chain}
use Rattle.depot.specs.declared.view.Resting.{Resting}
use Rattle.depot.specs.declared.view.Shape.{Shape}
use Rattle.depot.specs.declared.view.View.{View}
use Rattle.depot.specs.Bags.{total}
use Rattle.depot.specs.Heads.{top_of, count_of}
use Rattle.depot.specs.Layout.{place_at, head_in, link_in, place_in}
use Rattle.depot.specs.Resting.{numbers, out_at, rests, named, got, put_out, out_with, Keeps, Guarded}
use Rattle.depot.specs.Rule.{Sat, Depoted, hand_of, out_of, Linked, Sees, Chained, Knows, Ruled}
use Rattle.depot.proofs.Bags.{below-inside}
use Rattle.depot.proofs.Totals.{sum-set, sum-one, sum-two}
use Rattle.depot.proofs.Links.{linked-else, linked-top, head-kept, link-other, link-set}
use Rattle.depot.proofs.Stepping.{mine, on-stack, is_some}

-- an element, whose place has this number, was got as often as it was put, and once more where it
-- is out
abbrev pub Counts : List View → ℕ → ℕ → Type 0
Counts views i k = got views i ≡ put_out views i + out_with views k i

-- a seat has marked an element, or lists it
abbrev pub IsKept : Resting → ℕ → Type 0
IsKept r i = 0 < bag r.marks i + bag r.listed i

-- what a seat's new view knows of a place's new word
pub record Moves (slots : ℕ) (words new : List ℕ) (views : List View) (id : ℕ) (v w : View)
    (i : ℕ) : Type 0 where
  pub same_numbers : (k : ℕ) → numbers w.resting k ≡ numbers v.resting k
  pub else : (j : ℕ) → j ≢ i → place_in new slots j ≡ place_in words slots j
  -- the place is as it was, or has a number of the seat, or none
  pub here : (place_in new slots i ≡ place_in words slots i)
      ⊎ ((numbers v.resting (place_in new slots i) ≡ 1) ⊎ (place_in new slots i ≡ 0))
  pub counts : Counts (set views id w) i (place_in new slots i)
  pub others : (j k : ℕ) → j ≢ i →
      bag w.resting.gets j + bag v.resting.puts j + out_at v.resting k j
      ≡ bag v.resting.gets j + bag w.resting.puts j + out_at w.resting k j
  pub its : Keeps slots new w.resting

module _ (slots : ℕ) (words new : List ℕ) (views : List View) (g : Guarded slots words views)
    (id : ℕ) (v w : View)
    (at : get_elem? views id ≡ some v) (i : ℕ) (m : Moves slots words new views id v w i) where
  named-same : (k : ℕ) → named (set views id w) k ≡ named views k
  named-same k =
      let moved = sum-set (λ (u : View). numbers u.resting k) views id v w at in
      let e = m.same_numbers k in omega arith

  -- no other seat's number is new at a place
  foreign : (j : ℕ) (u : View) → j ≢ id → get_elem? views j ≡ some u →
      0 < numbers u.resting (place_in new slots i) →
      place_in new slots i ≡ place_in words slots i
  foreign j u n is mine =
      ⊎_elim (λ e. e)
      (λ h. ⊎_elim (λ own. let both =
      sum-two (λ (x : View). numbers x.resting (place_in new slots i)) views j id u v n is at in
      let most = g.once (place_in new slots i) in absurd (omega arith))
      (λ nobody. let none = subst (λ (k : ℕ). named views k ≡ 0) (sym nobody) g.nobody in
      let one_of = sum-one (λ (x : View). numbers x.resting (place_in new slots i)) views j u is in
      absurd (omega arith)) h) m.here

  pub guard-moved : Guarded slots new (set views id w)
  guard-moved = record {
    once = λ k. let e = named-same k in let old = g.once k in omega arith;
    nobody = named-same 0 ∙ g.nobody;
    numbered = λ j there. ⊎_elim
        (λ (e : j ≡ i). subst
        (λ (x : ℕ). 0 < place_in new slots x →
        named (set views id w) (place_in new slots x) ≡ 1) (sym e)
        (λ some_there. named-same (place_in new slots i) ∙ ⊎_elim
        (λ same. subst (λ (k : ℕ). named views k ≡ 1) (sym same)
        (g.numbered i (subst (λ (k : ℕ). 0 < k) same some_there)))
        (λ h. ⊎_elim (λ own. let least =
        sum-one (λ (x : View). numbers x.resting (place_in new slots i)) views id v at in
        let most = g.once (place_in new slots i) in
        let is : named views (place_in new slots i) ≡ 1 = omega arith in is)
        (λ nobody. absurd (omega arith)) h) m.here) there)
        (λ (n : j ≢ i). named-same (place_in new slots j)
        ∙ subst (λ (k : ℕ). named views k ≡ 1) (sym (m.else j n))
        (g.numbered j (subst (λ (k : ℕ). 0 < k) (m.else j n) there))) (cases_eq j i);
    counts = λ j. ⊎_elim
        (λ (e : j ≡ i). subst (λ (x : ℕ). Counts (set views id w) x (place_in new slots x))
        (sym e) m.counts)
        (λ (n : j ≢ i).
        let p = place_in words slots j in
        let gets = sum-set (λ (x : View). bag x.resting.gets j) views id v w at in
        let puts = sum-set (λ (x : View). bag x.resting.puts j) views id v w at in
        let outs = sum-set (λ (x : View). out_at x.resting p j) views id v w at in
        let old = g.counts j in
        let local = m.others j p n in
        let is : Counts (set views id w) j p = omega arith in
        subst (Counts (set views id w) j) (sym (m.else j n)) is) (cases_eq j i);
    keeps = λ j u is. ⊎_elim
        (λ here. subst (λ (x : View). Keeps slots new x.resting) here.1 m.its)
        (λ other k x its there. ⊎_elim
        (λ (e : x ≡ i).
        let at_i : place_in new slots i ≡ k = subst (λ (y : ℕ). place_in new slots y ≡ k) e there in
        let same = foreign j u other.0 other.1
        (subst (λ (y : ℕ). 0 < numbers u.resting y) (sym at_i) its) in
        subst (IsKept u.resting) (sym e)
        (g.keeps j u other.1 k i its (sym same ∙ at_i)))
        (λ (n : x ≢ i). g.keeps j u other.1 k x its (sym (m.else x n) ∙ there)) (cases_eq x i))
        (at_set views id j w u is);
  }

-- the word of an element's place is written
module _ (p : Shape) (s : Depoted) (r : Ruled p s) (id : ℕ) (me : Sat)
    (at : get_elem? s.views id ≡ some me.0)
    (i x : ℕ) (inside : i < p.places) where
  abbrev slots : ℕ
  slots = length s.homes

  abbrev place : ℕ
  place = place_in s.words slots i

  abbrev new : List ℕ
  new = set s.words (place_at slots i) x

  pub place-new : place_in new slots i ≡ x
  place-new = link-set s.words (slots + i) x (let e = r.words in omega arith)

  pub place-else : (j : ℕ) → j ≢ i → place_in new slots j ≡ place_in s.words slots j
  place-else j n = link-other s.words (slots + i) x (slots + j) (λ e. n (omega arith))

  pub place-kept : (w : View) → out_of w ≡ out_of me.0 → w.look ≡ me.0.look → w.chain ≡ me.0.chain →
      w.population ≡ me.0.population → w.rounds ≡ me.0.rounds →
      ((j : ℕ) → bag w.hand j + rests (place_in new slots j) ≡ bag me.0.hand j
      + rests (place_in s.words slots j)) →
      Moves slots s.words new s.views id me.0 w i →
      Ruled p (stepped s (place_at slots i) x id me.1 w keeps)
  place-kept w out look chain population rounds hand moves =
      let own = mine p s r id me at in
      let link : (m : ℕ) → m < slots → link_in new m ≡ link_in s.words m = λ m h.
      link-other s.words (slots + i) x m (λ e. absurd (omega arith)) in
      let heads : (k : Stack) → head_in new k ≡ head_in s.words k =
      λ k. head-kept s.words (slots + i) x k in
      let on : (k : Stack) (m : ℕ) → 0 < bag (r.stacks k) m → m < slots = λ k m there.
      (on-stack p s r id me at k m there).0 in
      let away : (k : Stack) → bag (r.stacks k) (slots + i) ≡ 0 = λ k.
      ⊎_elim (λ (e : bag (r.stacks k) (slots + i) ≡ 0). e)
      (λ n. let inside_it = on k (slots + i) (omega arith) in absurd (omega arith))
      (cases_eq (bag (r.stacks k) (slots + i)) 0) in
      let has : (id : ℕ) (v : View) (m : ℕ) → get_elem? s.views id ≡ some v → 0 < bag v.out m →
      m < slots =
      λ j v m is there. let one_of = sum-one (λ (u : View). bag (out_of u) m) s.views j v is in
      let all = r.places m in below-inside (length s.homes) m (omega arith) in
      let sees : (l : Look) → Sees s.words l → Sees new l = λ l old. record {
        later = subst (λ (h : ℕ). count_of l.head ≤ count_of h) (sym (heads l.stack)) old.later;
        link = λ j is top.
            let was : l.head ≡ head_in s.words l.stack = is ∙ heads l.stack in
            let there : 0 < bag (r.stacks l.stack) j =
            linked-top s.words _ j (r.stacks l.stack) (r.linked l.stack)
            (ap top_of (sym was) ∙ top) in
            link j (on l.stack j there) ∙ old.link j was top;
      } in
      let chained : (j : ℕ) (v : View) (c : Chain) → get_elem? s.views j ≡ some v →
      Chained s.words v.out c →
      Chained new v.out c = λ j v c is old. record {
        out = old.out;
        link = link c.magazine (has j v c.magazine is old.out) ∙ old.link;
      } in
      let knows : (j : ℕ) (v : View) → get_elem? s.views j ≡ some v → Knows p new v = λ j v is.
      let old = r.known j v is in
      record {
        population = old.population;
        rounds = old.rounds;
        look = is_some v.look sees old.look;
        chain = is_some v.chain (λ c was. chained j v c is was) old.chain;
      } in
      let outs : (m : ℕ) → total out_of (set s.views id w) m ≡ total out_of s.views m = λ m.
      let moved = sum-set (λ (v : View). bag (out_of v) m) s.views id me.0 w at in
      let same : bag (out_of w) m ≡ bag (out_of me.0) m = ap (λ xs. bag xs m) out in
      omega arith in
      record {
        stacks = r.stacks;
        room = r.room;
        words = length-set s.words (place_at slots i) x ∙ r.words;
        links = λ m within. let same = link m within in let old = r.links m within in omega arith;
        linked = λ k. subst (λ (h : ℕ). Linked new (top_of h) (r.stacks k)) (sym (heads k))
            (linked-else s.words new (slots + i) (λ m n. link-other s.words (slots + i) x m n)
            (top_of (head_in s.words k)) (r.stacks k) (away k) (r.linked k));
        places = λ m. let old = r.places m in let more = outs m in omega arith;
        lone = r.lone;
        elements = λ j.
            let old = r.elements j in
            let moved = sum-set (λ (v : View). bag (hand_of v) j) s.views id me.0 w at in
            let local = hand j in
            omega arith;
        home = r.home;
        out = λ m there. r.out m (let more = outs m in omega arith);
        guarded = guard-moved slots s.words new s.views r.guarded id me.0 w at i moves;
        known = λ j v is. ⊎_elim
            (λ here. subst (Knows p new) here.1
            (let mine_now = knows id me.0 at in record {
              population = subst (λ (o : Option ℕ). IfSome o (λ n. n ≡ p.population))
                  (sym population) mine_now.population;
              rounds = subst (λ (o : Option ℕ). IfSome o (λ n. n ≡ p.rounds))
                  (sym rounds) mine_now.rounds;
              look = subst (λ (o : Option Look). IfSome o (Sees new)) (sym look) mine_now.look;
              chain = subst (λ (o : Option Chain). IfSome o (Chained new w.out)) (sym chain)
                  (subst (λ (xs : List ℕ). IfSome me.0.chain (Chained new xs))
                  (sym out) mine_now.chain);
            }))
            (λ other. knows j v other.1) (at_set s.views id j w v is);
      }
