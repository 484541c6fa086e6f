-- Each of the five steps keeps the rule, and answers its seat what its contract says.
use Rattle.std.proofs.Common.{◌≡◌, ◌≢◌, ℕ, suc, ◌+◌, ◌-◌, ◌<◌, ◌≤◌, List, [], ◌∷◌, Option, Some, None, length, set, refl, sym, ap, ◌∙◌, subst, ⊎_elim, arith}
use Rattle.std.specs.Prelude.{slice_index, IfSome, unwrap_or}
use Rattle.std.proofs.lemmas.Bool.{cases_eq}
use Rattle.std.proofs.lemmas.List.{length-set}
use mathlib.Core.Option.{some, none}
use lib.ListN.{get_elem?}
use Rattle.atomic_table.specs.Table.{step, keeps, stepped, Allows}
use Rattle.atomic_table.proofs.Lists.{at_set}
use Rattle.commons.specs.Bag.{bag}
use Rattle.depot.specs.declared.view.Stack.{Stack}
use Rattle.depot.specs.declared.view.Stack.TheVariants.{Full, Partial, Empty}
use Rattle.depot.specs.declared.view.Look.{Look}
use Rattle.depot.specs.declared.view.Chain.{Chain}
use Rattle.depot.specs.declared.view.Shape.{Shape}
use Rattle.depot.specs.declared.view.View.{View}
use Rattle.depot.specs.Answers.{looked, linked, relinked, chained, noting, IsOwned, loads_head, loads_link, stores_link, notes}
use Rattle.depot.specs.Bags.{below, total}
use Rattle.depot.specs.Heads.{top_of, count_of}
use Rattle.depot.specs.Layout.{head_at, link_at, head_in, link_in, place_in}
use Rattle.depot.specs.Resting.{rests, Guarded}
use Rattle.depot.specs.Rule.{Sat, Depoted, hand_of, out_of, Linked, Sees, Chained, Knows, Ruled, rounds_of}
use Rattle.depot.proofs.Bags.{below-le, below-past, below-inside}
use Rattle.depot.proofs.Guarding.{guard-view, guard-words}
use Rattle.depot.proofs.Totals.{sum-set, sum-one, sum-two}
use Rattle.depot.proofs.Links.{linked-else, linked-top, head-kept, link-other, link-set, stack-at, words-kept}

module _ (p : Shape) (s : Depoted) (r : Ruled p s) (id : ℕ) (me : Sat) (at : get_elem? s.views id ≡ some me.0) where
  -- what the seat knows is so
  pub mine : Knows p s.words me.0
  mine = r.known id me.0 at

  -- how many rounds a magazine has, where the seat knows it
  pub rounds-are : (n : ℕ) → me.0.rounds ≡ Some n → rounds_of me.0 ≡ p.rounds
  rounds-are n is =
      ap (λ (o : Option ℕ). unwrap_or o 0) is
      ∙ subst (λ (o : Option ℕ). IfSome o (λ x. x ≡ p.rounds)) is mine.rounds

  -- a view that has what the seat's view has, and knows what is so
  pub re-viewed : (w : View) → hand_of w ≡ hand_of me.0 → out_of w ≡ out_of me.0 → Knows p s.words w →
      Guarded (length s.homes) s.words (set s.views id w) →
      Ruled p (record { words = s.words; homes = s.homes; views = set s.views id w })
  re-viewed w hand out knows guarded =
      let hands : (i : ℕ) → total hand_of (set s.views id w) i ≡ total hand_of s.views i = λ i.
      let moved = sum-set (λ (v : View). bag (hand_of v) i) s.views id me.0 w at in
      let same : bag (hand_of w) i ≡ bag (hand_of me.0) i = ap (λ xs. bag xs i) hand in
      omega arith in
      let outs : (i : ℕ) → total out_of (set s.views id w) i ≡ total out_of s.views i = λ i.
      let moved = sum-set (λ (v : View). bag (out_of v) i) s.views id me.0 w at in
      let same : bag (out_of w) i ≡ bag (out_of me.0) i = ap (λ xs. bag xs i) out in
      omega arith in
      record {
        stacks = r.stacks;
        room = r.room;
        words = r.words;
        links = r.links;
        linked = r.linked;
        places = λ m. let old = r.places m in let more = outs m in omega arith;
        lone = r.lone;
        elements = λ i. let old = r.elements i in let more = hands i in omega arith;
        home = r.home;
        out = λ m some_out. r.out m (let more = outs m in omega arith);
        guarded = guarded;
        known = λ j v there. ⊎_elim (λ here. subst (Knows p s.words) here.1 knows) (λ else. r.known j v else.1)
            (at_set s.views id j w v there);
      }

  -- a load leaves the words as they were
  pub loads-guarded : (i : ℕ) (w : View) → hand_of w ≡ hand_of me.0 → out_of w ≡ out_of me.0 → Knows p s.words w →
      Guarded (length s.homes) s.words (set s.views id w) →
      Ruled p (stepped s i (slice_index s.words i) id me.1 w keeps)
  loads-guarded i w hand out knows guarded =
      subst (λ (words : List ℕ). Ruled p (record { words = words; homes = s.homes; views = set s.views id w }))
      (sym (words-kept s.words i)) (re-viewed w hand out knows guarded)

  -- and mostly all that rests
  pub loads : (i : ℕ) (w : View) → hand_of w ≡ hand_of me.0 → out_of w ≡ out_of me.0 → w.resting ≡ me.0.resting →
      Knows p s.words w → Ruled p (stepped s i (slice_index s.words i) id me.1 w keeps)
  loads i w hand out same knows =
      loads-guarded i w hand out knows
      (guard-view (length s.homes) s.words s.views id me.0 w at same r.guarded)

  -- a magazine that stands on a stack is one of the depot's, and no seat has it
  pub on-stack : (k : Stack) (m : ℕ) → 0 < bag (r.stacks k) m →
      (m < length s.homes) × (total out_of s.views m ≡ 0)
  on-stack Full m some_there =
      let all = r.places m in
      let most = below-le (length s.homes) m in
      (below-inside (length s.homes) m (omega arith), omega arith)
  on-stack Partial m some_there =
      let all = r.places m in
      let most = below-le (length s.homes) m in
      (below-inside (length s.homes) m (omega arith), omega arith)
  on-stack Empty m some_there =
      let all = r.places m in
      let most = below-le (length s.homes) m in
      (below-inside (length s.homes) m (omega arith), omega arith)

  -- one that a seat has stands on no stack
  pub not-on-stack : (k : Stack) (m : ℕ) → 0 < total out_of s.views m → bag (r.stacks k) m ≡ 0
  not-on-stack Full m out = let all = r.places m in let most = below-le (length s.homes) m in omega arith
  not-on-stack Partial m out = let all = r.places m in let most = below-le (length s.homes) m in omega arith
  not-on-stack Empty m out = let all = r.places m in let most = below-le (length s.homes) m in omega arith

  inside : (k : Stack) (top : ℕ) (ms : List ℕ) → Linked s.words top ms →
      ((m : ℕ) → 0 < bag ms m → m < length s.homes) → top ≤ length s.homes
  inside k top [] is there = omega arith
  inside k top (m ∷ ms) is there =
      let first = there m (linked-top s.words top m (m ∷ ms) is is.0) in
      let e = is.0 in
      omega arith

  -- a stack's top is one of the depot's magazines + 1, or 0
  pub top-inside : (k : Stack) → top_of (head_in s.words k) ≤ length s.homes
  top-inside k =
      inside k (top_of (head_in s.words k)) (r.stacks k) (r.linked k) (λ m there. (on-stack k m there).0)

-- the load of a head
pub head_loads : (p : Shape) (slots id : ℕ) (me : Sat) (k : Stack) →
    Allows (Ruled p) slots id me (head_at k) (λ n. n) (loads_head (step slots (head_at k) 0 0 none) me)
head_loads p slots id me k s r many at small =
    let h = head_in s.words k in
    let link : ℕ = link_in s.words (top_of h - 1) in
    let w = looked me.0 k h link in
    let knows : Knows p s.words w = record {
      population = (mine p s r id me at).population;
      rounds = (mine p s r id me at).rounds;
      look = record {
        later = omega arith;
        link = λ m is top. ap (λ (j : ℕ). link_in s.words j) (omega arith);
      };
      chain = (mine p s r id me at).chain;
    } in
    let top = top-inside p s r id me at k in (
      w,
      keeps,
      tt,
      loads p s r id me at (head_at k) w refl refl refl knows,
      (link, ap (λ (j : Stack). (looked me.0 j h link, me.1)) (sym (stack-at k)), omega arith),
    )

-- what the load of a link leaves known of the look
relooks : (p : Shape) (s : Depoted) (r : Ruled p s) (look : Option Look) (m : ℕ) → IfSome look (Sees s.words) →
    ((l : Look) → look ≡ Some l → top_of l.head ≡ suc m) → IfSome (relinked look (link_in s.words m)) (Sees s.words)
relooks p s r None m sees of = tt
relooks p s r (Some l) m sees of = record {
  later = sees.later;
  link = λ j is top. let e = of l refl in ap (λ (i : ℕ). link_in s.words i) (omega arith);
}

-- the load of a link
pub link_loads : (p : Shape) (slots id : ℕ) (me : Sat) (m : ℕ) → m < slots →
    ((l : Look) → me.0.look ≡ Some l → top_of l.head ≡ suc m) →
    Allows (Ruled p) slots id me (link_at m) (λ n. n) (loads_link (step slots (link_at m) 0 0 none) me)
link_loads p slots id me m inside_it of s r many at small =
    let link = link_in s.words m in
    let w = linked me.0 link in
    let own = mine p s r id me at in
    let knows : Knows p s.words w = record {
      population = own.population;
      rounds = own.rounds;
      look = relooks p s r me.0.look m own.look of;
      chain = own.chain;
    } in
    let range = r.links m (omega arith) in
    (w, keeps, tt, loads p s r id me at (link_at m) w refl refl refl knows, (refl, omega arith))

-- the load that notes what is in the seat's magazines
pub quiet_loads : (p : Shape) (slots id : ℕ) (me : Sat) →
    Allows (Ruled p) slots id me 0 (λ n. n) (notes (step slots 0 0 0 none) me)
quiet_loads p slots id me s r many at small =
    let w = noting me.0 me.1 in
    let own = mine p s r id me at in
    let knows : Knows p s.words w =
    record { population = own.population; rounds = own.rounds; look = own.look; chain = own.chain } in
    let hand : (i : ℕ) → bag me.0.hand i ≤ below p.population i = λ i.
    let all = r.elements i in
    let one_of = sum-one (λ (v : View). bag (hand_of v) i) s.views id me.0 at in
    omega arith in
    let out : (m : ℕ) → bag me.0.out m ≤ below slots m = λ m.
    let all = r.places m in
    let one_of = sum-one (λ (v : View). bag (out_of v) m) s.views id me.0 at in
    let same : below (length s.homes) m ≡ below slots m = ap (λ (n : ℕ). below n m) (omega arith) in
    omega arith in
    let owned : IsOwned slots me.0 = record {
      once = λ i. let h = hand i in let most = below-le p.population i in omega arith;
      magazines = out;
      below = λ q i is past.
          let same : q ≡ p.population =
          subst (λ (o : Option ℕ). IfSome o (λ x. x ≡ p.population)) is own.population in
          let h = hand i in let none_there = below-past p.population i (omega arith) in omega arith;
    } in
    (w, keeps, tt, loads p s r id me at 0 w refl refl refl knows, (refl, owned))

-- what follows of each value follows of one that may be there
pub is_some : {X : Type 0} {P Q : X → Type 0} (o : Option X) → ((x : X) → P x → Q x) → IfSome o P → IfSome o Q
is_some None f h = tt
is_some (Some x) f h = f x h

-- the store of a link of a magazine that is out with the seat
pub link_stores : (p : Shape) (slots id : ℕ) (me : Sat) (m x : ℕ) → 0 < bag me.0.out m → x ≤ slots →
    Allows (Ruled p) slots id me (link_at m) (λ _. x) (λ _. stores_link (step slots (link_at m) x 0 none) me x)
link_stores p slots id me m x out_there range s r many at small =
    let w = chained me.0 m x in
    let own = mine p s r id me at in
    let new = set s.words (link_at m) x in
    let held : 0 < total out_of s.views m =
    let one_of = sum-one (λ (v : View). bag (out_of v) m) s.views id me.0 at in omega arith in
    let in_depot : m < length s.homes =
    let all = r.places m in below-inside (length s.homes) m (omega arith) in
    let there : link_at m < length s.words = let e = r.words in omega arith in
    let places : (i : ℕ) → place_in new (length s.homes) i ≡ place_in s.words (length s.homes) i = λ i.
    link-other s.words m x (length s.homes + i) (λ e. absurd (omega arith)) in
    let else : (j : ℕ) → j ≢ m → link_in new j ≡ link_in s.words j = λ j n. link-other s.words m x j n in
    let heads : (k : Stack) → head_in new k ≡ head_in s.words k = λ k. head-kept s.words m x k in
    let sees : (l : Look) → Sees s.words l → Sees new l = λ l old. record {
      later = subst (λ (h : ℕ). count_of l.head ≤ count_of h) (sym (heads l.stack)) old.later;
      link = λ j is top.
          let was : l.head ≡ head_in s.words l.stack = is ∙ heads l.stack in
          let on : 0 < bag (r.stacks l.stack) j =
          linked-top s.words _ j (r.stacks l.stack) (r.linked l.stack) (ap top_of (sym was) ∙ top) in
          let apart : j ≢ m = λ e.
          let none_there = not-on-stack p s r id me at l.stack m held in
          let some_there = subst (λ (i : ℕ). 0 < bag (r.stacks l.stack) i) e on in
          absurd (omega arith) in
          else j apart ∙ old.link j was top;
    } in
    let looks : (look : Option Look) → IfSome look (Sees s.words) → IfSome look (Sees new) = λ look.
    is_some look sees in
    let knows : Knows p new w = record {
      population = own.population;
      rounds = own.rounds;
      look = looks me.0.look own.look;
      chain = record { out = out_there; link = link-set s.words m x there };
    } in
    let chains : (j : ℕ) (v : View) → j ≢ id → get_elem? s.views j ≡ some v → (c : Chain) →
    Chained s.words v.out c → Chained new v.out c = λ j v other is c old.
    let apart : c.magazine ≢ m = λ e.
    let both = sum-two (λ (u : View). bag (out_of u) m) s.views j id v me.0 other is at in
    let has = subst (λ (i : ℕ). 0 < bag v.out i) e old.out in
    let all = r.places m in let most = below-le (length s.homes) m in absurd (omega arith) in
    record { out = old.out; link = else c.magazine apart ∙ old.link } in
    let outs : (i : ℕ) → total out_of (set s.views id w) i ≡ total out_of s.views i = λ i.
    let moved = sum-set (λ (v : View). bag (out_of v) i) s.views id me.0 w at in omega arith in
    let hands : (i : ℕ) → total hand_of (set s.views id w) i ≡ total hand_of s.views i = λ i.
    let moved = sum-set (λ (v : View). bag (hand_of v) i) s.views id me.0 w at in omega arith in
    let after : Ruled p (stepped s (link_at m) x id me.1 w keeps) = record {
      stacks = r.stacks;
      room = r.room;
      words = length-set s.words (link_at m) x ∙ r.words;
      links = λ j within. ⊎_elim
          (λ (e : j ≡ m). subst (λ (i : ℕ). link_in new i ≤ length s.homes) (sym e)
          (let is = link-set s.words m x there in omega arith))
          (λ (n : j ≢ m). let is = else j n in let old = r.links j within in omega arith) (cases_eq j m);
      linked = λ k. subst (λ (h : ℕ). Linked new (top_of h) (r.stacks k)) (sym (heads k))
          (linked-else s.words new m else (top_of (head_in s.words k)) (r.stacks k)
          (not-on-stack p s r id me at k m held) (r.linked k));
      places = λ j. let old = r.places j in let more = outs j in omega arith;
      lone = r.lone;
      elements = λ i. let old = r.elements i in let more = hands i in let rest = ap rests (places i) in omega arith;
      home = r.home;
      guarded = guard-words (length s.homes) s.words new (set s.views id w) places
          (guard-view (length s.homes) s.words s.views id me.0 w at refl r.guarded);
      out = λ j some_out. r.out j (let more = outs j in omega arith);
      known = λ j v is. ⊎_elim (λ here. subst (Knows p new) here.1 knows)
          (λ other. let old = r.known j v other.1 in record {
            population = old.population;
            rounds = old.rounds;
            look = looks v.look old.look;
            chain = is_some v.chain (chains j v other.0 other.1) old.chain;
          }) (at_set s.views id j w v is);
    } in (
      w,
      keeps,
      tt,
      after,
      ap (λ (i : ℕ). (chained me.0 i x, me.1)) (omega arith),
    )

-- the same at a word that is known to be the head's
pub head_loads_at : (p : Shape) (slots id : ℕ) (me : Sat) (k : Stack) (word : ℕ) → word ≡ head_at k →
    Allows (Ruled p) slots id me word (λ n. n) (loads_head (step slots word 0 0 none) me)
head_loads_at p slots id me k word is =
    subst (λ (w : ℕ). Allows (Ruled p) slots id me w (λ n. n) (loads_head (step slots w 0 0 none) me)) (sym is)
    (head_loads p slots id me k)
