-- The exchanges that take a magazine off a stack and put one on it keep the rule, and answer their
-- seat what their contracts say.
use Rattle.std.proofs.Common.{◌≡◌, ◌≢◌, ℕ, suc, ◌+◌, ◌-◌, ◌<◌, ◌≤◌, Bool, eqb, List, [], ◌∷◌, Option, Some, length, set, refl, sym, ap, ◌∙◌, subst, ⊎_elim, arith, eq-eqb, ne_eqb}
use Rattle.std.specs.Prelude.{slice_index, IfSome}
use Rattle.std.proofs.lemmas.Bool.{cases_eq}
use Rattle.std.proofs.lemmas.List.{length-set}
use mathlib.Core.Option as maybe
use mathlib.Core.Option.{some, none}
use mathlib.Core.Logic.{dite}
use native.Mathlib.Decide.{ℕ_discrete}
use lib.ListN.{get_elem?}
use prog.Atomic.{either}
use Rattle.atomic_table.specs.Table.{Act, step, keeps, takes, gives, stepped, Valid, Allows, carried_after, rest}
use Rattle.atomic_table.proofs.Lists.{at_set, set_here, set_else}
use Rattle.commons.specs.Bag.{bag, one}
use Rattle.commons.proofs.Bags.{bag-nil, bag-cons, bag-append, one-same}
use Rattle.depot.specs.declared.view.Stack.{Stack}
use Rattle.depot.specs.declared.view.Stack.TheVariants.{Partial}
use Rattle.depot.specs.declared.view.Look.{Look}
use Rattle.depot.specs.declared.view.Chain.{Chain}
use Rattle.depot.specs.declared.view.Shape.{Shape}
use Rattle.depot.specs.declared.view.View.{View}
use Rattle.depot.specs.Answers.{taken, losing, given, take_found, takes_top, give_found, gives_top}
use Rattle.depot.specs.Bags.{below, total, Includes}
use Rattle.depot.specs.Heads.{top_of, count_of, next_head}
use Rattle.depot.specs.Layout.{head_at, stack_at, place_at, head_in, link_in, place_in}
use Rattle.depot.specs.Resting.{rests, Guarded}
use Rattle.depot.specs.Rule.{Sat, Depoted, at_home, hand_of, out_of, Linked, Suits, Sees, Chained, Knows, Ruled, rounds_of}
use Rattle.depot.proofs.Bags.{bag-without, bag-minus, below-le, below-inside, one-cases, one-other}
use Rattle.depot.proofs.Guarding.{guard-view, guard-words}
use Rattle.depot.proofs.Totals.{sum-set, sum-one}
use Rattle.depot.proofs.Links.{linked-kept, linked-top, link-kept, head-set, head-other, each_stack, stack-at, next-top, next-count}
use Rattle.depot.proofs.Stacks.{put, put-here, put-other, put-all, put-lone, on_all, none_on, linked-first, linked-none}
use Rattle.depot.proofs.Stepping.{mine, rounds-are, loads, on-stack, not-on-stack, is_some}

-- a look is true still once a stack has been changed
module _ (words : List ℕ) (k : Stack) (top : ℕ) (long : 32 ≤ length words) (small : top < 65536) where
  abbrev next : ℕ
  next = next_head (head_in words k) top

  abbrev then : List ℕ
  then = set words (head_at k) next

  sees-after : (l : Look) → Sees words l → Sees then l
  sees-after l old =
      each_stack (λ j. (head link : ℕ) → Sees words (record { stack = j; head = head; link = link })
      → Sees then (record { stack = j; head = head; link = link })) k
      (λ head link was.
      let now : head_in then k ≡ next = head-set words k next long in
      let more : count_of next ≡ suc (count_of (head_in words k)) = next-count (head_in words k) top small in
      let later : count_of head ≤ count_of (head_in words k) = was.later in
      record {
        later = subst (λ (x : ℕ). count_of head ≤ count_of x) (sym now) (omega arith);
        link = λ m is e. absurd (let same : count_of head ≡ count_of next = ap count_of (is ∙ now) in omega arith);
      })
      (λ j apart head link was.
      let same : head_in then j ≡ head_in words j = head-other words k j next apart in
      record {
        later = subst (λ (x : ℕ). count_of head ≤ count_of x) (sym same) was.later;
        link = λ m is e. link-kept words k next m ∙ was.link m (is ∙ same) e;
      })
      l.stack l.head l.link old

-- an exchange that has lost
pub lost : (p : Shape) (slots id : ℕ) (me : Sat) (i : ℕ) (s : Depoted) (r : Ruled p s) → get_elem? s.views id ≡ some me.0 →
    Ruled p (stepped s i (slice_index s.words i) id me.1 (losing me.0) keeps)
lost p slots id me i s r at =
    let own = mine p s r id me at in
    loads p s r id me at i (losing me.0) refl refl refl
    (record { population = own.population; rounds = own.rounds; look = own.look; chain = own.chain })

-- the top of a stack is taken
module _ (p : Shape) (s : Depoted) (r : Ruled p s) (id : ℕ) (me : Sat) (at : get_elem? s.views id ≡ some me.0)
    (k : Stack) (m x : ℕ) (look : me.0.look ≡ Some (record { stack = k; head = head_in s.words k; link = x }))
    (top : top_of (head_in s.words k) ≡ suc m) (small : x < 65536) where
  abbrev h : ℕ
  h = next_head (head_in s.words k) x

  abbrev new : List ℕ
  new = set s.words (head_at k) h

  long : 32 ≤ length s.words
  long = let e = r.words in omega arith

  first : (rest : List ℕ) × (r.stacks k ≡ m ∷ rest) × Linked s.words (link_in s.words m) rest
  first = linked-first s.words (top_of (head_in s.words k)) m (r.stacks k) (r.linked k) top

  on : 0 < bag (r.stacks k) m
  on = linked-top s.words (top_of (head_in s.words k)) m (r.stacks k) (r.linked k) top

  pub it : (xs : List ℕ) × (get_elem? s.homes m ≡ some (some xs)) × Suits p.rounds k xs
  it = r.home k m on

  link : link_in s.words m ≡ x
  link = (subst (λ (o : Option Look). IfSome o (Sees s.words)) look (mine p s r id me at).look).link m refl top

  pub take-kept : Ruled p (stepped s (head_at k) h id me.1 (taken me.0 m it.0) (takes m it.0))
  take-kept =
      let own = mine p s r id me at in
      let xs = it.0 in
      let w = taken me.0 m xs in
      let stacks = put k first.0 r.stacks in
      let inside : m < length s.homes = (on-stack p s r id me at k m on).0 in
      let list : (i : ℕ) → bag (r.stacks k) i ≡ one m i + bag first.0 i = λ i.
      ap (λ ms. bag ms i) first.1 ∙ bag-cons m first.0 i in
      let outs : (i : ℕ) → total out_of (set s.views id w) i ≡ total out_of s.views i + one m i = λ i.
      let moved = sum-set (λ (v : View). bag (out_of v) i) s.views id me.0 w at in
      let cons : bag (out_of w) i ≡ one m i + bag (out_of me.0) i = bag-cons m me.0.out i in
      omega arith in
      let hands : (i : ℕ) → total hand_of (set s.views id w) i ≡ total hand_of s.views i + bag xs i = λ i.
      let moved = sum-set (λ (v : View). bag (hand_of v) i) s.views id me.0 w at in
      let cons : bag (hand_of w) i ≡ bag (hand_of me.0) i + bag xs i = bag-append me.0.hand xs i in
      omega arith in
      let homes : (i : ℕ) → total at_home (set s.homes m none) i + bag xs i ≡ total at_home s.homes i = λ i.
      let moved = sum-set (λ (o : maybe.Option (List ℕ)). bag (at_home o) i) s.homes m (some xs) none it.1 in
      let nothing = bag-nil i in
      omega arith in
      let places : (i : ℕ) → on_all stacks i + total out_of (set s.views id w) i
      ≡ below (length s.homes) i = λ i.
      let old = r.places i in
      let all = put-all k first.0 r.stacks i in
      let e = list i in
      let more = outs i in
      omega arith in
      let less : (j : Stack) (i : ℕ) → bag (stacks j) i ≤ bag (r.stacks j) i =
      each_stack (λ j. (i : ℕ) → bag (stacks j) i ≤ bag (r.stacks j) i) k
      (λ i. let e = list i in
      let here : bag (stacks k) i ≡ bag first.0 i = ap (λ ms. bag ms i) (put-here k first.0 r.stacks) in omega arith)
      (λ j apart i. let same : bag (stacks j) i ≡ bag (r.stacks j) i =
      ap (λ ms. bag ms i) (put-other k j first.0 r.stacks apart) in omega arith) in
      let gone : (j : Stack) → bag (stacks j) m ≡ 0 =
      let most = below-le (length s.homes) m in let all = places m in let more = outs m in let once = one-same m in
      none_on stacks m (omega arith) in
      let placed : (i : ℕ) → place_in new (length (set s.homes m none)) i ≡ place_in s.words (length s.homes) i = λ i.
      ap (λ (n : ℕ). place_in new n i) (length-set s.homes m none) ∙ link-kept s.words k h (length s.homes + i) in
      let guarded : Guarded (length (set s.homes m none)) new (set s.views id w) =
      subst (λ (n : ℕ). Guarded n new (set s.views id w)) (sym (length-set s.homes m none))
      (guard-words (length s.homes) s.words new (set s.views id w) (λ i. link-kept s.words k h (length s.homes + i))
      (guard-view (length s.homes) s.words s.views id me.0 w at refl r.guarded)) in
      record {
        stacks = stacks;
        room = let e = length-set s.homes m none in let old = r.room in omega arith;
        words = length-set s.words (head_at k) h ∙ r.words ∙ ap (λ (n : ℕ). place_at n p.places) (sym (length-set s.homes m none));
        links = λ j within. let same = link-kept s.words k h j in
            let e = length-set s.homes m none in let old = r.links j (omega arith) in omega arith;
        linked = each_stack (λ j. Linked new (top_of (head_in new j)) (stacks j)) k
            (subst (λ (ms : List ℕ). Linked new (top_of (head_in new k)) ms) (sym (put-here k first.0 r.stacks))
            (subst (λ (t : ℕ). Linked new t first.0)
            (sym (ap top_of (head-set s.words k h long) ∙ next-top (head_in s.words k) x small))
            (linked-kept s.words new (link-kept s.words k h) x first.0
            (subst (λ (t : ℕ). Linked s.words t first.0) link first.2))))
            (λ j apart. subst (λ (ms : List ℕ). Linked new (top_of (head_in new j)) ms)
            (sym (put-other k j first.0 r.stacks apart))
            (subst (λ (n : ℕ). Linked new (top_of n) (r.stacks j)) (sym (head-other s.words k j h apart))
            (linked-kept s.words new (link-kept s.words k h) (top_of (head_in s.words j)) (r.stacks j) (r.linked j))));
        places = λ i. places i ∙ ap (λ n. below n i) (sym (length-set s.homes m none));
        lone = put-lone k first.0 r.stacks r.lone (λ e.
            let all : length (r.stacks k) ≡ suc (length first.0) = ap (λ (ms : List ℕ). length ms) first.1 in
            let few : length (r.stacks k) ≤ 1 = subst (λ (j : Stack). length (r.stacks j) ≤ 1) (sym e) r.lone in
            omega arith);
        elements = λ i. let old = r.elements i in let more = hands i in let fewer = homes i in
            let rest = ap rests (placed i) in omega arith;
        guarded = guarded;
        home = λ j i there.
            let had = less j i in
            let old = r.home j i (omega arith) in
            let apart : i ≢ m = λ e. let none_there = gone j in
            let some_there = subst (λ (n : ℕ). 0 < bag (stacks j) n) e there in absurd (omega arith) in
            (old.0, set_else s.homes m i none apart ∙ old.1, old.2);
        out = λ i there. ⊎_elim
            (λ (e : i ≡ m). subst (λ (n : ℕ). get_elem? (set s.homes m none) n ≡ some none) (sym e)
            (set_here s.homes m none inside))
            (λ (n : i ≢ m). set_else s.homes m i none n
            ∙ r.out i (let more = outs i in let other = one-other i m n in omega arith)) (cases_eq i m);
        known = λ j v is. ⊎_elim
            (λ here. subst (Knows p new) here.1 (record {
              population = own.population;
              rounds = own.rounds;
              look = is_some me.0.look (sees-after s.words k x long small) own.look;
              chain = is_some me.0.chain (λ c old. record {
                out = let cons = bag-cons m me.0.out c.magazine in let has = old.out in omega arith;
                link = link-kept s.words k h c.magazine ∙ old.link;
              }) own.chain;
            }))
            (λ other. let old = r.known j v other.1 in record {
              population = old.population;
              rounds = old.rounds;
              look = is_some v.look (sees-after s.words k x long small) old.look;
              chain = is_some v.chain (λ c was. record {
                out = was.out;
                link = link-kept s.words k h c.magazine ∙ was.link;
              }) old.chain;
            }) (at_set s.views id j w v is);
      }

-- the exchange that takes a stack's top
pub top_takes : (p : Shape) (slots id : ℕ) (me : Sat) (k : Stack) (head m x rounds : ℕ) → me.0.rounds ≡ Some rounds →
    me.0.look ≡ Some (record { stack = k; head = head; link = x }) → top_of head ≡ suc m → x < 65536 →
    Allows (Ruled p) slots id me (head_at k) (λ n. either (eqb n head) (next_head head x) n)
    (takes_top (step slots (head_at k) head (next_head head x) none) me)
top_takes p slots id me k head m x rounds known look top small s r many at bound =
    let n = head_in s.words k in
    let G : Bool → Type 0 = λ b.
    (w : View) × (a : Act (List ℕ)) × Valid s.homes me.1 a
    × Ruled p (stepped s (head_at k) (either b (next_head head x) n) id me.1 w a)
    × take_found b (stack_at (head_at k)) (top_of head) me (w, carried_after me.1 a) in
    dite (ℕ_discrete n head)
    (λ hit.
    let seen : me.0.look ≡ Some (record { stack = k; head = n; link = x }) =
    look ∙ ap (λ (y : ℕ). Some (record { stack = k; head = y; link = x })) (sym hit) in
    let first : top_of n ≡ suc m = ap top_of hit ∙ top in
    let found = it p s r id me at k m x seen first small in
    let after = take-kept p s r id me at k m x seen first small in
    subst G (sym (eq-eqb n head hit)) (
      taken me.0 m found.0,
      takes m found.0,
      found.1,
      subst (λ (y : ℕ). Ruled p (stepped s (head_at k) (next_head y x) id me.1 (taken me.0 m found.0) (takes m found.0))) hit after,
      (
        found.0,
        subst (λ (j : Stack). Suits (rounds_of me.0) j found.0) (sym (stack-at k))
            (subst (λ (n : ℕ). Suits n k found.0) (sym (rounds-are p s r id me at rounds known)) found.2),
        ap (λ (i : ℕ). (taken me.0 i found.0, (i, found.0) ∷ me.1)) (omega arith),
      ),
    ))
    (λ miss. subst G (sym (ne_eqb n head miss))
    (losing me.0, keeps, tt, lost p slots id me (head_at k) s r at, refl))

-- a magazine that is out with the seat is put on a stack
module _ (p : Shape) (s : Depoted) (r : Ruled p s) (id : ℕ) (v : View) (at : get_elem? s.views id ≡ some v)
    (k : Stack) (m : ℕ) (xs : List ℕ) (tail : List (ℕ × List ℕ))
    (chain : v.chain ≡ Some (record { magazine = m; link = top_of (head_in s.words k) }))
    (hand : Includes v.hand xs) (suits : Suits p.rounds k xs)
    (lone : k ≡ Partial → top_of (head_in s.words k) ≡ 0) where
  abbrev me : Sat
  me = (v, (m, xs) ∷ tail)

  abbrev put_head : ℕ
  put_head = next_head (head_in s.words k) (suc m)

  abbrev put_words : List ℕ
  put_words = set s.words (head_at k) put_head

  pub give-kept : Ruled p (stepped s (head_at k) put_head id me.1 (given v me.1) gives)
  give-kept =
      let own = mine p s r id me at in
      let w = given v me.1 in
      let stacks = put k (m ∷ r.stacks k) r.stacks in
      let long : 32 ≤ length s.words = let e = r.words in omega arith in
      let its = subst (λ (o : Option Chain). IfSome o (Chained s.words v.out)) chain own.chain in
      let has : 0 < bag v.out m = its.out in
      let held : 0 < total out_of s.views m =
      let one_of = sum-one (λ (u : View). bag (out_of u) m) s.views id v at in omega arith in
      let inside : m < length s.homes = let all = r.places m in below-inside (length s.homes) m (omega arith) in
      let small : suc m < 65536 = let room = r.room in omega arith in
      let away : get_elem? s.homes m ≡ some none = r.out m held in
      let link : link_in s.words m ≡ top_of (head_in s.words k) = its.link in
      let list : (i : ℕ) → bag (m ∷ r.stacks k) i ≡ one m i + bag (r.stacks k) i = λ i. bag-cons m (r.stacks k) i in
      let counted : (i : ℕ) → one m i ≤ bag v.out i = λ i. ⊎_elim
      (λ a. let e = a.1 in let there = subst (λ (j : ℕ). 0 < bag v.out j) a.0 has in omega arith)
      (λ b. let e = b.1 in omega arith) (one-cases m i) in
      let outs : (i : ℕ) → total out_of (set s.views id w) i + one m i ≡ total out_of s.views i = λ i.
      let moved = sum-set (λ (u : View). bag (out_of u) i) s.views id v w at in
      let fewer : bag (out_of w) i ≡ bag (out_of v) i - one m i = bag-without i m v.out in
      let within = counted i in
      omega arith in
      let hands : (i : ℕ) → total hand_of (set s.views id w) i + bag xs i ≡ total hand_of s.views i = λ i.
      let moved = sum-set (λ (u : View). bag (hand_of u) i) s.views id v w at in
      let fewer : bag (hand_of w) i ≡ bag (hand_of v) i - bag xs i = bag-minus i v.hand xs in
      let within = hand i in
      omega arith in
      let homes : (i : ℕ) → total at_home (set s.homes m (some xs)) i ≡ total at_home s.homes i + bag xs i = λ i.
      let moved = sum-set (λ (o : maybe.Option (List ℕ)). bag (at_home o) i) s.homes m none (some xs) away in
      let nothing = bag-nil i in
      omega arith in
      let places : (i : ℕ) → on_all stacks i + total out_of (set s.views id w) i
      ≡ below (length s.homes) i = λ i.
      let old = r.places i in
      let all = put-all k (m ∷ r.stacks k) r.stacks i in
      let e = list i in
      let more = outs i in
      omega arith in
      let gone : total out_of (set s.views id w) m ≡ 0 =
      let most = below-le (length s.homes) m in let all = r.places m in let more = outs m in let once = one-same m in
      omega arith in
      let placed : (i : ℕ) → place_in put_words (length (set s.homes m (some xs))) i
      ≡ place_in s.words (length s.homes) i = λ i.
      ap (λ (n : ℕ). place_in put_words n i) (length-set s.homes m (some xs))
      ∙ link-kept s.words k put_head (length s.homes + i) in
      let guarded : Guarded (length (set s.homes m (some xs))) put_words (set s.views id w) =
      subst (λ (n : ℕ). Guarded n put_words (set s.views id w)) (sym (length-set s.homes m (some xs)))
      (guard-words (length s.homes) s.words put_words (set s.views id w)
      (λ i. link-kept s.words k put_head (length s.homes + i))
      (guard-view (length s.homes) s.words s.views id v w at refl r.guarded)) in
      record {
        stacks = stacks;
        room = let e = length-set s.homes m (some xs) in let old = r.room in omega arith;
        words = length-set s.words (head_at k) put_head ∙ r.words ∙ ap (λ (n : ℕ). place_at n p.places) (sym (length-set s.homes m (some xs)));
        links = λ j within. let same = link-kept s.words k put_head j in
            let e = length-set s.homes m (some xs) in let old = r.links j (omega arith) in omega arith;
        linked = each_stack (λ j. Linked put_words (top_of (head_in put_words j)) (stacks j)) k
            (subst (λ (ms : List ℕ). Linked put_words (top_of (head_in put_words k)) ms)
            (sym (put-here k (m ∷ r.stacks k) r.stacks)) (
              ap top_of (head-set s.words k put_head long) ∙ next-top (head_in s.words k) (suc m) small,
              subst (λ (t : ℕ). Linked put_words t (r.stacks k)) (sym (link-kept s.words k put_head m ∙ link))
                  (linked-kept s.words put_words (link-kept s.words k put_head) (top_of (head_in s.words k))
                  (r.stacks k) (r.linked k)),
            ))
            (λ j apart. subst (λ (ms : List ℕ). Linked put_words (top_of (head_in put_words j)) ms)
            (sym (put-other k j (m ∷ r.stacks k) r.stacks apart))
            (subst (λ (n : ℕ). Linked put_words (top_of n) (r.stacks j)) (sym (head-other s.words k j put_head apart))
            (linked-kept s.words put_words (link-kept s.words k put_head) (top_of (head_in s.words j))
            (r.stacks j) (r.linked j))));
        places = λ i. places i ∙ ap (λ n. below n i) (sym (length-set s.homes m (some xs)));
        lone = put-lone k (m ∷ r.stacks k) r.stacks r.lone (λ e.
            let none_there : r.stacks k ≡ [] =
            linked-none s.words (top_of (head_in s.words k)) (r.stacks k) (r.linked k) (lone e) in
            let nothing : length (r.stacks k) ≡ 0 = ap (λ (ms : List ℕ). length ms) none_there in
            omega arith);
        elements = λ i. let old = r.elements i in let more = homes i in let fewer = hands i in
            let rest = ap rests (placed i) in omega arith;
        guarded = guarded;
        home = each_stack (λ j. (i : ℕ) → 0 < bag (stacks j) i →
            (ys : List ℕ) × (get_elem? (set s.homes m (some xs)) i ≡ some (some ys)) × Suits p.rounds j ys) k
            (λ i there. ⊎_elim
            (λ (e : i ≡ m). (
              xs,
              ap (λ (n : ℕ). get_elem? (set s.homes m (some xs)) n) e
                  ∙ set_here s.homes m (some xs) inside,
              suits,
            ))
            (λ (n : i ≢ m).
            let here : bag (stacks k) i ≡ bag (m ∷ r.stacks k) i = ap (λ ms. bag ms i) (put-here k (m ∷ r.stacks k) r.stacks) in
            let e = list i in
            let other = one-other i m n in
            let old = r.home k i (omega arith) in
            (old.0, set_else s.homes m i (some xs) n ∙ old.1, old.2)) (cases_eq i m))
            (λ j other i there.
            let same : bag (stacks j) i ≡ bag (r.stacks j) i =
            ap (λ ms. bag ms i) (put-other k j (m ∷ r.stacks k) r.stacks other) in
            let apart : i ≢ m = λ e. let none_there = not-on-stack p s r id me at j m held in
            let some_there = subst (λ (n : ℕ). 0 < bag (stacks j) n) e there in
            let equal : bag (stacks j) m ≡ bag (r.stacks j) m =
            ap (λ ms. bag ms m) (put-other k j (m ∷ r.stacks k) r.stacks other) in absurd (omega arith) in
            let old = r.home j i (omega arith) in
            (old.0, set_else s.homes m i (some xs) apart ∙ old.1, old.2));
        out = λ i there.
            let apart : i ≢ m = λ e. let some_there = subst (λ (n : ℕ). 0 < total out_of (set s.views id w) n) e there in
            absurd (omega arith) in
            set_else s.homes m i (some xs) apart ∙ r.out i (let more = outs i in omega arith);
        known = λ j u is. ⊎_elim
            (λ here. subst (Knows p put_words) here.1 (record {
              population = own.population;
              rounds = own.rounds;
              look = is_some v.look (sees-after s.words k (suc m) long small) own.look;
              chain = tt;
            }))
            (λ other. let old = r.known j u other.1 in record {
              population = old.population;
              rounds = old.rounds;
              look = is_some u.look (sees-after s.words k (suc m) long small) old.look;
              chain = is_some u.chain (λ c was. record {
                out = was.out;
                link = link-kept s.words k put_head c.magazine ∙ was.link;
              }) old.chain;
            }) (at_set s.views id j w u is);
      }

-- the exchange that puts a magazine on a stack
gives_it : (p : Shape) (slots id : ℕ) (v : View) (k : Stack) (head m rounds : ℕ) (xs : List ℕ) (tail : List (ℕ × List ℕ)) →
    v.rounds ≡ Some rounds → v.chain ≡ Some (record { magazine = m; link = top_of head }) → Includes v.hand xs →
    Suits (rounds_of v) k xs → (k ≡ Partial → top_of head ≡ 0) →
    Allows (Ruled p) slots id (v, (m, xs) ∷ tail) (head_at k) (λ n. either (eqb n head) (next_head head (suc m)) n)
    (gives_top (step slots (head_at k) head (next_head head (suc m)) none) (v, (m, xs) ∷ tail))
gives_it p slots id v k head m rounds xs tail known chain hand suits lone s r many at bound =
    let n = head_in s.words k in
    let me : Sat = (v, (m, xs) ∷ tail) in
    let G : Bool → Type 0 = λ b.
    (w : View) × (a : Act (List ℕ)) × Valid s.homes me.1 a
    × Ruled p (stepped s (head_at k) (either b (next_head head (suc m)) n) id me.1 w a)
    × give_found b me (w, carried_after me.1 a) in
    dite (ℕ_discrete n head)
    (λ hit.
    let linked : v.chain ≡ Some (record { magazine = m; link = top_of n }) =
    chain ∙ ap (λ (y : ℕ). Some (record { magazine = m; link = top_of y })) (sym hit) in
    let fits : Suits p.rounds k xs = subst (λ (y : ℕ). Suits y k xs) (rounds-are p s r id me at rounds known) suits in
    let after = give-kept p s r id v at k m xs tail linked hand fits (λ e. ap top_of hit ∙ lone e) in
    subst G (sym (eq-eqb n head hit)) (
      given v me.1,
      gives,
      tt,
      subst (λ (y : ℕ). Ruled p (stepped s (head_at k) (next_head y (suc m)) id me.1 (given v me.1) gives)) hit after,
      refl,
    ))
    (λ miss. subst G (sym (ne_eqb n head miss))
    (losing v, keeps, tt, lost p slots id me (head_at k) s r at, refl))

pub top_gives : (p : Shape) (slots id : ℕ) (me : Sat) (k : Stack) (head m rounds : ℕ) (xs : List ℕ) (tail : List (ℕ × List ℕ)) →
    me.0.rounds ≡ Some rounds → me.1 ≡ (m, xs) ∷ tail → me.0.chain ≡ Some (record { magazine = m; link = top_of head }) →
    Includes me.0.hand xs → Suits (rounds_of me.0) k xs → (k ≡ Partial → top_of head ≡ 0) →
    Allows (Ruled p) slots id me (head_at k) (λ n. either (eqb n head) (next_head head (suc m)) n)
    (gives_top (step slots (head_at k) head (next_head head (suc m)) none) me)
top_gives p slots id me k head m rounds xs tail known is chain hand suits lone =
    subst (λ (c : List (ℕ × List ℕ)). Allows (Ruled p) slots id (me.0, c) (head_at k)
    (λ n. either (eqb n head) (next_head head (suc m)) n)
    (gives_top (step slots (head_at k) head (next_head head (suc m)) none) (me.0, c)))
    (sym is) (gives_it p slots id me.0 k head m rounds xs tail known chain hand suits lone)

-- the same at a word that is known to be the head's, by a word that is known to be the next head
pub top_takes_at : (p : Shape) (slots id : ℕ) (me : Sat) (k : Stack) (head x word new rounds : ℕ) → me.0.rounds ≡ Some rounds →
    me.0.look ≡ Some (record { stack = k; head = head; link = x }) → 0 < top_of head → x < 65536 →
    word ≡ head_at k → new ≡ next_head head x →
    Allows (Ruled p) slots id me word (λ n. either (eqb n head) new n) (takes_top (step slots word head new none) me)
top_takes_at p slots id me k head x word new rounds known look some_there small at next =
    subst (λ (w : ℕ). Allows (Ruled p) slots id me w (λ n. either (eqb n head) new n)
    (takes_top (step slots w head new none) me)) (sym at)
    (subst (λ (h : ℕ). Allows (Ruled p) slots id me (head_at k) (λ n. either (eqb n head) h n)
    (takes_top (step slots (head_at k) head h none) me)) (sym next)
    (top_takes p slots id me k head (top_of head - 1) x rounds known look (omega arith) small))

pub top_gives_at : (p : Shape) (slots id : ℕ) (me : Sat) (k : Stack) (head m word new rounds : ℕ) → me.0.rounds ≡ Some rounds →
    (xs : List ℕ) × (me.1 ≡ (m, xs) ∷ rest me.1) × Includes me.0.hand xs × Suits (rounds_of me.0) k xs →
    (k ≡ Partial → top_of head ≡ 0) → me.0.chain ≡ Some (record { magazine = m; link = top_of head }) → word ≡ head_at k →
    new ≡ next_head head (suc m) →
    Allows (Ruled p) slots id me word (λ n. either (eqb n head) new n) (gives_top (step slots word head new none) me)
top_gives_at p slots id me k head m word new rounds known its lone chain at next =
    subst (λ (w : ℕ). Allows (Ruled p) slots id me w (λ n. either (eqb n head) new n)
    (gives_top (step slots w head new none) me)) (sym at)
    (subst (λ (h : ℕ). Allows (Ruled p) slots id me (head_at k) (λ n. either (eqb n head) h n)
    (gives_top (step slots (head_at k) head h none) me)) (sym next)
    (top_gives p slots id me k head m rounds its.0 (rest me.1) known its.1 chain its.2 its.3 lone))
