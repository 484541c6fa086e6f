-- The rule stands where a seat is cut in two, and where two seats are made one.
use Rattle.std.proofs.Common.{◌≡◌, ℕ, ◌+◌, ◌-◌, ◌≤◌, List, [], ◌∷◌, ◌++◌, length, set, refl, subst, ⊎_elim, arith, ◌<◌}
use mathlib.Core.Option.{some}
use lib.ListN.{get_elem?}
use Rattle.atomic_table.specs.Table.{Splits, Joins}
use Rattle.atomic_table.proofs.Lists.{at_set, at_snoc}
use Rattle.commons.specs.Bag.{bag}
use Rattle.commons.proofs.Bags.{bag-nil, bag-append}
use Rattle.depot.specs.declared.view.Shape.{Shape}
use Rattle.depot.specs.declared.view.View.{View}
use Rattle.depot.specs.Answers.{kept_part, other_part, both_views, spent_view}
use Rattle.depot.specs.Bags.{total, Includes}
use Rattle.depot.specs.Dealing.{with_first, with_others}
use Rattle.depot.specs.Resting.{IsBare, Guarded}
use Rattle.depot.specs.Rule.{Depoted, hand_of, out_of, Knows, Ruled}
use Rattle.depot.proofs.Bags.{bag-minus}
use Rattle.depot.proofs.Guarding.{guard-view, guard-more, guard-spent, guard-dealt}
use Rattle.depot.proofs.Totals.{sum-set, sum-last}
use Rattle.depot.proofs.Stepping.{is_some}

-- other views with the same elements and magazines in all
re_viewed : (p : Shape) (s : Depoted) (r : Ruled p s) (views : List View) →
    ((i : ℕ) → total hand_of views i ≡ total hand_of s.views i) →
    ((i : ℕ) → total out_of views i ≡ total out_of s.views i) →
    ((id : ℕ) (v : View) → get_elem? views id ≡ some v → Knows p s.words v) →
    Guarded (length s.homes) s.words views →
    Ruled p (record { words = s.words; homes = s.homes; views = views })
re_viewed p s r views hands outs known guarded = record {
  stacks = r.stacks;
  room = r.room;
  words = r.words;
  links = r.links;
  linked = r.linked;
  places = λ m. let old = r.places m in let same = outs m in omega arith;
  lone = r.lone;
  elements = λ i. let old = r.elements i in let same = hands i in omega arith;
  home = r.home;
  out = λ m there. r.out m (let same = outs m in omega arith);
  guarded = guarded;
  known = known;
}

pub parts : (p : Shape) (id : ℕ) (v : View) → Includes v.hand v.kept → Splits (Ruled p) id v (kept_part v) (other_part v)
parts p id v within s r at =
    let left = kept_part v in
    let right = other_part v in
    let own = r.known id v at in
    let first : List View = set s.views id left in
    re_viewed p s r (first ++ right ∷ [])
    (λ i.
    let moved = sum-set (λ (u : View). bag (hand_of u) i) s.views id v left at in
    let last = sum-last (λ (u : View). bag (hand_of u) i) first right in
    let rest : bag (hand_of right) i ≡ bag (hand_of v) i - bag v.kept i = bag-minus i v.hand v.kept in
    let some_kept : bag v.kept i ≤ bag (hand_of v) i = within i in
    let kept : bag (hand_of left) i ≡ bag v.kept i = refl in
    omega arith)
    (λ i.
    let moved = sum-set (λ (u : View). bag (out_of u) i) s.views id v left at in
    let last = sum-last (λ (u : View). bag (out_of u) i) first right in
    let nothing : bag (out_of right) i ≡ 0 = bag-nil i in
    omega arith)
    (λ j u is. ⊎_elim
    (λ old. ⊎_elim (λ here. subst (Knows p s.words) here.1
    (record { population = own.population; rounds = own.rounds; look = own.look; chain = own.chain }))
    (λ else. r.known j u else.1) (at_set s.views id j left u old))
    (λ new. subst (Knows p s.words) new
    (record { population = own.population; rounds = own.rounds; look = tt; chain = tt }))
    (at_snoc first right u j is))
    (guard-more (length s.homes) s.words first right refl
    (guard-view (length s.homes) s.words s.views id v left at refl r.guarded))

pub joins : (p : Shape) (id : ℕ) (v : View) (other : ℕ) (w : View) → IsBare w.resting →
    Joins (Ruled p) id v other w (both_views v w) spent_view
joins p id v other w bare s r at apart there =
    let both = both_views v w in
    let own = r.known id v at in
    let first : List View = set s.views id both in
    re_viewed p s r (set first other spent_view)
    (λ i.
    let one = sum-set (λ (u : View). bag (hand_of u) i) s.views id v both at in
    let two = sum-set (λ (u : View). bag (hand_of u) i) first other w spent_view there in
    let all : bag (hand_of both) i ≡ bag (hand_of v) i + bag (hand_of w) i = bag-append v.hand w.hand i in
    let nothing : bag (hand_of spent_view) i ≡ 0 = bag-nil i in
    omega arith)
    (λ i.
    let one = sum-set (λ (u : View). bag (out_of u) i) s.views id v both at in
    let two = sum-set (λ (u : View). bag (out_of u) i) first other w spent_view there in
    let all : bag (out_of both) i ≡ bag (out_of v) i + bag (out_of w) i = bag-append v.out w.out i in
    let nothing : bag (out_of spent_view) i ≡ 0 = bag-nil i in
    omega arith)
    (λ j u is. ⊎_elim
    (λ here. subst (Knows p s.words) here.1 (record { population = tt; rounds = tt; look = tt; chain = tt }))
    (λ else. ⊎_elim
    (λ here. subst (Knows p s.words) here.1 (record {
      population = own.population;
      rounds = own.rounds;
      look = own.look;
      chain = is_some v.chain (λ c old. record {
        out = let more = bag-append v.out w.out c.magazine in let has = old.out in omega arith;
        link = old.link;
      }) own.chain;
    }))
    (λ old. r.known j u old.1) (at_set s.views id j both u else.1))
    (at_set first other j spent_view u is))
    (guard-spent (length s.homes) s.words first other w spent_view there bare refl
    (guard-view (length s.homes) s.words s.views id v both at refl r.guarded))

pub deals : (p : Shape) (id : ℕ) (v : View) → IsBare v.resting → v.resting.from < v.resting.to →
    Splits (Ruled p) id v (with_first v) (with_others v)
deals p id v bare some_number s r at =
    let left = with_first v in
    let right = with_others v in
    let own = r.known id v at in
    let first : List View = set s.views id left in
    re_viewed p s r (first ++ right ∷ [])
    (λ i.
    let moved = sum-set (λ (u : View). bag (hand_of u) i) s.views id v left at in
    let last = sum-last (λ (u : View). bag (hand_of u) i) first right in
    let nothing : bag (hand_of right) i ≡ 0 = bag-nil i in
    omega arith)
    (λ i.
    let moved = sum-set (λ (u : View). bag (out_of u) i) s.views id v left at in
    let last = sum-last (λ (u : View). bag (out_of u) i) first right in
    let nothing : bag (out_of right) i ≡ 0 = bag-nil i in
    omega arith)
    (λ j u is. ⊎_elim
    (λ old. ⊎_elim (λ here. subst (Knows p s.words) here.1
    (record { population = own.population; rounds = own.rounds; look = own.look; chain = own.chain }))
    (λ else. r.known j u else.1) (at_set s.views id j left u old))
    (λ new. subst (Knows p s.words) new
    (record { population = own.population; rounds = own.rounds; look = tt; chain = tt }))
    (at_snoc first right u j is))
    (guard-dealt (length s.homes) s.words s.views id v at bare some_number r.guarded)
