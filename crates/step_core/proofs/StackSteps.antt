-- The eight stack steps keep the stack's rule.
use Rattle.std.proofs.Common.{◌≡◌, ℕ, zero, suc, ◌+◌, ◌-◌, ◌<◌, ◌≤◌, ◌≢◌, ◌⊎◌, List, [], ◌∷◌, ◌++◌, Option, Some, None, length, refl, sym, ap, ◌∙◌, subst, arith, ⊎_elim}
use Rattle.std.specs.Prelude.{sum_by, IfSome}
use Rattle.std.proofs.lemmas.Bool.{cases_eq, cond_both, eqb-true, and_parts}
use Rattle.std.proofs.lemmas.List.{length-append}
use Rattle.std.proofs.lemmas.List.Sums.{sum_by-cons}
use Rattle.commons.specs.Bag.{bag}
use Rattle.step_core.specs.Bags.{minus}
use Rattle.step_core.specs.World.{Head, Look, Chain, View, World, empty_view, view_at, view_of, link_in, hands, every_part}
use Rattle.step_core.specs.Links.{first_value}
use Rattle.step_core.specs.Steps.{next_head}
use Rattle.step_core.proofs.Rules.{StackLaw, StackView, LookParts, ChainParts}
use Rattle.step_core.proofs.Bags.{times-nil, times-append, times-minus, times-head, below-past, below-le}
use Rattle.step_core.proofs.Paths.{path_from, path_to, path_front, path_append, path_push}
use Rattle.step_core.proofs.Frame.{stepped, stack_kept}

-- one view, and two, within a sum over all
pub one_view : (f : View → ℕ) (views : List View) (k : ℕ) → f (empty_view 0) ≡ 0 → f (view_at views k) ≤ sum_by f views
one_view f [] k e = omega arith
one_view f (x ∷ xs) zero e = let g : f x ≤ sum_by f (x ∷ xs) = omega (arith, sum_by-cons f x xs) in g
one_view f (x ∷ xs) (suc k) e =
    let h = one_view f xs k e in
    let g : f (view_at xs k) ≤ sum_by f (x ∷ xs) = omega (arith, sum_by-cons f x xs) in
    g

pub two_views : (f : View → ℕ) (views : List View) (j k : ℕ) → f (empty_view 0) ≡ 0 → j ≢ k →
    f (view_at views j) + f (view_at views k) ≤ sum_by f views
two_views f [] j k e n = omega arith
two_views f (x ∷ xs) zero zero e n = absurd (n refl)
two_views f (x ∷ xs) zero (suc k) e n =
    let h = one_view f xs k e in
    let g : f x + f (view_at xs k) ≤ sum_by f (x ∷ xs) = omega (arith, sum_by-cons f x xs) in
    g
two_views f (x ∷ xs) (suc j) zero e n =
    let h = one_view f xs j e in
    let g : f (view_at xs j) + f x ≤ sum_by f (x ∷ xs) = omega (arith, sum_by-cons f x xs) in
    g
two_views f (x ∷ xs) (suc j) (suc k) e n =
    let h = two_views f xs j k e (λ h. n (ap suc h)) in
    let g : f (view_at xs j) + f (view_at xs k) ≤ sum_by f (x ∷ xs) =
    omega (arith, sum_by-cons f x xs) in
    g

-- one view and two views are part of the sum, by their workers' numbers
pub one_worker : (f : View → ℕ) (views : List View) (n : ℕ) → f (empty_view 0) ≡ 0 →
    f (view_of views n) ≤ sum_by f views
one_worker f views zero e = omega arith
one_worker f views (suc k) e = one_view f views k e

pub two_workers : (f : View → ℕ) (views : List View) (m n : ℕ) → f (empty_view 0) ≡ 0 → m ≢ n →
    f (view_of views m) + f (view_of views n) ≤ sum_by f views
two_workers f views zero zero e ne = absurd (ne refl)
two_workers f views zero (suc k) e ne =
    let a = one_view f views k e in
    let g : f (empty_view 0) + f (view_at views k) ≤ sum_by f views = omega arith in
    g
two_workers f views (suc j) zero e ne =
    let a = one_view f views j e in
    let g : f (view_at views j) + f (empty_view 0) ≤ sum_by f views = omega arith in
    g
two_workers f views (suc j) (suc k) e ne = two_views f views j k e (λ h. ne (ap suc h))

pub if_some : {X : Type 0} (o : Option X) (P Q : X → Type 0) → ((x : X) → P x → Q x) → IfSome o P → IfSome o Q
if_some None P Q f h = tt
if_some (Some x) P Q f h = f x h

-- the first of some elements
pub first_value-in : (xs : List ℕ) → 0 < length xs → (i : ℕ) × (first_value xs ≡ suc i) × (0 < bag xs i)
first_value-in [] h = absurd (omega arith)
first_value-in (x ∷ xs) h = (x, refl, omega (arith, times-head x xs))

-- what is to show of a view that has a part
pub busy_view : (population workers : ℕ) (head : Head) (link : ℕ → ℕ) (v : View) → 0 < v.part →
    v.seen ≤ head.count → IfSome v.look (LookParts population workers head link v.part v.seen) →
    IfSome v.chain (ChainParts population link v.hand) → StackView population workers head link v
busy_view population workers head link v part seen look chain = record {
  seen = seen;
  look = look;
  chain = chain;
  no_hand = λ e. absurd (omega arith);
  no_credit = λ e. absurd (omega arith);
  no_look = λ e. absurd (omega arith);
  no_chain = λ e. absurd (omega arith);
}

module _ (w : World) (k : ℕ) (law : StackLaw w) where
  -- where an element of a hand is not
  pub only_here : (i : ℕ) → 0 < bag (view_at w.views k).hand i →
      (bag law.common i ≡ 0) × (bag (view_at w.views k).hand i ≡ 1)
      × ((j : ℕ) → j ≢ k → bag (view_at w.views j).hand i ≡ 0) × (i < w.limits.population)
  only_here i h =
      let f : View → ℕ = λ (v : View). bag v.hand i in
      let none : f (empty_view 0) ≡ 0 = times-nil i in
      let one : f (view_at w.views k) ≤ hands i w.views = one_view f w.views k none in
      let p = law.one_place i in
      let b = below-le w.limits.population i in (
        omega arith,
        omega arith,
        (λ j n. let two : f (view_at w.views j) + f (view_at w.views k) ≤ hands i w.views =
            two_views f w.views j k none n in omega arith),
        ⊎_elim (λ (c : i < w.limits.population). c) (λ (c : w.limits.population ≤ i). absurd
            (omega (arith, below-past w.limits.population i c))) (within i),
      )
    where
      within : (i : ℕ) → (i < w.limits.population) ⊎ (w.limits.population ≤ i)
      within i = Rattle.std.proofs.lemmas.Bool.cases_lt i w.limits.population

  -- a worker with a part is not alone with all of them
  pub no_whole : (j : ℕ) → 0 < (view_at w.views k).part → j ≢ k → (view_at w.views j).part ≢ every_part w.limits
  no_whole j h n e = let two = two_views (λ (v : View). v.part) w.views j k refl n in let p = law.parts in omega arith

  -- the other views when the head moves on
  pub head_moves : (top count : ℕ) → count ≡ w.head.count → 0 < (view_at w.views k).part → (j : ℕ) →
      j ≢ k → StackView w.limits.population (every_part w.limits) (next_head top count) (link_in w.links)
      (view_at w.views j)
  head_moves top count same h j n = let v = law.views j in record {
    seen = (let s = v.seen in omega arith);
    look = if_some (view_at w.views j).look _ _
        (λ o l. let ahead = l.not_ahead in record {
          not_ahead = omega arith;
          was_seen = l.was_seen;
          same_count = λ e. absurd (no_whole j h n e);
          same_top = λ e. absurd (omega arith);
          walked = λ e. absurd (omega arith);
          top_in_range = l.top_in_range;
          in_range = l.in_range;
        }) v.look;
    chain = v.chain;
    no_hand = v.no_hand;
    no_credit = v.no_credit;
    no_look = v.no_look;
    no_chain = v.no_chain;
  }

  -- a step that changes neither the head nor a link
  pub knows_kept : (n : ℕ) (u : View) → k < length w.views → u.hand ≡ (view_at w.views k).hand →
      u.zeros ≡ (view_at w.views k).zeros → u.holds ≡ (view_at w.views k).holds →
      u.part ≡ (view_at w.views k).part
      → n + u.credit ≡ w.length + (view_at w.views k).credit →
      StackView w.limits.population (every_part w.limits) w.head (link_in w.links) u →
      StackLaw (stepped w k w.head n w.links u)
  knows_kept n u here hand zeros holds part credit mine = stack_kept w k w.head n w.links u here law (record {
    common = law.common;
    spelled = law.spelled;
    zeros = zeros;
    holds = holds;
    part = part;
    moved = λ i. ap (λ xs. bag law.common i + bag xs i) hand;
    credited = omega arith;
    all_links = law.all_links;
    links_in_range = law.links_in_range;
    top_in_range = law.top_in_range;
    mine = mine;
    others = λ j n. law.views j;
  })

  module _ (here : k < length w.views) (part : 0 < (view_at w.views k).part) where
    pub reserve_won : (old n : ℕ) → n ≤ old → w.length ≡ old →
        StackLaw (stepped w k w.head (old - n) w.links
        (record (view_at w.views k) { credit = (view_at w.views k).credit + n }))
    reserve_won old n le is =
        let v = law.views k in
        knows_kept _ _ here refl refl refl refl (omega arith)
        (busy_view _ _ _ _ _ part v.seen v.look v.chain)

    pub add_done : (n : ℕ) → n ≤ (view_at w.views k).credit →
        StackLaw (stepped w k w.head (w.length + n) w.links
        (record (view_at w.views k) { credit = (view_at w.views k).credit - n }))
    add_done n le =
        let v = law.views k in
        knows_kept _ _ here refl refl refl refl (omega arith)
        (busy_view _ _ _ _ _ part v.seen v.look v.chain)

    pub load_head_done : StackLaw (stepped w k w.head w.length w.links (record (view_at w.views k) {
      look = Some (record { head = w.head; front = []; next = w.head.top });
      seen = w.head.count;
    }))
    load_head_done = let v = law.views k in knows_kept _ _ here refl refl refl refl refl
        (busy_view _ _ _ _ _ part (omega arith)
        (record {
          not_ahead = omega arith;
          was_seen = omega arith;
          same_count = λ e. refl;
          same_top = λ e. refl;
          walked = λ e. refl;
          top_in_range = law.top_in_range;
          in_range = law.top_in_range;
        })
        v.chain)

    -- the look of a view, where there is one
    pub look_of : (l : Look) → (view_at w.views k).look ≡ Some l →
        LookParts w.limits.population (every_part w.limits) w.head (link_in w.links)
        (view_at w.views k).part (view_at w.views k).seen l
    look_of l e =
        let P : Option Look → Type 0 =
        λ o.
        IfSome o (LookParts w.limits.population (every_part w.limits) w.head (link_in w.links)
        (view_at w.views k).part (view_at w.views k).seen) in
        subst P e (law.views k).look

    pub chain_of : (c : Chain) → (view_at w.views k).chain ≡ Some c →
        ChainParts w.limits.population (link_in w.links) (view_at w.views k).hand c
    chain_of c e =
        let P : Option Chain → Type 0 =
        λ o.
        IfSome o (ChainParts w.limits.population (link_in w.links) (view_at w.views k).hand)
        in
        subst P e (law.views k).chain

    pub load_link_done : (i : ℕ) (l : Look) → (view_at w.views k).look ≡ Some l → l.next ≡ suc i
        → StackLaw (stepped w k w.head w.length w.links (record (view_at w.views k) {
          look =
              Some (record { head = l.head; front = l.front ++ i ∷ []; next = link_in w.links i });
        }))
    load_link_done i l e next =
        let v = law.views k in let m = look_of l e in knows_kept _ _ here refl refl refl refl refl
        (busy_view _ _ _ _ _ part v.seen
        (record {
          not_ahead = m.not_ahead;
          was_seen = m.was_seen;
          same_count = m.same_count;
          same_top = m.same_top;
          walked = λ same. path_push (link_in w.links) l.head.top l.front i (path_to _ _ _ _ _ next (m.walked same));
          top_in_range = m.top_in_range;
          in_range = law.links_in_range i;
        })
        v.chain)

    -- an exchange of the head that lost: the look ends, and so may the chain
    pub look_ends : (o : Option Chain) →
        IfSome o (ChainParts w.limits.population (link_in w.links) (view_at w.views k).hand)
        → StackLaw (stepped w k w.head w.length w.links
        (record (view_at w.views k) { look = None; seen = w.head.count; chain = o }))
    look_ends o chain =
        let v = law.views k in
        knows_kept _ _ here refl refl refl refl refl
        (busy_view _ _ _ _ _ part (omega arith) tt chain)

    pub cut_won : (l : Look) → (view_at w.views k).look ≡ Some l →
        length l.front ≤ (view_at w.views k).credit → w.head.top ≡ l.head.top →
        w.head.count ≡ l.head.count
        → StackLaw (stepped w k (next_head l.next l.head.count) w.length w.links
        (record (view_at w.views k) {
          hand = (view_at w.views k).hand ++ l.front;
          credit = (view_at w.views k).credit - length l.front;
          look = None;
          seen = l.head.count + 1;
        }))
    cut_won l e room top count =
        let v = view_at w.views k in
        let m = look_of l e in
        let rest =
        path_front (link_in w.links) w.head.top l.front law.common l.next
        (path_from _ _ _ _ _ (sym top) (m.walked (sym count))) law.spelled in
        stack_kept w k _ _ _ _ here law (record {
          common = rest.0;
          spelled = rest.2;
          zeros = refl;
          holds = refl;
          part = refl;
          moved =
              λ i. let a =
              ap (λ (xs : List ℕ). bag xs i) rest.1 in omega
              (arith, times-append i v.hand l.front, times-append i l.front rest.0);
          credited = (let a = ap length rest.1 in omega (arith, length-append l.front rest.0));
          all_links = law.all_links;
          links_in_range = law.links_in_range;
          top_in_range = m.in_range;
          mine = busy_view _ _ _ _ _ part (omega arith) tt
              (if_some v.chain _ _ (λ c d.
              record {
                not_empty = d.not_empty;
                in_hand =
                    λ i.
                    (let a = d.in_hand i in omega (arith, times-append i v.hand l.front));
                linked = d.linked;
                in_range = d.in_range;
              }) (law.views k).chain);
          others = head_moves l.next l.head.count (sym count) part;
        })

    pub push_won : (l : Look) (c : Chain) → (view_at w.views k).look ≡ Some l →
        (view_at w.views k).chain ≡ Some c → c.end ≡ l.head.top → w.head.top ≡ l.head.top →
        w.head.count ≡ l.head.count
        → StackLaw (stepped w k (next_head (first_value c.items) l.head.count) w.length w.links
        (record (view_at w.views k) {
          hand = minus (view_at w.views k).hand c.items;
          credit = (view_at w.views k).credit + length c.items;
          look = None;
          seen = l.head.count + 1;
          chain = None;
        }))
    push_won l c e f ends top count =
        let v = view_at w.views k in
        let d = chain_of c f in
        let first = first_value-in c.items d.not_empty in
        stack_kept w k _ _ _ _ here law (record {
          common = c.items ++ law.common;
          spelled =
              path_append (link_in w.links) (first_value c.items) c.items law.common c.end 0
              d.linked (path_from _ _ _ _ _ (top ∙ sym ends) law.spelled);
          zeros = refl;
          holds = refl;
          part = refl;
          moved =
              λ i. let a =
              d.in_hand i in omega
              (arith, times-append i c.items law.common, times-minus i v.hand c.items);
          credited = omega (arith, length-append c.items law.common);
          all_links = law.all_links;
          links_in_range = law.links_in_range;
          top_in_range =
              (
              let a = d.in_hand first.0 in
              let b = (only_here first.0 (let g = first.2 in omega arith)).3 in
              let g = first.1 in
              omega arith);
          mine = busy_view _ _ _ _ _ part (omega arith) tt tt;
          others = head_moves (first_value c.items) l.head.count (sym count) part;
        })
