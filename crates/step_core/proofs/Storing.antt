-- A store of a link keeps the stack's rule.
use Rattle.std.proofs.Common.{◌≡◌, ℕ, suc, ◌<◌, ◌≤◌, ◌≢◌, List, [], ◌∷◌, ◌++◌, Option, Some, None, length, set, refl, sym, ap, ◌∙◌, subst, arith, ⊎_elim, get_or-set_other, get_or-set_same}
use Rattle.std.specs.Prelude.{IfSome, ◌==◌, ◌&&◌}
use Rattle.std.proofs.lemmas.Bool.{cases_eq, cond_both, eqb-true, and_parts}
use Rattle.std.proofs.lemmas.List.{length-set}
use Rattle.commons.specs.Bag.{bag}
use Rattle.step_core.specs.World.{Look, Chain, View, World, view_at, link_in, every_part}
use Rattle.step_core.specs.Links.{Path, first_value, last_value}
use Rattle.step_core.specs.Steps.{chain_after}
use Rattle.step_core.proofs.Rules.{StackLaw, LookParts, ChainParts}
use Rattle.step_core.proofs.Bags.{times-nil, times-append, times-head, times-other, times-one, times-not_one, below-le}
use Rattle.step_core.proofs.Paths.{path_agrees, path_from, path_to, path_front, path_push}
use Rattle.step_core.proofs.Frame.{stepped, stack_kept}
use Rattle.step_core.proofs.StackSteps.{if_some, one_view, busy_view, only_here}

-- a list with a last element
pub split_last : (xs : List ℕ) (i : ℕ) → last_value xs ≡ suc i → (ys : List ℕ) × (xs ≡ ys ++ i ∷ [])
split_last [] i e = absurd (cc)
split_last (x ∷ []) i e = ([], (let same : x ≡ i = cc in cc))
split_last (x ∷ y ∷ ys) i e = let more = split_last (y ∷ ys) i e in (x ∷ more.0, (let m = more.1 in cc))

-- where a path goes on at the last of its elements
pub path_init : (f : ℕ → ℕ) (v : ℕ) (ys : List ℕ) (i u : ℕ) → Path f v (ys ++ i ∷ []) u → Path f v ys (suc i)
path_init f v [] i u p = p.0
path_init f v (y ∷ ys) i u p = (p.0, path_init f (f y) ys i u p.1)

pub first_value-append : (ys : List ℕ) (i : ℕ) (zs : List ℕ) → 0 < length ys → first_value (ys ++ zs) ≡ first_value ys
first_value-append [] i zs h = absurd (omega arith)
first_value-append (y ∷ ys) i zs h = refl

module _ (links : List ℕ) (i j : ℕ) (inside : i < length links) where
  pub link_here : link_in (set links i j) i ≡ j
  link_here = get_or-set_same links i j 0 inside

  pub link_else : (x : ℕ) → x ≢ i → link_in (set links i j) x ≡ link_in links x
  link_else x n = get_or-set_other links i x j 0 n

  -- a path beside the link that is set
  pub path_beside : (v : ℕ) (xs : List ℕ) (u : ℕ) → bag xs i ≡ 0 → Path (link_in links) v xs u →
      Path (link_in (set links i j)) v xs u
  path_beside v xs u none p = path_agrees (link_in links) (link_in (set links i j)) v xs u
      (λ x h.
      sym (link_else x (λ (e : x ≡ i). let g : 0 < bag xs i =
      subst (λ (a : ℕ). 0 < bag xs a) e h in omega arith))) p

  module _ (population : ℕ) (hand : List ℕ) (once : (x : ℕ) → bag hand x ≤ 1)
      (small : j ≤ population) (mine : 0 < bag hand i) where
    -- a new chain of i alone
    pub chain_begins : ChainParts population (link_in (set links i j)) hand (record { items = i ∷ []; end = j })
    chain_begins = record {
      not_empty = omega arith;
      in_hand = λ x. ⊎_elim
          (λ (e : i ≡ x). subst (λ (a : ℕ). bag (i ∷ []) a ≤ bag hand a) e (omega (arith, times-one i)))
          (λ (n : i ≢ x). omega (arith, times-not_one x i n))
          (cases_eq i x);
      linked = (refl, link_here);
      in_range = small;
    }

    -- the link of the last is set
    pub chain_ends : (c : Chain) → last_value c.items ≡ suc i →
        ChainParts population (link_in links) hand c →
        ChainParts population (link_in (set links i j)) hand (record { items = c.items; end = j })
    chain_ends c last law =
        let split = split_last c.items i last in
        let ys = split.0 in
        let b = law.in_hand i in
        let o = once i in
        let none : bag ys i ≡ 0 =
        (
        let a = ap (λ (xs : List ℕ). bag xs i) split.1 in
        omega (arith, times-append i ys (i ∷ []), times-one i)) in
        let way : Path (link_in links) (first_value c.items) (ys ++ i ∷ []) c.end =
        subst (λ (l : List ℕ). Path (link_in links) (first_value c.items) l c.end) split.1
        law.linked in
        let front =
        path_beside (first_value c.items) ys (suc i) none
        (path_init (link_in links) (first_value c.items) ys i c.end way) in
        let all = path_to _ _ _ _ _ link_here (path_push (link_in (set links i j)) (first_value c.items) ys i front) in
        record {
          not_empty = law.not_empty;
          in_hand = law.in_hand;
          linked = subst (λ (l : List ℕ). Path (link_in (set links i j)) (first_value c.items) l j) (sym split.1) all;
          in_range = small;
        }

    -- i is put before the first
    pub chain_grows : (c : Chain) → bag c.items i ≡ 0 → j ≡ first_value c.items →
        ChainParts population (link_in links) hand c →
        ChainParts population (link_in (set links i j)) hand
        (record { items = i ∷ c.items; end = c.end })
    chain_grows c none leads law = record {
      not_empty = omega arith;
      in_hand = λ x. ⊎_elim
          (λ (e : i ≡ x). subst (λ (a : ℕ). bag (i ∷ c.items) a ≤ bag hand a) e (omega (arith, times-head i c.items)))
          (λ (n : i ≢ x). let b = law.in_hand x in omega (arith, times-other x i c.items n))
          (cases_eq i x);
      linked = (
        refl,
        path_from _ _ _ _ _ (sym leads ∙ sym link_here)
            (path_beside (first_value c.items) c.items c.end none law.linked),
      );
      in_range = law.in_range;
    }

    pub chain_after_law : (o : Option Chain) →
        IfSome o (ChainParts population (link_in links) hand) →
        ChainParts population (link_in (set links i j)) hand (chain_after o i j)
    chain_after_law None law = chain_begins
    chain_after_law (Some c) law =
        cond_both (last_value c.items == suc i) _ _ (ChainParts population (link_in (set links i j)) hand)
        (λ e. chain_ends c (eqb-true _ _ e) law)
        (λ n. cond_both ((bag c.items i == 0) && (j == first_value c.items)) _ _
        (ChainParts population (link_in (set links i j)) hand)
        (λ e. let both = and_parts _ _ e in chain_grows c (eqb-true _ _ both.0) (eqb-true _ _ both.1) law)
        (λ m. chain_begins))

pub store_done : (w : World) (k : ℕ) (law : StackLaw w) → k < length w.views →
    0 < (view_at w.views k).part → (i j : ℕ) → j ≤ w.limits.population →
    0 < bag (view_at w.views k).hand i
    → StackLaw (stepped w k w.head w.length (set w.links i j) (record (view_at w.views k)
    { chain = Some (chain_after (view_at w.views k).chain i j) }))
store_done w k law here part i j small mine =
    let place = only_here w k law i mine in
    let inside : i < length w.links = (let a = place.3 in let b = law.all_links in omega arith) in
    let beside = path_beside w.links i j inside in
    -- a look of any view, while its count stands, is over common elements
    let looks : (u : ℕ) (seen : ℕ) (l : Look) →
    LookParts w.limits.population (every_part w.limits) w.head (link_in w.links) u seen l →
    LookParts w.limits.population (every_part w.limits) w.head (link_in (set w.links i j)) u seen l
    = λ u seen l m. record {
      not_ahead = m.not_ahead;
      was_seen = m.was_seen;
      same_count = m.same_count;
      same_top = m.same_top;
      walked = λ same.
          let rest =
          path_front (link_in w.links) w.head.top l.front law.common l.next
          (path_from _ _ _ _ _ (m.same_top same) (m.walked same)) law.spelled in
          let a = ap (λ (xs : List ℕ). bag xs i) rest.1 in let b = place.0 in
          beside _ l.front l.next (omega (arith, times-append i l.front rest.0)) (m.walked same);
      top_in_range = m.top_in_range;
      in_range = m.in_range;
    } in
    let v = law.views k in
    stack_kept w k _ _ _ _ here law (record {
      common = law.common;
      spelled = beside _ law.common 0 place.0 law.spelled;
      zeros = refl;
      holds = refl;
      part = refl;
      moved = λ i. refl;
      credited = refl;
      all_links = length-set w.links i j ∙ law.all_links;
      links_in_range = λ x. ⊎_elim
          (λ (e : x ≡ i). subst (λ (a : ℕ). link_in (set w.links i j) a ≤ w.limits.population)
          (sym e) (omega (arith, link_here w.links i j inside)))
          (λ (n : x ≢ i). let a = law.links_in_range x in omega (arith, link_else w.links i j inside x n))
          (cases_eq x i);
      top_in_range = law.top_in_range;
      mine = busy_view _ _ _ _ _ part v.seen (if_some (view_at w.views k).look _ _ (looks _ _) v.look)
          (chain_after_law w.links i j inside w.limits.population (view_at w.views k).hand
          (λ x. let a =
          law.one_place x in omega (
            arith,
            one_view (λ (v : View). bag v.hand x) w.views k (times-nil x),
            below-le w.limits.population x,
          ))
          small mine (view_at w.views k).chain v.chain);
      others = λ m n. let u = law.views m in record {
        seen = u.seen;
        look = if_some (view_at w.views m).look _ _ (looks _ _) u.look;
        chain = if_some (view_at w.views m).chain _ _
            (λ c d. record {
              not_empty = d.not_empty;
              in_hand = d.in_hand;
              linked = (let a = d.in_hand i in let b = place.2 m n in beside _ c.items c.end (omega arith) d.linked);
              in_range = d.in_range;
            }) u.chain;
        no_hand = u.no_hand;
        no_credit = u.no_credit;
        no_look = u.no_look;
        no_chain = u.no_chain;
      };
    })
