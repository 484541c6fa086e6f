-- What each step does to the table.
use Rattle.std.proofs.Common.{◌≡◌, ℕ, zero, suc, ◌+◌, ◌<◌, ◌≢◌, List, ◌++◌, Some, length, set, refl, sym, ap, ◌∙◌, subst, arith, ⊎_elim, get_or-set_other, get_or-set_same}
use Rattle.std.proofs.lemmas.Bool.{cases_eq}
use Rattle.commons.specs.Bag.{bag}
use Rattle.step_core.specs.Bags.{minus}
use Rattle.step_core.specs.World.{Head, Look, Chain, View, World, empty_view, view_at, view_of, desk_at, link_in, shelf}
use Rattle.step_core.specs.Links.{Spells, first_value}
use Rattle.step_core.specs.Table.{Table, Get, Put, Same, EventMoves, SameTable}
use Rattle.step_core.specs.Shows.{standing, ShowsTable}
use Rattle.step_core.specs.Steps.{next_head}
use Rattle.step_core.proofs.Rules.{StackLaw}
use Rattle.step_core.proofs.Bags.{times-append, times-minus}
use Rattle.step_core.proofs.Paths.{path_append, path_from}
use Rattle.step_core.proofs.Frame.{stepped}
use Rattle.step_core.proofs.StackSteps.{look_of, chain_of}
use Rattle.step_core.proofs.Shows.{spells_same, one_place, is_common, is_in_hand, same_place}

-- a number of each view, where the one at k is exchanged
module _ (views : List View) (k : ℕ) (u : View) (here : k < length views) where
  pub read_here : (f : View → ℕ) → f (view_of (set views k u) (suc k)) ≡ f u
  read_here f = ap f (get_or-set_same views k u (empty_view 0) here)

  pub read_else : (f : View → ℕ) (n : ℕ) → n ≢ suc k → f (view_of (set views k u) n) ≡ f (view_of views n)
  read_else f zero n = refl
  read_else f (suc j) n = ap f (get_or-set_other views k j u (empty_view 0) (λ e. n (ap suc e)))

  pub read_kept : (f : View → ℕ) → f u ≡ f (view_at views k) → (n : ℕ) →
      f (view_of (set views k u) n) ≡ f (view_of views n)
  read_kept f same n =
      ⊎_elim (λ (e : n ≡ suc k). subst
      (λ (i : ℕ). f (view_of (set views k u) i) ≡ f (view_of views i)) (sym e)
      (read_here f ∙ same)) (λ (ne : n ≢ suc k). read_else f n ne) (cases_eq n (suc k))

-- two worlds in which an element is alike
pub record Alike (i : ℕ) (w u : World) : Type 0 where
  pub hand : (k : ℕ) → bag (view_of w.views k).hand i + bag (view_of w.views k).zeros i
      ≡ bag (view_of u.views k).hand i + bag (view_of u.views k).zeros i
  pub holder : (k : ℕ) → bag (view_of w.views k).holds i ≡ bag (view_of u.views k).holds i
  pub desk : (d : ℕ) → bag (shelf (desk_at w.desks d)) i ≡ bag (shelf (desk_at u.desks d)) i

-- at one element
pub same_at : (w u : World) (t s : Table) (n : ℕ) → w.limits.population ≡ n →
    u.limits.population ≡ n → (a : ShowsTable w t) (b : ShowsTable u s) (i : ℕ) → i < n →
    bag a.common i ≡ bag b.common i → Alike i w u → Same (t i) (s i)
same_at w u t s n p q a b i lt c m =
    let l : i < w.limits.population = omega arith in let r : i < u.limits.population = omega arith in
    same_place (standing w a.common i) (a.one i l) (standing u b.common i) (b.one i r) c m.hand
    m.holder m.desk (t i) (s i) (a.stands i l) (b.stands i r)

-- a stack step that moves nothing
pub quiet_stack : (w : World) (k : ℕ) (h : Head) (n : ℕ) (ls : List ℕ) (u : View) →
    k < length w.views → u.hand ≡ (view_at w.views k).hand → u.zeros ≡ (view_at w.views k).zeros →
    u.holds ≡ (view_at w.views k).holds
    → ((xs ys : List ℕ) → Spells (link_in w.links) w.head.top xs → Spells (link_in ls) h.top ys →
    xs ≡ ys) → (t s : Table) → ShowsTable w t → ShowsTable (stepped w k h n ls u) s →
    SameTable w.limits.population t s
quiet_stack w k h n ls u here hand zeros holds spelled t s a b i lt =
    same_at w (stepped w k h n ls u) t s w.limits.population refl refl a b i lt
    (ap (λ (xs : List ℕ). bag xs i) (spelled a.common b.common a.spelled b.spelled)) (record {
      hand =
          λ j.
          (
          let c =
          read_kept w.views k u here (λ v. bag v.hand i) (ap (λ (xs : List ℕ). bag xs i) hand)
          j in
          let z =
          read_kept w.views k u here (λ v. bag v.zeros i)
          (ap (λ (xs : List ℕ). bag xs i) zeros) j in
          omega arith);
      holder = λ j. sym (read_kept w.views k u here (λ v. bag v.holds i) (ap (λ (xs : List ℕ). bag xs i) holds) j);
      desk = λ d. refl;
    })

module _ (w : World) (k : ℕ) (here : k < length w.views) (busy : 0 < (view_at w.views k).part) (law : StackLaw w) where
  common_is : (t : Table) (a : ShowsTable w t) → law.common ≡ a.common
  common_is t a = spells_same _ _ _ _ law.spelled a.spelled

  pub cut_gets : (l : Look) (u : View) → (view_at w.views k).look ≡ Some l →
      w.head.top ≡ l.head.top → w.head.count ≡ l.head.count
      → u.hand ≡ (view_at w.views k).hand ++ l.front → u.zeros ≡ (view_at w.views k).zeros →
      u.holds ≡ (view_at w.views k).holds
      → (t s : Table) → ShowsTable w t →
      ShowsTable (stepped w k (next_head l.next l.head.count) w.length w.links u) s →
      EventMoves w.limits.population (Get (suc k) l.front) t s
  cut_gets l u e top count hand zeros holds t s a b =
      let m = look_of w k law here busy l e in
      -- the list before is the front and the list after
      let all : a.common ≡ l.front ++ b.common =
      sym (common_is t a)
      ∙ spells_same (link_in w.links) w.head.top law.common (l.front ++ b.common) law.spelled
      (path_append (link_in w.links) w.head.top l.front b.common l.next 0
      (path_from _ _ _ _ _ (sym top) (m.walked (sym count))) b.spelled) in
      let w' = stepped w k (next_head l.next l.head.count) w.length w.links u in
      let counts : (i : ℕ) → bag a.common i ≡ bag l.front i + bag b.common i =
      λ i.
      (
      let c = ap (λ (xs : List ℕ). bag xs i) all in
      omega (arith, times-append i l.front b.common)) in
      let hand_here : (i : ℕ) → bag (view_at w'.views k).hand i ≡ bag (view_at w.views k).hand i + bag l.front i
      =
      λ i.
      (
      let c = read_here w.views k u here (λ v. bag v.hand i) in
      let d = ap (λ (xs : List ℕ). bag xs i) hand in
      omega (arith, times-append i (view_at w.views k).hand l.front)) in (
        (λ i. let c =
            counts i in let d =
            ap (λ (xs : List ℕ). bag xs i) (common_is t a) in let o =
            (one_place w law i).common_once in omega arith),
        (λ i lt. (
          (λ f. let c = counts i in let h = hand_here i in (
            is_common (standing w a.common i) (a.one i lt) (t i) (omega arith) (a.stands i lt),
            is_in_hand (standing w' b.common i) (b.one i lt) (s i) (suc k)
                (
                let r : 0 < bag (view_at w'.views k).hand i + bag (view_at w'.views k).zeros i =
                omega arith in
                r) (b.stands i lt),
          )),
          (λ f. let c = counts i in same_at w w' t s w.limits.population refl refl a b i lt (omega arith) (record {
            hand =
                λ j. (let z =
                read_kept w.views k u here (λ v. bag v.zeros i)
                (ap (λ (xs : List ℕ). bag xs i) zeros) j in
                let h =
                read_kept w.views k u here (λ v. bag v.hand i) (
                let d = ap (λ (xs : List ℕ). bag xs i) hand in
                omega (arith, times-append i (view_at w.views k).hand l.front)) j in
                omega arith);
            holder =
                λ j.
                sym (read_kept w.views k u here (λ v. bag v.holds i)
                (ap (λ (xs : List ℕ). bag xs i) holds) j);
            desk = λ d. refl;
          })),
        )),
      )

  pub push_puts : (l : Look) (c : Chain) (u : View) → (view_at w.views k).chain ≡ Some c →
      c.end ≡ l.head.top → w.head.top ≡ l.head.top
      → u.hand ≡ minus (view_at w.views k).hand c.items → u.zeros ≡ (view_at w.views k).zeros →
      u.holds ≡ (view_at w.views k).holds
      → (t s : Table) → ShowsTable w t →
      ShowsTable (stepped w k (next_head (first_value c.items) l.head.count) w.length w.links u) s →
      EventMoves w.limits.population (Put (suc k) c.items) t s
  push_puts l c u e ends top hand zeros holds t s a b =
      let m = chain_of w k law here busy c e in
      let all : b.common ≡ c.items ++ a.common =
      spells_same (link_in w.links) (first_value c.items) b.common (c.items ++ a.common)
      b.spelled
      (path_append (link_in w.links) (first_value c.items) c.items a.common c.end 0 m.linked
      (path_from _ _ _ _ _ (top ∙ sym ends) a.spelled)) in
      let w' = stepped w k (next_head (first_value c.items) l.head.count) w.length w.links u in
      let counts : (i : ℕ) → bag b.common i ≡ bag c.items i + bag a.common i =
      λ i.
      (
      let d = ap (λ (xs : List ℕ). bag xs i) all in
      omega (arith, times-append i c.items a.common)) in (
        (λ i. let d = m.in_hand i in let o = (one_place w law i).hand_once (suc k) in omega arith),
        (λ i lt. (
          (λ f. let d = counts i in let h = m.in_hand i in (
            is_in_hand (standing w a.common i) (a.one i lt) (t i) (suc k) (
                let r : 0 < bag (view_at w.views k).hand i + bag (view_at w.views k).zeros i =
                omega arith in
                r) (a.stands i lt),
            is_common (standing w' b.common i) (b.one i lt) (s i) (omega arith) (b.stands i lt),
          )),
          (λ f. let d = counts i in same_at w w' t s w.limits.population refl refl a b i lt (omega arith) (record {
            hand =
                λ j. (let z =
                read_kept w.views k u here (λ v. bag v.zeros i)
                (ap (λ (xs : List ℕ). bag xs i) zeros) j in
                let h =
                read_kept w.views k u here (λ v. bag v.hand i) (
                let g = ap (λ (xs : List ℕ). bag xs i) hand in
                omega (arith, times-minus i (view_at w.views k).hand c.items)) j in
                omega arith);
            holder =
                λ j.
                sym (read_kept w.views k u here (λ v. bag v.holds i)
                (ap (λ (xs : List ℕ). bag xs i) holds) j);
            desk = λ d. refl;
          })),
        )),
      )
