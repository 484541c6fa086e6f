-- What the other of two seats had is the first's, once they are joined, and nothing else moves.
use Rattle.std.proofs.Common.{◌≡◌, ◌≢◌, ℕ, suc, ◌+◌, ◌<◌, List, [], ◌∷◌, length, map, set, refl, sym, ap, ◌∙◌, subst, ⊎_elim, arith}
use Rattle.std.specs.Prelude.{◌==◌}
use Rattle.std.proofs.lemmas.Bool.{cases_eq, cond-true, cond-false, eq-eqb, ne_eqb}
use Rattle.std.proofs.lemmas.List.{length-map, length-set}
use Rattle.commons.specs.Bag.{bag}
use Rattle.step_core.specs.declared.view.View.{View}
use Rattle.step_core.specs.Shows.{standing, ShowsTable, Stands}
use Rattle.step_core.specs.Table.{Place, Common, Hand, Held, Table}
use Rattle.step_core.specs.World.{World, empty_view, view_at, view_of, link_in}
use Rattle.step_core.proofs.Bags.{times-nil, times-cons, times-head, times-other, times-append}
use Rattle.step_core.proofs.Events.{read_here, read_else}
use Rattle.step_core.proofs.Shows.{spells_same, same_place}
use Rattle.ground.specs.History.{heir, taken_over, TakesOver}
use Rattle.ground.specs.Own.{AtRest}
use Rattle.ground.proofs.Reviews.{union, joined_views}

heir_of : (a o w : ℕ) → w ≡ o → heir a o w ≡ a
heir_of a o w e = cond-true (w == o) a w (eq-eqb w o e)

heir_else : (a o w : ℕ) → w ≢ o → heir a o w ≡ w
heir_else a o w n = cond-false (w == o) a w (ne_eqb w o n)

-- how often each is among the heirs
module _ (a o : ℕ) (apart : o ≢ a) where
  abbrev pub heirs : List ℕ → List ℕ
  heirs ws = map (λ w. heir a o w) ws

  more : (w : ℕ) (ws : List ℕ) (v : ℕ) → (w ≡ o → bag (a ∷ heirs ws) v ≡ bag (heirs (w ∷ ws)) v)
      × (w ≢ o → bag (w ∷ heirs ws) v ≡ bag (heirs (w ∷ ws)) v)
  more w ws v = (
    (λ e. ap (λ (x : ℕ). bag (x ∷ heirs ws) v) (sym (heir_of a o w e))),
    (λ n. ap (λ (x : ℕ). bag (x ∷ heirs ws) v) (sym (heir_else a o w n))),
  )

  pub of_first : (ws : List ℕ) → bag (heirs ws) a ≡ bag ws a + bag ws o
  of_first [] = omega (arith, times-nil a, times-nil o)
  of_first (w ∷ ws) =
      let rest : bag (heirs ws) a ≡ bag ws a + bag ws o = of_first ws in
      ⊎_elim
      (λ (e : w ≡ o).
      let here = (more w ws a).0 e in
      let mine = ap (λ (x : ℕ). bag (x ∷ ws) o) e in
      let theirs = ap (λ (x : ℕ). bag (x ∷ ws) a) e in
      omega (arith, times-head a (heirs ws), times-head o ws, times-other a o ws apart))
      (λ (n : w ≢ o).
      let here = (more w ws a).1 n in
      omega (arith, times-cons a w (heirs ws), times-cons a w ws, times-other o w ws n))
      (cases_eq w o)

  pub of_second : (ws : List ℕ) → bag (heirs ws) o ≡ 0
  of_second [] = times-nil o
  of_second (w ∷ ws) =
      let rest : bag (heirs ws) o ≡ 0 = of_second ws in
      ⊎_elim
      (λ (e : w ≡ o).
      let here = (more w ws o).0 e in
      omega (arith, times-other o a (heirs ws) (λ s. apart (sym s))))
      (λ (n : w ≢ o).
      let here = (more w ws o).1 n in
      omega (arith, times-other o w (heirs ws) n))
      (cases_eq w o)

  pub of_third : (v : ℕ) → v ≢ a → v ≢ o → (ws : List ℕ) → bag (heirs ws) v ≡ bag ws v
  of_third v not_one not_two [] = refl
  of_third v not_one not_two (w ∷ ws) =
      let rest : bag (heirs ws) v ≡ bag ws v = of_third v not_one not_two ws in
      ⊎_elim
      (λ (e : w ≡ o).
      let here = (more w ws v).0 e in
      let theirs = ap (λ (x : ℕ). bag (x ∷ ws) v) e in
      omega (arith, times-other v a (heirs ws) (λ s. not_one (sym s)), times-other v o ws (λ s. not_two (sym s))))
      (λ (n : w ≢ o).
      let here = (more w ws v).1 n in
      omega (arith, times-cons v w (heirs ws), times-cons v w ws))
      (cases_eq w o)

module _ (w : World) (k j : ℕ) (here : k < length w.views) (there : j < length w.views) (apart : j ≢ k)
    (rest : AtRest (view_at w.views k)) (rest' : AtRest (view_at w.views j)) where
  abbrev after : World
  after = record w { views = joined_views w.views k j }

  abbrev one : List View
  one = set w.views k (union w.views k j)

  inside : j < length one
  inside = let e = length-set w.views k (union w.views k j) in omega arith

  -- a number of each view, of which the one view has what both had
  module _ (f : View → ℕ) (bare : f (empty_view 0) ≡ 0)
      (both : f (union w.views k j) ≡ f (view_at w.views k) + f (view_at w.views j)) where
    at_first : f (view_of after.views (suc k)) ≡ f (view_at w.views k) + f (view_at w.views j)
    at_first =
        read_else one j (empty_view 0) inside f (suc k) (λ e. apart (let g : j ≡ k = omega arith in g))
        ∙ (read_here w.views k (union w.views k j) here f ∙ both)

    at_second : f (view_of after.views (suc j)) ≡ 0
    at_second = read_here one j (empty_view 0) inside f ∙ bare

    at_third : (n : ℕ) → n ≢ suc k → n ≢ suc j → f (view_of after.views n) ≡ f (view_of w.views n)
    at_third n not_one not_two =
        read_else one j (empty_view 0) inside f n not_two
        ∙ read_else w.views k (union w.views k j) here f n not_one

  module _ (i : ℕ) (common : List ℕ) where
    in_hand : View → ℕ
    in_hand v = bag v.hand i + bag v.zeros i

    hand_both : bag (union w.views k j).hand i + bag (union w.views k j).zeros i
        ≡ (bag (view_at w.views k).hand i + bag (view_at w.views k).zeros i)
        + (bag (view_at w.views j).hand i + bag (view_at w.views j).zeros i)
    hand_both =
        let a = ap (λ (xs : List ℕ). bag xs i) rest.zeros in
        let b = ap (λ (xs : List ℕ). bag xs i) rest'.zeros in
        omega (arith, times-append i (view_at w.views k).hand (view_at w.views j).hand, times-nil i)

    holds_both : bag (union w.views k j).holds i ≡ bag (view_at w.views k).holds i + bag (view_at w.views j).holds i
    holds_both = times-append i (view_at w.views k).holds (view_at w.views j).holds

    bare_hand : bag (empty_view 0).hand i + bag (empty_view 0).zeros i ≡ 0
    bare_hand = omega (arith, times-nil i)

    -- the place of an element that is taken over is true of it
    stands_over : (p : Place) → Stands (standing w common i) p → Stands (standing after common i) (taken_over (suc k) (suc j) p)
    stands_over Common h = h
    stands_over (Hand v) h =
        ⊎_elim
        (λ (e : v ≡ suc j).
        subst (λ (n : ℕ). 0 < (standing after common i).hand n) (sym (heir_of (suc k) (suc j) v e))
        (let f = at_first (λ x. bag x.hand i + bag x.zeros i) bare_hand hand_both in
        let g = ap (λ (n : ℕ). (standing w common i).hand n) e in
        omega arith))
        (λ (n : v ≢ suc j).
        subst (λ (n : ℕ). 0 < (standing after common i).hand n) (sym (heir_else (suc k) (suc j) v n))
        (⊎_elim
        (λ (e : v ≡ suc k).
        let f = at_first (λ x. bag x.hand i + bag x.zeros i) bare_hand hand_both in
        let g = ap (λ (n : ℕ). (standing w common i).hand n) e in
        let s = ap (λ (n : ℕ). (standing after common i).hand n) e in
        omega arith)
        (λ (m : v ≢ suc k).
        let f = at_third (λ x. bag x.hand i + bag x.zeros i) bare_hand hand_both v m n in
        omega arith)
        (cases_eq v (suc k))))
        (cases_eq v (suc j))
    stands_over (Held ws ds) h = (
      (let some = h.0 in let same = length-map ws (λ (w : ℕ). heir (suc k) (suc j) w) in omega arith),
      (λ v. holder v),
      h.2,
    )
      where
        not_one : suc j ≢ suc k
        not_one e = apart (let g : j ≡ k = omega arith in g)

        holder : (v : ℕ) → bag (map (λ w. heir (suc k) (suc j) w) ws) v ≡ (standing after common i).holder v
        holder v =
            ⊎_elim
            (λ (e : v ≡ suc k).
            subst (λ (n : ℕ). bag (map (λ w. heir (suc k) (suc j) w) ws) n ≡ (standing after common i).holder n) (sym e)
            (let a = of_first (suc k) (suc j) not_one ws in
            let b = at_first (λ x. bag x.holds i) (times-nil i) holds_both in
            let c = h.1 (suc k) in
            let d = h.1 (suc j) in
            omega arith))
            (λ (n : v ≢ suc k).
            ⊎_elim
            (λ (e : v ≡ suc j).
            subst (λ (n : ℕ). bag (map (λ w. heir (suc k) (suc j) w) ws) n ≡ (standing after common i).holder n) (sym e)
            (of_second (suc k) (suc j) not_one ws ∙ sym (at_second (λ x. bag x.holds i) (times-nil i) holds_both)))
            (λ (m : v ≢ suc j).
            of_third (suc k) (suc j) not_one v n m ws
            ∙ (h.1 v ∙ sym (at_third (λ x. bag x.holds i) (times-nil i) holds_both v n m)))
            (cases_eq v (suc j)))
            (cases_eq v (suc k))

  pub takes_over : (t r : Table) → ShowsTable w t → ShowsTable after r → TakesOver w.limits.population (suc k) (suc j) t r
  takes_over t r before later i below =
      let same =
      spells_same (link_in w.links) w.head.top before.common later.common before.spelled later.spelled in
      let stood = subst (λ (c : List ℕ). Stands (standing w c i) (t i)) same (before.stands i below) in
      same_place (standing after later.common i) (later.one i below) (standing after later.common i)
      (later.one i below) refl (λ n. refl) (λ n. refl) (λ d. refl) (taken_over (suc k) (suc j) (t i)) (r i)
      (stands_over i later.common (t i) stood) (later.stands i below)
