-- What the count steps and the desk steps do to the table.
use Rattle.std.proofs.Common.{◌≡◌, ℕ, suc, ◌+◌, ◌<◌, ◌≢◌, List, [], ◌∷◌, ◌++◌, length, set, refl, sym, ap, ◌∙◌, subst, arith}
use Rattle.commons.specs.Bag.{bag}
use Rattle.step_core.specs.Bags.{without}
use Rattle.step_core.specs.World.{View, Desk, World, view_at, link_in, shelf, all_holds}
use Rattle.step_core.specs.Table.{Place, Common, Hand, Held, Table, Attach, Free, Same, Claimed, Gained, Freed, Becomes, EventMoves, SameTable, Claim}
use Rattle.step_core.specs.Shows.{Standing, standing, Stands, OnePlace, ShowsTable}
use Rattle.step_core.proofs.Rules.{FourLaws}
use Rattle.step_core.proofs.Bags.{times-nil, times-head, times-last, times-but_last, times-one, times-not_one, times-other, times-without_here, times-without_other, at_or_else}
use Rattle.step_core.proofs.Frame.{moved}
use Rattle.step_core.proofs.StackSteps.{one_view, two_workers}
use Rattle.step_core.proofs.Shows.{spells_same, one_desk, is_in_hand}
use Rattle.step_core.proofs.Events.{read_here, read_else, read_kept, same_at}

-- a place of one that somebody holds
abbrev pub IsHeld : Standing → Place → Type 0
IsHeld s p = (ws : List ℕ) × (ds : List ℕ) × (p ≡ Held ws ds) × Stands s (Held ws ds)

pub held_place : (s : Standing) (p : Place) → (0 < s.common → ⊥) → ((k : ℕ) → 0 < s.hand k → ⊥) →
    Stands s p → IsHeld s p
held_place s Common c h a = absurd (c a)
held_place s (Hand k) c h a = absurd (h k a)
held_place s (Held ws ds) c h a = (ws, ds, refl, a)

pub is_held : (s : Standing) (one : OnePlace s) (k : ℕ) → 0 < s.holder k → (p : Place) → Stands s p → IsHeld s p
is_held s one k o p a =
    held_place s p (λ c. let x = (one.common_alone c k).1 in omega arith)
    (λ j h. let x = (one.hand_alone j h k).0 in omega arith) a

-- from a fact of the place that it is
pub at_place : (P : Place → Type 0) (p q : Place) → p ≡ q → P q → P p
at_place P p q e h = subst P (sym e) h

module _ (w : World) (k : ℕ) (here : k < length w.views) (law : FourLaws w) (cs : List ℕ) (u : View)
    (t s : Table) (a : ShowsTable w t) (b : ShowsTable (moved w k w.head w.length w.links cs u) s) where
  same_common : a.common ≡ b.common
  same_common = spells_same (link_in w.links) w.head.top a.common b.common a.spelled b.spelled

  after : World
  after = moved w k w.head w.length w.links cs u

  -- an element that the step leaves alone
  beside : (i x : ℕ) → x < w.limits.population →
      bag u.hand x + bag u.zeros x
      ≡ bag (view_at w.views k).hand x + bag (view_at w.views k).zeros x →
      bag u.holds x ≡ bag (view_at w.views k).holds x → Same (t x) (s x)
  beside i x lt hand holds =
      same_at w (moved w k w.head w.length w.links cs u) t s w.limits.population refl refl a b x lt
      (ap (λ (xs : List ℕ). bag xs x) same_common) (record {
        hand = λ j. sym (read_kept w.views k u here (λ v. bag v.hand x + bag v.zeros x) hand j);
        holder = λ j. sym (read_kept w.views k u here (λ v. bag v.holds x) holds j);
        desk = λ d. refl;
      })

  pub claims : (i : ℕ) → 0 < bag (view_at w.views k).hand i →
      u.hand ≡ without i (view_at w.views k).hand → u.zeros ≡ (view_at w.views k).zeros →
      u.holds ≡ (view_at w.views k).holds ++ i ∷ [] →
      EventMoves w.limits.population (Claim (suc k) i) t s
  claims i mine hand zeros holds = (
    tt,
    at_or_else i (λ x. x < w.limits.population → Becomes (Claim (suc k) i) x (t x) (s x))
        (λ lt.
        let o = a.one i lt in
        let r = b.one i lt in
        let sa = standing w a.common i in
        let sb = standing (moved w k w.head w.length w.links cs u) b.common i in
        let inh : 0 < sa.hand (suc k) =
        (
        let g : 0 < bag (view_at w.views k).hand i + bag (view_at w.views k).zeros i =
        omega arith in
        g) in
        let now : sb.holder (suc k) ≡ 1 =
        (
        let c = read_here w.views k u here (λ v. bag v.holds i) in
        let d = ap (λ (xs : List ℕ). bag xs i) holds in
        let e : bag (view_at w.views k).holds i ≡ 0 =
        (o.hand_alone (suc k) inh (suc k)).0 in
        omega (arith, times-last i (view_at w.views k).holds)) in
        let h = is_held sb r (suc k) (omega arith) (s i) (b.stands i lt) in (
          (λ f. at_place (Claimed (suc k) (t i)) (s i) (Held h.0 h.1) h.2 (
            is_in_hand sa o (t i) (suc k) inh (a.stands i lt),
            at_or_else (suc k) (λ y. bag h.0 y ≡ bag (suc k ∷ []) y) (h.3.1 (suc k) ∙ (now ∙ sym (times-one (suc k))))
                (λ y n. h.3.1 y ∙ (
                read_else w.views k u here (λ v. bag v.holds i) y (λ e. n (sym e))
                ∙ ((o.hand_alone (suc k) inh y).0 ∙ sym (times-not_one y (suc k) n)))),
            (λ y. h.3.2 y ∙ ((o.hand_alone (suc k) inh y).1 ∙ sym (times-nil y))),
          )),
          (λ f. absurd (omega (arith, times-one i))),
        ))
        (λ x n lt. (
          (λ f. absurd (omega (arith, times-not_one x i n))),
          (λ f. beside i x lt
              (
              let c = ap (λ (xs : List ℕ). bag xs x) hand in
              let d = ap (λ (xs : List ℕ). bag xs x) zeros in
              omega (arith, times-without_other x i (view_at w.views k).hand n))
              (ap (λ (xs : List ℕ). bag xs x) holds ∙ times-but_last x i (view_at w.views k).holds n)),
        )),
  )

  pub attaches : (i : ℕ) → 0 < bag (view_at w.views k).holds i → u.hand ≡ (view_at w.views k).hand →
      u.zeros ≡ (view_at w.views k).zeros → u.holds ≡ (view_at w.views k).holds ++ i ∷ [] →
      EventMoves w.limits.population (Attach (suc k) i) t s
  attaches i mine hand zeros holds = (
    tt,
    at_or_else i (λ x. x < w.limits.population → Becomes (Attach (suc k) i) x (t x) (s x))
        (λ lt.
        let o = a.one i lt in
        let r = b.one i lt in
        let sa = standing w a.common i in
        let sb = standing (moved w k w.head w.length w.links cs u) b.common i in
        let now : sb.holder (suc k) ≡ 1 + sa.holder (suc k) =
        (
        let c = read_here w.views k u here (λ v. bag v.holds i) in
        let d = ap (λ (xs : List ℕ). bag xs i) holds in
        let g : bag (view_at (set w.views k u) k).holds i
        ≡ 1 + bag (view_at w.views k).holds i =
        omega (arith, times-last i (view_at w.views k).holds) in
        g) in
        let g = is_held sa o (suc k) mine (t i) (a.stands i lt) in
        let h = is_held sb r (suc k) (omega arith) (s i) (b.stands i lt) in (
          (λ f. at_place (λ p. Gained (suc k) p (s i)) (t i) (Held g.0 g.1) g.2 (at_place
              (Gained (suc k) (Held g.0 g.1)) (s i) (Held h.0 h.1) h.2 (
                (let c = g.3.1 (suc k) in omega arith),
                at_or_else (suc k) (λ y. bag h.0 y ≡ bag (suc k ∷ g.0) y) (
                    let c = h.3.1 (suc k) in
                    let d = g.3.1 (suc k) in
                    omega (arith, times-head (suc k) g.0))
                    (λ y n. h.3.1 y ∙ (
                    read_else w.views k u here (λ v. bag v.holds i) y (λ e. n (sym e))
                    ∙ (sym (g.3.1 y) ∙ sym (times-other y (suc k) g.0 n)))),
                (λ y. h.3.2 y ∙ sym (g.3.2 y)),
              ))),
          (λ f. absurd (omega (arith, times-one i))),
        ))
        (λ x n lt. (
          (λ f. absurd (omega (arith, times-not_one x i n))),
          (λ f. beside i x lt
              (
              let c = ap (λ (xs : List ℕ). bag xs x) hand in
              let d = ap (λ (xs : List ℕ). bag xs x) zeros in
              omega arith)
              (ap (λ (xs : List ℕ). bag xs x) holds ∙ times-but_last x i (view_at w.views k).holds n)),
        )),
  )

  -- the last hold of all
  pub frees_last : (i : ℕ) → 0 < bag (view_at w.views k).holds i → all_holds i w.views w.desks ≡ 1 →
      bag u.hand i + bag u.zeros i ≡ 1 →
      ((x : ℕ) → i ≢ x → bag u.hand x + bag u.zeros x
      ≡ bag (view_at w.views k).hand x + bag (view_at w.views k).zeros x) →
      u.holds ≡ without i (view_at w.views k).holds → EventMoves w.limits.population (Free (suc k) i) t s
  frees_last i mine one back others holds = (
    tt,
    at_or_else i (λ x. x < w.limits.population → Becomes (Free (suc k) i) x (t x) (s x))
        (λ lt.
        let o = a.one i lt in
        let r = b.one i lt in
        let sa = standing w a.common i in
        let sb = standing (moved w k w.head w.length w.links cs u) b.common i in
        let g = is_held sa o (suc k) mine (t i) (a.stands i lt) in
        let inh : 0 < sb.hand (suc k) =
        (
        let c = read_here w.views k u here (λ v. bag v.hand i + bag v.zeros i) in
        let d : 0 < bag (view_at (set w.views k u) k).hand i
        + bag (view_at (set w.views k u) k).zeros i =
        omega arith in
        d) in
        let v = one_view (λ (v : View). bag v.holds i) w.views k (times-nil i) in (
          (λ f. at_place (λ p. Freed (suc k) p (s i)) (t i) (Held g.0 g.1) g.2 (at_place
              (Freed (suc k) (Held g.0 g.1)) (s i) (Hand (suc k))
              (is_in_hand sb r (s i) (suc k) inh (b.stands i lt)) (
                refl,
                at_or_else (suc k) (λ y. bag g.0 y ≡ bag (suc k ∷ []) y)
                    (let c = g.3.1 (suc k) in omega (arith, times-one (suc k)))
                    (λ y n. let two =
                    two_workers (λ (v : View). bag v.holds i) w.views y (suc k) (times-nil i)
                    (λ e. n (sym e)) in let c =
                    g.3.1 y in omega (arith, times-not_one y (suc k) n)),
                (λ y. let c =
                    g.3.2 y in let d =
                    one_desk (λ (x : Desk). bag (shelf x) i) w.desks y (times-nil i) in omega
                    (arith, times-nil y)),
              ))),
          (λ f. absurd (omega (arith, times-one i))),
        ))
        (λ x n lt. (
          (λ f. absurd (omega (arith, times-not_one x i n))),
          (λ f. beside i x lt (others x n)
              (ap (λ (xs : List ℕ). bag xs x) holds ∙ times-without_other x i (view_at w.views k).holds n)),
        )),
  )

  -- another hold is left
  pub frees_one : (i : ℕ) → 0 < bag (view_at w.views k).holds i →
      u.hand ≡ (view_at w.views k).hand → u.zeros ≡ (view_at w.views k).zeros →
      u.holds ≡ without i (view_at w.views k).holds → EventMoves w.limits.population (Free (suc k) i) t s
  frees_one i mine hand zeros holds = (
    tt,
    at_or_else i (λ x. x < w.limits.population → Becomes (Free (suc k) i) x (t x) (s x))
        (λ lt.
        let o = a.one i lt in
        let r = b.one i lt in
        let sa = standing w a.common i in
        let sb = standing (moved w k w.head w.length w.links cs u) b.common i in
        let g = is_held sa o (suc k) mine (t i) (a.stands i lt) in
        let same : (j : ℕ) → sb.hand j ≡ sa.hand j =
        λ j.
        read_kept w.views k u here (λ v. bag v.hand i + bag v.zeros i)
        (
        let c = ap (λ (xs : List ℕ). bag xs i) hand in
        let d = ap (λ (xs : List ℕ). bag xs i) zeros in
        omega arith) j in
        let h =
        held_place sb (s i) (λ c. let e =
        ap (λ (xs : List ℕ). bag xs i) same_common in let d =
        (o.common_alone (omega arith) (suc k)).1 in omega arith)
        (λ j c. let e =
        same j in let d = (o.hand_alone j (omega arith) (suc k)).0 in omega arith)
        (b.stands i lt) in (
          (λ f. at_place (λ p. Freed (suc k) p (s i)) (t i) (Held g.0 g.1) g.2 (at_place
              (Freed (suc k) (Held g.0 g.1)) (s i) (Held h.0 h.1) h.2 (
                at_or_else (suc k) (λ y. bag g.0 y ≡ bag (suc k ∷ h.0) y)
                    (
                    let c = g.3.1 (suc k) in
                    let d = h.3.1 (suc k) in
                    let e = read_here w.views k u here (λ v. bag v.holds i) in
                    let f = ap (λ (xs : List ℕ). bag xs i) holds in
                    omega (
                      arith,
                      times-head (suc k) h.0,
                      times-without_here i (view_at w.views k).holds,
                    ))
                    (λ y n. g.3.1 y ∙ (
                    sym (read_else w.views k u here (λ v. bag v.holds i) y (λ e. n (sym e)))
                    ∙ (sym (h.3.1 y) ∙ sym (times-other y (suc k) h.0 n)))),
                (λ y. g.3.2 y ∙ sym (h.3.2 y)),
              ))),
          (λ f. absurd (omega (arith, times-one i))),
        ))
        (λ x n lt. (
          (λ f. absurd (omega (arith, times-not_one x i n))),
          (λ f. beside i x lt
              (
              let c = ap (λ (xs : List ℕ). bag xs x) hand in
              let d = ap (λ (xs : List ℕ). bag xs x) zeros in
              omega arith)
              (ap (λ (xs : List ℕ). bag xs x) holds ∙ times-without_other x i (view_at w.views k).holds n)),
        )),
  )

  -- a step of the counts that moves nothing
  pub quiet_count : ((x : ℕ) → bag u.hand x + bag u.zeros x
      ≡ bag (view_at w.views k).hand x + bag (view_at w.views k).zeros x) →
      u.holds ≡ (view_at w.views k).holds → SameTable w.limits.population t s
  quiet_count hand holds x lt = beside x x lt (hand x) (ap (λ (xs : List ℕ). bag xs x) holds)
