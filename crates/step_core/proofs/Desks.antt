-- The six desk steps keep the law.
use Rattle.std.proofs.Common.{◌≡◌, ℕ, zero, suc, ◌+◌, ◌<◌, ◌≤◌, ◌≢◌, Bool, true, false, not, List, [], ◌∷◌, ◌++◌, Option, Some, None, length, set, refl, sym, ap, ◌∙◌, subst, arith, ⊎_elim, get_or-set_other, get_or-set_same}
use Rattle.std.specs.Prelude.{sum_by, IfSome, ◌==◌, ◌&&◌}
use Rattle.std.proofs.lemmas.Bool.{cases_eq, cond_both, eqb-true, eq-eqb, ne_eqb, cond-true, cond-false}
use Rattle.std.proofs.lemmas.List.Sums.{sum_by-set}
use Rattle.commons.specs.Bag.{bag}
use Rattle.commons.specs.Packets.{holds_of_packet, holds_in_slot}
use Rattle.step_core.specs.Bags.{one_if, minus, Includes}
use Rattle.step_core.specs.World.{Work, View, Desk, Phase, ToFill, Filled, Seized, TakenOut, Packet, World, empty_view, view_at, no_desk, desk_at, link_in, shelf, all_holds, every_part}
use Rattle.step_core.specs.Law.{is_filling, left_in, fills, empties}
use Rattle.step_core.specs.Steps.{at_desk, phase_at}
use Rattle.step_core.proofs.Rules.{StackView, CountView, FourLaws}
use Rattle.step_core.proofs.Bags.{times-nil, times-append, times-minus, at_or_else}
use Rattle.step_core.proofs.Frame.{sum_kept, each_view}
use Rattle.step_core.proofs.StackSteps.{one_view, two_views, busy_view}

-- the world after a step on the desk d, which is x afterwards, by a worker whose holds, headers
-- and work change
abbrev pub worked : World → ℕ → ℕ → Desk → List ℕ → List ℕ → Option Work → World
worked w k d x hs rs work = record w {
  desks = set w.desks d x;
  views = set w.views k (record (view_at w.views k) { holds = hs; headers = rs; work = work });
}

pub if_some_each : {X : Type 0} (o : Option X) (P : X → Type 0) → ((x : X) → o ≡ Some x → P x) → IfSome o P
if_some_each None P f = tt
if_some_each (Some x) P f = f x refl

-- a fact of each desk, where the one at d is exchanged
each_desk : (P : Desk → Type 0) (desks : List Desk) (d : ℕ) (x : Desk) → d < length desks → P x →
    ((e : ℕ) → P (desk_at desks e)) → (e : ℕ) → P (desk_at (set desks d x) e)
each_desk P desks d x inside here others = at_or_else d (λ e. P (desk_at (set desks d x) e))
    (subst P (sym (get_or-set_same desks d x no_desk inside)) here)
    (λ e n. subst P (sym (get_or-set_other desks d e x no_desk (λ s. n (sym s)))) (others e))

record DeskStep (w : World) (k d : ℕ) (x : Desk) (hs : List ℕ) (work : Option Work) : Type 0 where
  inside : d < length w.desks
  passes : (i : ℕ) → bag hs i + bag (shelf x) i ≡ bag (view_at w.views k).holds i + bag (shelf (desk_at w.desks d)) i
  word : x.word ≤ 3
  fill_here : one_if (x.word == 1) + fills d (view_at w.views k).work
      ≡ one_if ((desk_at w.desks d).word == 1) + fills d work
  empty_here : one_if (x.word == 3) + empties d (view_at w.views k).work
      ≡ one_if ((desk_at w.desks d).word == 3) + empties d work
  fill_else : (e : ℕ) → d ≢ e → fills e work ≡ fills e (view_at w.views k).work
  empty_else : (e : ℕ) → d ≢ e → empties e work ≡ empties e (view_at w.views k).work
  empty : x.word ≡ 0 → x.slot ≡ None
  full : x.word ≡ 2 → (p : Packet) × (x.slot ≡ Some p)
  mine : IfSome work (λ y. (y.desk ≡ d) × (x.slot ≡ left_in y.phase))
  beside : (j : ℕ) → j ≢ k → (y : Work) → (view_at w.views j).work ≡ Some y → y.desk ≡ d →
      x.slot ≡ (desk_at w.desks d).slot

module _ (w : World) (k d : ℕ) (here : k < length w.views) (busy : 0 < (view_at w.views k).part)
    (law : FourLaws w) where
  desk_kept : (x : Desk) (hs rs : List ℕ) (work : Option Work) → DeskStep w k d x hs work →
      FourLaws (worked w k d x hs rs work)
  desk_kept x hs rs work c =
      let u : View = record (view_at w.views k) { holds = hs; headers = rs; work = work } in
      let same : (i : ℕ) → all_holds i (set w.views k u) (set w.desks d x) ≡ all_holds i w.views w.desks = λ i.
      (let a = sum_by-set (λ (v : View). bag v.holds i) w.views k u (empty_view 0) here in
      let b = sum_by-set (λ (e : Desk). bag (shelf e) i) w.desks d x no_desk c.inside in
      let p = c.passes i in
      omega arith) in
      let hand = λ (i : ℕ). sum_kept (λ (v : View). bag v.hand i) w.views k u here refl in
      let zeros = λ (i : ℕ). sum_kept (λ (v : View). bag v.zeros i) w.views k u here refl in
      let v = law.stack.views k in
      record {
        stack = record {
          common = law.stack.common;
          spelled = law.stack.spelled;
          one_place =
              λ i.
              (
              let a = same i in
              let b = hand i in
              let z = zeros i in
              let p = law.stack.one_place i in
              omega arith);
          credited =
              (
              let a = sum_kept (λ (v : View). v.credit) w.views k u here refl in
              let b = law.stack.credited in
              omega arith);
          views =
              each_view (StackView w.limits.population (every_part w.limits) w.head (link_in w.links))
              w.views k u here (busy_view _ _ _ _ u busy v.seen v.look v.chain)
              (λ j n. law.stack.views j);
          parts = sum_kept (λ (v : View). v.part) w.views k u here refl ∙ law.stack.parts;
          all_links = law.stack.all_links;
          links_in_range = law.stack.links_in_range;
          top_in_range = law.stack.top_in_range;
        };
        counts = record {
          counted = λ i lt. (let a = same i in let z = zeros i in let p = law.counts.counted i lt in omega arith);
          limited = law.counts.limited;
          some_limit = law.counts.some_limit;
          all_counts = law.counts.all_counts;
          views =
              each_view CountView w.views k u here (record
              { no_zeros = λ e. absurd (omega arith); no_holds = λ e. absurd (omega arith) })
              (λ j n. law.counts.views j);
        };
        desks = record {
          words = each_desk (λ o. o.word ≤ 3) w.desks d x c.inside c.word law.desks.words;
          filled =
              at_or_else d (λ e.
              sum_by (λ (v : View). fills e v.work) (set w.views k u)
              ≡ one_if ((desk_at (set w.desks d x) e).word == 1))
              (let a =
              sum_by-set (λ (v : View). fills d v.work) w.views k u (empty_view 0) here in let b
              =
              law.desks.filled d in let f = c.fill_here in
              let g =
              ap (λ (o : Desk). one_if (o.word == 1))
              (get_or-set_same w.desks d x no_desk c.inside) in
              omega arith)
              (λ e n. let a =
              sum_by-set (λ (v : View). fills e v.work) w.views k u (empty_view 0) here in let b
              =
              law.desks.filled e in let f = c.fill_else e n in
              let g =
              ap (λ (o : Desk). one_if (o.word == 1))
              (get_or-set_other w.desks d e x no_desk (λ s. n (sym s))) in
              omega arith);
          emptied =
              at_or_else d (λ e.
              sum_by (λ (v : View). empties e v.work) (set w.views k u)
              ≡ one_if ((desk_at (set w.desks d x) e).word == 3))
              (let a =
              sum_by-set (λ (v : View). empties d v.work) w.views k u (empty_view 0) here in let
              b =
              law.desks.emptied d in let f = c.empty_here in
              let g =
              ap (λ (o : Desk). one_if (o.word == 3))
              (get_or-set_same w.desks d x no_desk c.inside) in
              omega arith)
              (λ e n. let a =
              sum_by-set (λ (v : View). empties e v.work) w.views k u (empty_view 0) here in let
              b =
              law.desks.emptied e in let f = c.empty_else e n in
              let g =
              ap (λ (o : Desk). one_if (o.word == 3))
              (get_or-set_other w.desks d e x no_desk (λ s. n (sym s))) in
              omega arith);
          empty = each_desk (λ o. o.word ≡ 0 → o.slot ≡ None) w.desks d x c.inside c.empty law.desks.empty;
          full =
              each_desk (λ o. o.word ≡ 2 → (p : Packet) × (o.slot ≡ Some p)) w.desks d x c.inside
              c.full law.desks.full;
          views =
              each_view (λ v. v.part ≡ 0 → v.work ≡ None) w.views k u here
              (λ e. absurd (omega arith)) (λ j n. law.desks.views j);
        };
        slots = record {
          slots =
              each_view (λ v.
              IfSome v.work (λ y. (desk_at (set w.desks d x) y.desk).slot ≡ left_in y.phase))
              w.views k u here (mine work c.mine)
              (λ j n. let P = λ (y : Work). (desk_at w.desks y.desk).slot ≡ left_in y.phase in
              if_some_each (view_at w.views j).work _ (λ y e.
              let old : (desk_at w.desks y.desk).slot ≡ left_in y.phase =
              subst (λ (o : Option Work). IfSome o P) e (law.slots.slots j) in
              ⊎_elim
              (λ (s : y.desk ≡ d). ap (λ (a : ℕ). (desk_at (set w.desks d x) a).slot) s
              ∙ (ap (λ (o : Desk). o.slot) (get_or-set_same w.desks d x no_desk c.inside)
              ∙ (c.beside j n y e s
              ∙ (ap (λ (a : ℕ). (desk_at w.desks a).slot) (sym s) ∙ old))))
              (λ (m : y.desk ≢ d). ap (λ (o : Desk). o.slot) (get_or-set_other w.desks d y.desk x no_desk m) ∙ old)
              (cases_eq y.desk d)));
        };
      }
    where
      mine : (o : Option Work) → IfSome o (λ y. (y.desk ≡ d) × (x.slot ≡ left_in y.phase)) →
          IfSome o (λ y. (desk_at (set w.desks d x) y.desk).slot ≡ left_in y.phase)
      mine None h = tt
      mine (Some y) h =
          ap (λ (a : ℕ). (desk_at (set w.desks d x) a).slot) h.0
          ∙ (ap (λ (o : Desk). o.slot) (get_or-set_same w.desks d x no_desk c.inside) ∙ h.1)

fills_here : (d : ℕ) (ph : Phase) → fills d (Some (record { desk = d; phase = ph })) ≡ one_if (is_filling ph)
fills_here d ph = ap (λ t. one_if (t && is_filling ph)) (eq-eqb d d refl)

empties_here : (d : ℕ) (ph : Phase) → empties d (Some (record { desk = d; phase = ph })) ≡ one_if (not (is_filling ph))
empties_here d ph = ap (λ t. one_if (t && not (is_filling ph))) (eq-eqb d d refl)

fills_else : (d e : ℕ) (ph : Phase) → d ≢ e → fills e (Some (record { desk = d; phase = ph })) ≡ 0
fills_else d e ph n = ap (λ t. one_if (t && is_filling ph)) (ne_eqb d e n)

empties_else : (d e : ℕ) (ph : Phase) → d ≢ e → empties e (Some (record { desk = d; phase = ph })) ≡ 0
empties_else d e ph n = ap (λ t. one_if (t && not (is_filling ph))) (ne_eqb d e n)

-- work at a desk fills it or empties it
one_or_other : (b : Bool) → one_if b + one_if (not b) ≡ 1
one_or_other true = refl
one_or_other false = refl

works_here : (d : ℕ) (y : Work) → y.desk ≡ d → fills d (Some y) + empties d (Some y) ≡ 1
works_here d y e = let f = fills_here y.desk y.phase in let g = empties_here y.desk y.phase in
    let both : fills y.desk (Some y) + empties y.desk (Some y) ≡ 1 = omega (arith, one_or_other (is_filling y.phase)) in
    subst (λ (a : ℕ). fills a (Some y) + empties a (Some y) ≡ 1) e both

true_from_one : (b : Bool) → 1 ≤ one_if b → b ≡ true
true_from_one true h = refl
true_from_one false h = absurd (omega arith)

pub desk_inside : (desks : List Desk) (d : ℕ) → 0 < (desk_at desks d).word → d < length desks
desk_inside [] d h = absurd (omega arith)
desk_inside (x ∷ xs) zero h = omega arith
desk_inside (x ∷ xs) (suc d) h = let m = desk_inside xs d h in omega arith

-- what is held on a desk, by its word
pub no_shelf : (x : Desk) (n : ℕ) → x.word ≡ n → n ≢ 2 → (i : ℕ) → bag (shelf x) i ≡ 0
no_shelf x n is ne i =
    ap (λ (xs : List ℕ). bag xs i)
    (cond-false (x.word == 2) _ _ (ne_eqb x.word 2 (λ e. ne (sym is ∙ e)))) ∙ times-nil i

pub full_shelf : (x : Desk) (p : Packet) → x.word ≡ 2 → x.slot ≡ Some p → (i : ℕ) →
    bag (shelf x) i ≡ bag (holds_of_packet p) i
full_shelf x p is there i =
    ap (λ (xs : List ℕ). bag xs i)
    (cond-true (x.word == 2) _ _ (eq-eqb x.word 2 is) ∙ ap holds_in_slot there)

-- the work that a view has at a desk
pub phase_there : (d : ℕ) (o : Option Work) (ph : Phase) → phase_at d o ≡ Some ph →
    o ≡ Some (record { desk = d; phase = ph })
phase_there d None ph e = absurd (cc)
phase_there d (Some y) ph e =
    cond_both (y.desk == d) (Some y.phase) None
    (λ r. r ≡ Some ph → ◌≡◌ {A = Option Work} (Some y) (Some (record { desk = d; phase = ph })))
    (λ t h. let s : y.desk ≡ d =
    eqb-true _ _ t in let p : y.phase ≡ ph =
    cc h in λ i. Some (record { desk = s i; phase = p i }))
    (λ t h. absurd (cc h)) e

module _ (w : World) (k d : ℕ) (here : k < length w.views) (law : FourLaws w) where
  pub slot_now : (ph : Phase) → (view_at w.views k).work ≡ Some (record { desk = d; phase = ph }) →
      (desk_at w.desks d).slot ≡ left_in ph
  slot_now ph e =
      subst (λ (o : Option Work). IfSome o (λ y. (desk_at w.desks y.desk).slot ≡ left_in y.phase)) e
      (law.slots.slots k)

  fill_count : (ph : Phase) → (view_at w.views k).work ≡ Some (record { desk = d; phase = ph }) →
      fills d (view_at w.views k).work ≡ one_if (is_filling ph)
  fill_count ph e = ap (fills d) e ∙ fills_here d ph

  empty_count : (ph : Phase) → (view_at w.views k).work ≡ Some (record { desk = d; phase = ph }) →
      empties d (view_at w.views k).work ≡ one_if (not (is_filling ph))
  empty_count ph e = ap (empties d) e ∙ empties_here d ph

  pub word_filling : (ph : Phase) →
      (view_at w.views k).work ≡ Some (record { desk = d; phase = ph }) → is_filling ph ≡ true →
      (desk_at w.desks d).word ≡ 1
  word_filling ph e t =
      let f = fill_count ph e in let g = ap one_if t in
      let one = one_view (λ (v : View). fills d v.work) w.views k refl in let s = law.desks.filled d in
      eqb-true _ _ (true_from_one _ (omega arith))

  pub word_emptying : (ph : Phase) →
      (view_at w.views k).work ≡ Some (record { desk = d; phase = ph }) → is_filling ph ≡ false →
      (desk_at w.desks d).word ≡ 3
  word_emptying ph e t =
      let f = empty_count ph e in let g = ap (λ b. one_if (not b)) t in
      let one = one_view (λ (v : View). empties d v.work) w.views k refl in let s = law.desks.emptied d in
      eqb-true _ _ (true_from_one _ (omega arith))

  -- at most one works at a desk
  alone : (ph : Phase) → (view_at w.views k).work ≡ Some (record { desk = d; phase = ph }) →
      (j : ℕ) → j ≢ k → (y : Work) → (view_at w.views j).work ≡ Some y → y.desk ≡ d → ⊥
  alone ph e j n y f s =
      let a = two_views (λ (v : View). fills d v.work) w.views j k refl n in
      let b = two_views (λ (v : View). empties d v.work) w.views j k refl n in
      let p = law.desks.filled d in let q = law.desks.emptied d in
      let mine = works_here d (record { desk = d; phase = ph }) refl in
      let theirs = works_here d y s in
      let m1 = ap (fills d) e in let m2 = ap (empties d) e in let t1 = ap (fills d) f in let t2 = ap (empties d) f in
      let one : one_if ((desk_at w.desks d).word == 1) + one_if ((desk_at w.desks d).word == 3)
      ≤ 1 =
      not_both (desk_at w.desks d).word in
      omega arith
    where
      not_both : (n : ℕ) → one_if (n == 1) + one_if (n == 3) ≤ 1
      not_both n =
          ⊎_elim (λ (e : n ≡ 1). subst (λ (a : ℕ). one_if (a == 1) + one_if (a == 3) ≤ 1) (sym e)
          (omega arith)) (λ (ne : n ≢ 1). let a =
          ap one_if (ne_eqb n 1 ne) in let b = at_most (n == 3) in omega arith) (cases_eq n 1)
        where
          at_most : (b : Bool) → one_if b ≤ 1
          at_most true = omega arith
          at_most false = omega arith

  module _ (busy : 0 < (view_at w.views k).part) where
    pub hold_won : (view_at w.views k).work ≡ None → d < length w.desks →
        (desk_at w.desks d).word ≡ 0 → FourLaws (worked w k d
        (record { word = 1; slot = (desk_at w.desks d).slot }) (view_at w.views k).holds
        (view_at w.views k).headers (at_desk d ToFill))
    hold_won idle inside nought =
        let o = desk_at w.desks d in let f = ap (fills d) idle in let g = ap (empties d) idle in
        let n1 = ap (λ a. one_if (a == 1)) nought in let n3 = ap (λ a. one_if (a == 3)) nought in
        desk_kept w k d here busy law _ _ _ _ (record {
          inside = inside;
          passes =
              λ i.
              (
              let a = no_shelf o 0 nought (λ e. omega arith) i in
              let b =
              no_shelf (record { word = 1; slot = o.slot }) 1 refl (λ e. omega arith) i in
              omega arith);
          word = omega arith;
          fill_here = (let a = fills_here d ToFill in omega arith);
          empty_here = (let a = empties_here d ToFill in omega arith);
          fill_else = λ e n. fills_else d e ToFill n ∙ sym (ap (fills e) idle);
          empty_else = λ e n. empties_else d e ToFill n ∙ sym (ap (empties e) idle);
          empty = λ e. absurd (omega arith);
          full = λ e. absurd (omega arith);
          mine = (refl, law.desks.empty d nought);
          beside = λ j n y e s. refl;
        })

    pub put_in_done : (p : Packet) →
        (view_at w.views k).work ≡ Some (record { desk = d; phase = ToFill }) →
        FourLaws (worked w k d (record { word = (desk_at w.desks d).word; slot = Some p })
        (view_at w.views k).holds (view_at w.views k).headers (at_desk d (Filled p)))
    put_in_done p work =
        let o = desk_at w.desks d in
        let is = word_filling ToFill work refl in
        let f = fill_count ToFill work in
        let g = empty_count ToFill work in
        desk_kept w k d here busy law _ _ _ _ (record {
          inside = desk_inside w.desks d (omega arith);
          passes =
              λ i.
              (
              let a = no_shelf o 1 is (λ e. omega arith) i in
              let b =
              no_shelf (record { word = o.word; slot = Some p }) 1 is (λ e. omega arith) i
              in
              omega arith);
          word = law.desks.words d;
          fill_here = (let a = fills_here d (Filled p) in omega arith);
          empty_here = (let a = empties_here d (Filled p) in omega arith);
          fill_else = λ e n. fills_else d e (Filled p) n ∙ sym (ap (fills e) work ∙ fills_else d e ToFill n);
          empty_else = λ e n. empties_else d e (Filled p) n ∙ sym (ap (empties e) work ∙ empties_else d e ToFill n);
          empty = λ e. absurd (omega arith);
          full = λ e. (p, refl);
          mine = (refl, refl);
          beside = λ j n y e s. absurd (alone ToFill work j n y e s);
        })

    pub open_done : (p : Packet) (rs : List ℕ) →
        (view_at w.views k).work ≡ Some (record { desk = d; phase = Filled p }) →
        Includes (view_at w.views k).holds (holds_of_packet p)
        → FourLaws (worked w k d (record { word = 2; slot = (desk_at w.desks d).slot })
        (minus (view_at w.views k).holds (holds_of_packet p)) rs None)
    open_done p rs work all =
        let o = desk_at w.desks d in
        let is = word_filling (Filled p) work refl in
        let f = fill_count (Filled p) work in
        let g = empty_count (Filled p) work in
        let there = slot_now (Filled p) work in
        let n1 = ap (λ a. one_if (a == 1)) is in
        let n3 = ap (λ a. one_if (a == 3)) is in
        desk_kept w k d here busy law _ _ _ _ (record {
          inside = desk_inside w.desks d (omega arith);
          passes =
              λ i. (let a =
              no_shelf o 1 is (λ e. omega arith) i in let b =
              full_shelf (record { word = 2; slot = o.slot }) p refl there i in let c = all i in
              omega (arith, times-minus i (view_at w.views k).holds (holds_of_packet p)));
          word = omega arith;
          fill_here = omega arith;
          empty_here = omega arith;
          fill_else = λ e n. sym (ap (fills e) work ∙ fills_else d e (Filled p) n);
          empty_else = λ e n. sym (ap (empties e) work ∙ empties_else d e (Filled p) n);
          empty = λ e. absurd (omega arith);
          full = λ e. (p, there);
          mine = tt;
          beside = λ j n y e s. refl;
        })

    pub seize_won : (p : Packet) (rs : List ℕ) → (view_at w.views k).work ≡ None → d < length w.desks →
        (desk_at w.desks d).word ≡ 2 → (desk_at w.desks d).slot ≡ Some p
        → FourLaws (worked w k d (record { word = 3; slot = (desk_at w.desks d).slot })
        ((view_at w.views k).holds ++ holds_of_packet p) rs (at_desk d (Seized p)))
    seize_won p rs idle inside two there =
        let o = desk_at w.desks d in let f = ap (fills d) idle in let g = ap (empties d) idle in
        let n1 = ap (λ a. one_if (a == 1)) two in let n3 = ap (λ a. one_if (a == 3)) two in
        desk_kept w k d here busy law _ _ _ _ (record {
          inside = inside;
          passes =
              λ i.
              (
              let a = full_shelf o p two there i in
              let b =
              no_shelf (record { word = 3; slot = o.slot }) 3 refl (λ e. omega arith) i in
              omega (arith, times-append i (view_at w.views k).holds (holds_of_packet p)));
          word = omega arith;
          fill_here = (let a = fills_here d (Seized p) in omega arith);
          empty_here = (let a = empties_here d (Seized p) in omega arith);
          fill_else = λ e n. fills_else d e (Seized p) n ∙ sym (ap (fills e) idle);
          empty_else = λ e n. empties_else d e (Seized p) n ∙ sym (ap (empties e) idle);
          empty = λ e. absurd (omega arith);
          full = λ e. absurd (omega arith);
          mine = (refl, there);
          beside = λ j n y e s. refl;
        })

    pub take_out_done : (p : Packet) →
        (view_at w.views k).work ≡ Some (record { desk = d; phase = Seized p }) →
        FourLaws (worked w k d (record { word = (desk_at w.desks d).word; slot = None })
        (view_at w.views k).holds (view_at w.views k).headers (at_desk d TakenOut))
    take_out_done p work =
        let o = desk_at w.desks d in
        let is = word_emptying (Seized p) work refl in
        let f = fill_count (Seized p) work in
        let g = empty_count (Seized p) work in
        desk_kept w k d here busy law _ _ _ _ (record {
          inside = desk_inside w.desks d (omega arith);
          passes =
              λ i.
              (
              let a = no_shelf o 3 is (λ e. omega arith) i in
              let b =
              no_shelf (record { word = o.word; slot = None }) 3 is (λ e. omega arith) i
              in
              omega arith);
          word = law.desks.words d;
          fill_here = (let a = fills_here d TakenOut in omega arith);
          empty_here = (let a = empties_here d TakenOut in omega arith);
          fill_else = λ e n. fills_else d e TakenOut n ∙ sym (ap (fills e) work ∙ fills_else d e (Seized p) n);
          empty_else = λ e n. empties_else d e TakenOut n ∙ sym (ap (empties e) work ∙ empties_else d e (Seized p) n);
          empty = λ e. refl;
          full = λ e. absurd (omega arith);
          mine = (refl, refl);
          beside = λ j n y e s. absurd (alone (Seized p) work j n y e s);
        })

    pub clear_done : (view_at w.views k).work ≡ Some (record { desk = d; phase = TakenOut }) →
        FourLaws (worked w k d (record { word = 0; slot = (desk_at w.desks d).slot })
        (view_at w.views k).holds (view_at w.views k).headers None)
    clear_done work =
        let o = desk_at w.desks d in
        let is = word_emptying TakenOut work refl in
        let f = fill_count TakenOut work in
        let g = empty_count TakenOut work in
        let n1 = ap (λ a. one_if (a == 1)) is in let n3 = ap (λ a. one_if (a == 3)) is in
        desk_kept w k d here busy law _ _ _ _ (record {
          inside = desk_inside w.desks d (omega arith);
          passes =
              λ i.
              (
              let a = no_shelf o 3 is (λ e. omega arith) i in
              let b =
              no_shelf (record { word = 0; slot = o.slot }) 0 refl (λ e. omega arith) i in
              omega arith);
          word = omega arith;
          fill_here = omega arith;
          empty_here = omega arith;
          fill_else = λ e n. sym (ap (fills e) work ∙ fills_else d e TakenOut n);
          empty_else = λ e n. sym (ap (empties e) work ∙ empties_else d e TakenOut n);
          empty = λ e. slot_now TakenOut work;
          full = λ e. absurd (omega arith);
          mine = tt;
          beside = λ j n y e s. refl;
        })
