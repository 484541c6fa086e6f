-- The five count steps keep the rules of the stack and of the counts.
use Rattle.std.proofs.Common.{◌≡◌, ℕ, ◌+◌, ◌-◌, ◌<◌, ◌≤◌, ◌≢◌, min, max, List, [], ◌∷◌, ◌++◌, Option, Some, None, length, set, refl, sym, ap, ◌∙◌, subst, arith, ⊎_elim, get_or-set_other, get_or-set_same}
use Rattle.std.specs.Prelude.{sum_by, slice_index, IfSome, ◌==◌}
use Rattle.std.proofs.lemmas.Bool.{cases_lt, cond_both, eqb-true}
use Rattle.std.proofs.lemmas.List.{length-set}
use Rattle.std.proofs.lemmas.List.Sums.{sum_by-set}
use Rattle.commons.specs.Bag.{bag}
use Rattle.step_core.specs.Bags.{one_if, without}
use Rattle.step_core.specs.World.{Look, Chain, View, World, empty_view, view_at, link_in, hands, all_zeros, all_holds, every_part}
use Rattle.step_core.specs.Steps.{chain_without}
use Rattle.step_core.proofs.Rules.{StackLaw, StackView, LookParts, ChainParts, HoldLaw, CountView}
use Rattle.step_core.proofs.Bags.{times-nil, times-cons, times-push, times-last, times-but_last, times-without, below-past, below-le, one_if-cases, times-without_here, times-without_other, at_or_else}
use Rattle.step_core.proofs.Frame.{moved, sum_kept, each_view}
use Rattle.step_core.proofs.StackSteps.{one_view, busy_view, if_some}

-- the holds after the view at k is exchanged
pub all_holds-set : (i : ℕ) (w : World) (k : ℕ) (u : View) → k < length w.views →
    all_holds i (set w.views k u) w.desks + bag (view_at w.views k).holds i
    ≡ all_holds i w.views w.desks + bag u.holds i
all_holds-set i w k u here =
    let a = sum_by-set (λ (v : View). bag v.holds i) w.views k u (empty_view 0) here in omega arith

-- what a count step does: the places of an element are as many as before, and its count stays right
pub record CountStep (w : World) (k : ℕ) (cs : List ℕ) (u : View) : Type 0 where
  pub part : u.part ≡ (view_at w.views k).part
  pub credit : u.credit ≡ (view_at w.views k).credit
  pub seen : u.seen ≡ (view_at w.views k).seen
  pub look : u.look ≡ (view_at w.views k).look
  pub chain : IfSome u.chain (ChainParts w.limits.population (link_in w.links) u.hand)
  pub placed : (i h : ℕ) → h + bag (view_at w.views k).holds i ≡ all_holds i w.views w.desks + bag u.holds i
      → bag u.hand i + bag u.zeros i + min 1 h
      ≡ bag (view_at w.views k).hand i + bag (view_at w.views k).zeros i
      + min 1 (all_holds i w.views w.desks)
  pub counted : (i h : ℕ) → i < w.limits.population →
      h + bag (view_at w.views k).holds i ≡ all_holds i w.views w.desks + bag u.holds i
      → slice_index cs i + bag u.zeros i + max 1 (all_holds i w.views w.desks)
      ≡ slice_index w.counts i + bag (view_at w.views k).zeros i + max 1 h
  pub limited : (i : ℕ) → slice_index cs i ≤ w.limits.ref_limit
  pub all_counts : length cs ≡ w.limits.population

module _ (w : World) (k : ℕ) (here : k < length w.views) (busy : 0 < (view_at w.views k).part)
    (law : StackLaw w) (counts : HoldLaw w) where
  pub stack_held : (cs : List ℕ) (u : View) → CountStep w k cs u → StackLaw (moved w k w.head w.length w.links cs u)
  stack_held cs u c = record {
    common = law.common;
    spelled = law.spelled;
    one_place = λ i.
        let a = sum_by-set (λ (v : View). bag v.hand i) w.views k u (empty_view 0) here in
        let z = sum_by-set (λ (v : View). bag v.zeros i) w.views k u (empty_view 0) here in
        let p = law.one_place i in
        let m = c.placed i (all_holds i (set w.views k u) w.desks) (all_holds-set i w k u here) in
        omega arith;
    credited =
        (
        let a = sum_kept (λ (v : View). v.credit) w.views k u here c.credit in
        let b = law.credited in
        omega arith);
    views =
        each_view (StackView w.limits.population (every_part w.limits) w.head (link_in w.links)) w.views
        k u here mine (λ j n. law.views j);
    parts = sum_kept (λ (v : View). v.part) w.views k u here c.part ∙ law.parts;
    all_links = law.all_links;
    links_in_range = law.links_in_range;
    top_in_range = law.top_in_range;
  }
    where
      mine : StackView w.limits.population (every_part w.limits) w.head (link_in w.links) u
      mine =
          let v = law.views k in let a = c.seen in let b = v.seen in let d = c.part in
          let P : Option Look → ℕ → ℕ → Type 0 =
          λ o part seen.
          IfSome o (LookParts w.limits.population (every_part w.limits) w.head (link_in w.links)
          part seen) in
          let l : P u.look u.part u.seen =
          subst (λ (o : Option Look). P o u.part u.seen) (sym c.look) (subst
          (λ (p : ℕ). P (view_at w.views k).look p u.seen) (sym c.part)
          (subst (λ (s : ℕ). P (view_at w.views k).look (view_at w.views k).part s)
          (sym c.seen) v.look)) in
          busy_view _ _ _ _ _ (omega arith) (omega arith) l c.chain

  pub counts_held : (cs : List ℕ) (u : View) → CountStep w k cs u → HoldLaw (moved w k w.head w.length w.links cs u)
  counts_held cs u c = record {
    counted = λ i lt.
        let z = sum_by-set (λ (v : View). bag v.zeros i) w.views k u (empty_view 0) here in
        let p = counts.counted i lt in
        let m = c.counted i (all_holds i (set w.views k u) w.desks) lt (all_holds-set i w k u here) in
        omega arith;
    limited = c.limited;
    some_limit = counts.some_limit;
    all_counts = c.all_counts;
    views =
        each_view CountView w.views k u here (
        let d = c.part in
        record { no_zeros = λ e. absurd (omega arith); no_holds = λ e. absurd (omega arith) })
        (λ j n. counts.views j);
  }

  -- what the places say of an element
  pub in_hand : (i : ℕ) → 0 < bag (view_at w.views k).hand i →
      (bag (view_at w.views k).hand i ≡ 1) × (bag (view_at w.views k).zeros i ≡ 0)
      × (all_zeros i w.views ≡ 0) × (all_holds i w.views w.desks ≡ 0) × (i < w.limits.population)
  in_hand i h =
      let one : bag (view_at w.views k).hand i ≤ hands i w.views =
      one_view (λ (v : View). bag v.hand i) w.views k (times-nil i) in
      let z : bag (view_at w.views k).zeros i ≤ all_zeros i w.views =
      one_view (λ (v : View). bag v.zeros i) w.views k (times-nil i) in
      let p = law.one_place i in let b = below-le w.limits.population i in (
        omega arith,
        omega arith,
        omega arith,
        omega arith,
        ⊎_elim (λ (c : i < w.limits.population). c) (λ (c : w.limits.population ≤ i). absurd
            (omega (arith, below-past w.limits.population i c)))
            (cases_lt i w.limits.population),
      )

  pub at_zero : (i : ℕ) → 0 < bag (view_at w.views k).zeros i →
      (bag (view_at w.views k).zeros i ≡ 1) × (bag (view_at w.views k).hand i ≡ 0)
      × (all_zeros i w.views ≡ 1) × (all_holds i w.views w.desks ≡ 0) × (i < w.limits.population)
  at_zero i h =
      let one : bag (view_at w.views k).hand i ≤ hands i w.views =
      one_view (λ (v : View). bag v.hand i) w.views k (times-nil i) in
      let z : bag (view_at w.views k).zeros i ≤ all_zeros i w.views =
      one_view (λ (v : View). bag v.zeros i) w.views k (times-nil i) in
      let p = law.one_place i in let b = below-le w.limits.population i in (
        omega arith,
        omega arith,
        omega arith,
        omega arith,
        ⊎_elim (λ (c : i < w.limits.population). c) (λ (c : w.limits.population ≤ i). absurd
            (omega (arith, below-past w.limits.population i c)))
            (cases_lt i w.limits.population),
      )

  pub in_holds : (i : ℕ) → 0 < bag (view_at w.views k).holds i →
      (bag (view_at w.views k).holds i ≤ all_holds i w.views w.desks)
      × (bag (view_at w.views k).hand i ≡ 0) × (bag (view_at w.views k).zeros i ≡ 0)
      × (all_zeros i w.views ≡ 0) × (i < w.limits.population)
  in_holds i h =
      let one : bag (view_at w.views k).hand i ≤ hands i w.views =
      one_view (λ (v : View). bag v.hand i) w.views k (times-nil i) in
      let z : bag (view_at w.views k).zeros i ≤ all_zeros i w.views =
      one_view (λ (v : View). bag v.zeros i) w.views k (times-nil i) in
      let y : bag (view_at w.views k).holds i ≤ sum_by (λ v. bag v.holds i) w.views =
      one_view (λ (v : View). bag v.holds i) w.views k (times-nil i) in
      let p = law.one_place i in let b = below-le w.limits.population i in (
        omega arith,
        omega arith,
        omega arith,
        omega arith,
        ⊎_elim (λ (c : i < w.limits.population). c) (λ (c : w.limits.population ≤ i). absurd
            (omega (arith, below-past w.limits.population i c)))
            (cases_lt i w.limits.population),
      )

  pub claim_step : (i : ℕ) (rs : List ℕ) → 0 < bag (view_at w.views k).hand i →
      CountStep w k w.counts (record (view_at w.views k) {
        hand = without i (view_at w.views k).hand;
        holds = (view_at w.views k).holds ++ i ∷ [];
        headers = rs;
        chain = chain_without i (view_at w.views k).chain;
      })
  claim_step i rs h = let v = view_at w.views k in let at = in_hand i h in record {
    part = refl;
    credit = refl;
    seen = refl;
    look = refl;
    chain = chain v.chain (law.views k).chain;
    placed = λ x n e.
        let a = times-without x i v.hand in
        let b = times-push x i v.holds in
        let c = times-cons x i [] in
        let d = times-nil x in
        ⊎_elim
        (λ (s : (i ≡ x) × (one_if (i == x) ≡ 1)).
        let at' =
        subst (λ (y : ℕ). (bag v.hand y ≡ 1) × (bag v.zeros y ≡ 0) × (all_zeros y w.views ≡ 0)
        × (all_holds y w.views w.desks ≡ 0) × (y < w.limits.population)) s.0 at in
        let z = one_view (λ (u : View). bag u.holds x) w.views k (times-nil x) in
        let f = at'.0 in let g = at'.1 in let m = at'.3 in let t = s.1 in omega arith)
        (λ (s : (i ≢ x) × (one_if (i == x) ≡ 0)). let t = s.1 in omega arith)
        (one_if-cases i x);
    counted = λ x n lt e.
        let b = times-push x i v.holds in
        ⊎_elim
        (λ (s : (i ≡ x) × (one_if (i == x) ≡ 1)).
        let m : all_holds x w.views w.desks ≡ 0 = subst (λ (y : ℕ). all_holds y w.views w.desks ≡ 0) s.0 at.3 in
        let z = one_view (λ (u : View). bag u.holds x) w.views k (times-nil x) in
        let t = s.1 in omega arith)
        (λ (s : (i ≢ x) × (one_if (i == x) ≡ 0)). let t =
        s.1 in let m : n ≡ all_holds x w.views w.desks =
        omega arith in ap (λ y. slice_index w.counts x + bag v.zeros x + max 1 y) (sym m))
        (one_if-cases i x);
    limited = counts.limited;
    all_counts = counts.all_counts;
  }
    where
      chain : (o : Option Chain) →
          IfSome o (ChainParts w.limits.population (link_in w.links) (view_at w.views k).hand) →
          IfSome (chain_without i o)
          (ChainParts w.limits.population (link_in w.links) (without i (view_at w.views k).hand))
      chain None l = tt
      chain (Some c) l =
          cond_both (bag c.items i == 0) _ _ (λ o.
          IfSome o (ChainParts w.limits.population (link_in w.links)
          (without i (view_at w.views k).hand)))
          (λ e. record {
            not_empty = l.not_empty;
            in_hand =
                λ x. (let a =
                l.in_hand x in let n =
                eqb-true _ _ e in let b =
                times-without x i (view_at w.views k).hand in let c' =
                times-cons x i [] in let d = times-nil x in
                ⊎_elim
                (λ (s : (i ≡ x) × (one_if (i == x) ≡ 1)). let n' : bag c.items x ≡ 0 =
                subst (λ (y : ℕ). bag c.items y ≡ 0) s.0 n in omega arith)
                (λ (s : (i ≢ x) × (one_if (i == x) ≡ 0)). let t = s.1 in omega arith)
                (one_if-cases i x));
            linked = l.linked;
            in_range = l.in_range;
          })
          (λ e. tt)

  -- the count of an element that somebody holds
  pub count_of : (i : ℕ) → 0 < bag (view_at w.views k).holds i → slice_index w.counts i ≡ all_holds i w.views w.desks
  count_of i h = let at = in_holds i h in let a = at.0 in let z = at.3 in let c = counts.counted i at.4 in omega arith

  -- a hand with one element more has the chain as before
  more_hand : (i : ℕ) → IfSome (view_at w.views k).chain
      (ChainParts w.limits.population (link_in w.links) ((view_at w.views k).hand ++ i ∷ []))
  more_hand i = if_some (view_at w.views k).chain _ _
      (λ c d.
      record {
        not_empty = d.not_empty;
        in_hand =
            λ x.
            (let a = d.in_hand x in omega (arith, times-push x i (view_at w.views k).hand));
        linked = d.linked;
        in_range = d.in_range;
      })
      (law.views k).chain

  module _ (i : ℕ) (inside : i < w.limits.population) where
    -- the counts with one of them set
    count_here : (n : ℕ) → slice_index (set w.counts i n) i ≡ n
    count_here n =
        let l : i < length w.counts = (let a = counts.all_counts in omega arith) in
        get_or-set_same w.counts i n 0 l

    count_else : (n x : ℕ) → i ≢ x → slice_index (set w.counts i n) x ≡ slice_index w.counts x
    count_else n x ne = get_or-set_other w.counts i x n 0 (λ e. ne (sym e))

    counts_limited : (n : ℕ) → n ≤ w.limits.ref_limit → (x : ℕ) → slice_index (set w.counts i n) x ≤ w.limits.ref_limit
    counts_limited n le = at_or_else i (λ x. slice_index (set w.counts i n) x ≤ w.limits.ref_limit)
        (omega (arith, count_here n)) (λ x ne. let a = counts.limited x in omega (arith, count_else n x ne))

  pub sole_step : (i : ℕ) (rs : List ℕ) → 0 < bag (view_at w.views k).holds i → slice_index w.counts i ≡ 1
      → CountStep w k w.counts (record (view_at w.views k) {
        hand = (view_at w.views k).hand ++ i ∷ [];
        holds = without i (view_at w.views k).holds;
        headers = rs;
      })
  sole_step i rs h one = let v = view_at w.views k in let at = in_holds i h in let c = count_of i h in record {
    part = refl;
    credit = refl;
    seen = refl;
    look = refl;
    chain = more_hand i;
    placed = at_or_else i
        (λ x. (n : ℕ) →
        n + bag v.holds x ≡ all_holds x w.views w.desks + bag (without i v.holds) x →
        bag (v.hand ++ i ∷ []) x + bag v.zeros x + min 1 n
        ≡ bag v.hand x + bag v.zeros x + min 1 (all_holds x w.views w.desks))
        (λ n e. let a = at.0 in omega (arith, times-last i v.hand, times-without_here i v.holds))
        (λ x ne n e. let m : n ≡ all_holds x w.views w.desks =
        omega (arith, times-without_other x i v.holds ne) in omega
        (arith, times-but_last x i v.hand ne));
    counted = at_or_else i
        (λ x. (n : ℕ) → x < w.limits.population →
        n + bag v.holds x ≡ all_holds x w.views w.desks + bag (without i v.holds) x →
        slice_index w.counts x + bag v.zeros x + max 1 (all_holds x w.views w.desks)
        ≡ slice_index w.counts x + bag v.zeros x + max 1 n)
        (λ n lt e. let a = at.0 in omega (arith, times-without_here i v.holds))
        (λ x ne n lt e. let m : n ≡ all_holds x w.views w.desks =
        omega (arith, times-without_other x i v.holds ne) in omega arith);
    limited = counts.limited;
    all_counts = counts.all_counts;
  }

  pub raise_step : (i old : ℕ) → 0 < bag (view_at w.views k).holds i → old < w.limits.ref_limit →
      slice_index w.counts i ≡ old
      → CountStep w k (set w.counts i (old + 1))
      (record (view_at w.views k) { holds = (view_at w.views k).holds ++ i ∷ [] })
  raise_step i old h room is = let v = view_at w.views k in let at = in_holds i h in let lt = at.4 in record {
    part = refl;
    credit = refl;
    seen = refl;
    look = refl;
    chain = (law.views k).chain;
    placed = at_or_else i
        (λ x. (n : ℕ) →
        n + bag v.holds x ≡ all_holds x w.views w.desks + bag (v.holds ++ i ∷ []) x →
        bag v.hand x + bag v.zeros x + min 1 n
        ≡ bag v.hand x + bag v.zeros x + min 1 (all_holds x w.views w.desks))
        (λ n e. let a = at.0 in omega (arith, times-last i v.holds))
        (λ x ne n e. let m : n ≡ all_holds x w.views w.desks =
        omega (arith, times-but_last x i v.holds ne) in omega arith);
    counted = at_or_else i
        (λ x. (n : ℕ) → x < w.limits.population →
        n + bag v.holds x ≡ all_holds x w.views w.desks + bag (v.holds ++ i ∷ []) x →
        slice_index (set w.counts i (old + 1)) x + bag v.zeros x
        + max 1 (all_holds x w.views w.desks)
        ≡ slice_index w.counts x + bag v.zeros x + max 1 n)
        (λ n _ e. let a = at.0 in omega (arith, times-last i v.holds, count_here i lt (old + 1)))
        (λ x ne n _ e. let m : n ≡ all_holds x w.views w.desks =
        omega (arith, times-but_last x i v.holds ne) in omega
        (arith, count_else i lt (old + 1) x ne));
    limited = counts_limited i lt (old + 1) (omega arith);
    all_counts = length-set w.counts i (old + 1) ∙ counts.all_counts;
  }

  -- the last hold ends
  pub lower_last : (i : ℕ) (rs : List ℕ) → 0 < bag (view_at w.views k).holds i → slice_index w.counts i ≡ 1
      → CountStep w k (set w.counts i (slice_index w.counts i - 1)) (record (view_at w.views k) {
        holds = without i (view_at w.views k).holds;
        headers = rs;
        zeros = (view_at w.views k).zeros ++ i ∷ [];
      })
  lower_last i rs h one =
      let v = view_at w.views k in
      let at = in_holds i h in
      let lt = at.4 in
      let c = count_of i h in
      let less = slice_index w.counts i - 1 in
      record {
        part = refl;
        credit = refl;
        seen = refl;
        look = refl;
        chain = (law.views k).chain;
        placed = at_or_else i
            (λ x. (n : ℕ) →
            n + bag v.holds x ≡ all_holds x w.views w.desks + bag (without i v.holds) x →
            bag v.hand x + bag (v.zeros ++ i ∷ []) x + min 1 n
            ≡ bag v.hand x + bag v.zeros x + min 1 (all_holds x w.views w.desks))
            (λ n e. let a = at.0 in omega (arith, times-last i v.zeros, times-without_here i v.holds))
            (λ x ne n e. let m : n ≡ all_holds x w.views w.desks =
            omega (arith, times-without_other x i v.holds ne) in omega
            (arith, times-but_last x i v.zeros ne));
        counted = at_or_else i
            (λ x. (n : ℕ) → x < w.limits.population →
            n + bag v.holds x ≡ all_holds x w.views w.desks + bag (without i v.holds) x →
            slice_index (set w.counts i less) x + bag (v.zeros ++ i ∷ []) x
            + max 1 (all_holds x w.views w.desks)
            ≡ slice_index w.counts x + bag v.zeros x + max 1 n)
            (λ n _ e. let a =
            at.0 in omega
            (arith, times-last i v.zeros, times-without_here i v.holds, count_here i lt less))
            (λ x ne n _ e. let m : n ≡ all_holds x w.views w.desks =
            omega (arith, times-without_other x i v.holds ne) in omega
            (arith, times-but_last x i v.zeros ne, count_else i lt less x ne));
        limited = (let a = counts.limited i in counts_limited i lt less (omega arith));
        all_counts = length-set w.counts i less ∙ counts.all_counts;
      }

  -- a hold ends, and another is left
  pub lower_still : (i : ℕ) (rs : List ℕ) → 0 < bag (view_at w.views k).holds i → slice_index w.counts i ≢ 1
      → CountStep w k (set w.counts i (slice_index w.counts i - 1))
      (record (view_at w.views k)
      { holds = without i (view_at w.views k).holds; headers = rs })
  lower_still i rs h more =
      let v = view_at w.views k in
      let at = in_holds i h in
      let lt = at.4 in
      let c = count_of i h in
      let less = slice_index w.counts i - 1 in
      record {
        part = refl;
        credit = refl;
        seen = refl;
        look = refl;
        chain = (law.views k).chain;
        placed = at_or_else i
            (λ x. (n : ℕ) →
            n + bag v.holds x ≡ all_holds x w.views w.desks + bag (without i v.holds) x →
            bag v.hand x + bag v.zeros x + min 1 n
            ≡ bag v.hand x + bag v.zeros x + min 1 (all_holds x w.views w.desks))
            (λ n e. let a = at.0 in omega (arith, times-without_here i v.holds))
            (λ x ne n e. let m : n ≡ all_holds x w.views w.desks =
            omega (arith, times-without_other x i v.holds ne) in omega arith);
        counted = at_or_else i
            (λ x. (n : ℕ) → x < w.limits.population →
            n + bag v.holds x ≡ all_holds x w.views w.desks + bag (without i v.holds) x →
            slice_index (set w.counts i less) x + bag v.zeros x
            + max 1 (all_holds x w.views w.desks)
            ≡ slice_index w.counts x + bag v.zeros x + max 1 n)
            (λ n _ e. let a = at.0 in omega (arith, times-without_here i v.holds, count_here i lt less))
            (λ x ne n _ e. let m : n ≡ all_holds x w.views w.desks =
            omega (arith, times-without_other x i v.holds ne) in omega
            (arith, count_else i lt less x ne));
        limited = (let a = counts.limited i in counts_limited i lt less (omega arith));
        all_counts = length-set w.counts i less ∙ counts.all_counts;
      }

  pub reset_step : (i : ℕ) → 0 < bag (view_at w.views k).zeros i
      → CountStep w k (set w.counts i 1) (record (view_at w.views k) {
        hand = (view_at w.views k).hand ++ i ∷ [];
        zeros = without i (view_at w.views k).zeros;
      })
  reset_step i h =
      let v = view_at w.views k in
      let at = at_zero i h in
      let lt = at.4 in
      let c = counts.counted i lt in
      record {
        part = refl;
        credit = refl;
        seen = refl;
        look = refl;
        chain = more_hand i;
        placed = at_or_else i
            (λ x. (n : ℕ) → n + bag v.holds x ≡ all_holds x w.views w.desks + bag v.holds x →
            bag (v.hand ++ i ∷ []) x + bag (without i v.zeros) x + min 1 n
            ≡ bag v.hand x + bag v.zeros x + min 1 (all_holds x w.views w.desks))
            (λ n e. omega (arith, times-last i v.hand, times-without_here i v.zeros))
            (λ x ne n e. let m : n ≡ all_holds x w.views w.desks =
            omega arith in omega
            (arith, times-but_last x i v.hand ne, times-without_other x i v.zeros ne));
        counted = at_or_else i
            (λ x. (n : ℕ) → x < w.limits.population →
            n + bag v.holds x ≡ all_holds x w.views w.desks + bag v.holds x →
            slice_index (set w.counts i 1) x + bag (without i v.zeros) x
            + max 1 (all_holds x w.views w.desks)
            ≡ slice_index w.counts x + bag v.zeros x + max 1 n)
            (λ n _ e. let a = at.2 in let b = at.3 in omega (arith, times-without_here i v.zeros, count_here i lt 1))
            (λ x ne n _ e. let m : n ≡ all_holds x w.views w.desks =
            omega arith in omega
            (arith, times-without_other x i v.zeros ne, count_else i lt 1 x ne));
        limited = counts_limited i lt 1 counts.some_limit;
        all_counts = length-set w.counts i 1 ∙ counts.all_counts;
      }
