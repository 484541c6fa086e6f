-- What a step of the stack leaves as it was: one lemma for all eight kinds.
use Rattle.std.proofs.Common.{◌≡◌, ℕ, ◌+◌, ◌<◌, ◌≤◌, ◌≢◌, List, Option, None, length, set, sym, ap, ◌∙◌, subst, arith, ⊎_elim, get_or-set_other, get_or-set_same}
use Rattle.std.specs.Prelude.{sum_by, IfSome}
use Rattle.std.proofs.lemmas.Bool.{cases_eq}
use Rattle.std.proofs.lemmas.List.Sums.{sum_by-set}
use Rattle.commons.specs.Bag.{bag}
use Rattle.step_core.specs.World.{Head, Work, View, World, empty_view, view_at, desk_at, link_in, every_part}
use Rattle.step_core.specs.Links.{Spells}
use Rattle.step_core.specs.Law.{left_in, fills, empties}
use Rattle.step_core.proofs.Rules.{StackLaw, StackView, HoldLaw, CountView, BoardLaw, SlotLaw}

-- the world after a stack step of worker k, who knows u afterwards
abbrev pub stepped : World → ℕ → Head → ℕ → List ℕ → View → World
stepped w k h n ls u = record w { head = h; length = n; links = ls; views = set w.views k u }

pub record StackStep (w : World) (k : ℕ) (h : Head) (n : ℕ) (ls : List ℕ) (u : View) (old : List ℕ) : Type 0 where
  pub common : List ℕ
  pub spelled : Spells (link_in ls) h.top common
  pub zeros : u.zeros ≡ (view_at w.views k).zeros
  pub holds : u.holds ≡ (view_at w.views k).holds
  pub part : u.part ≡ (view_at w.views k).part
  pub moved : (i : ℕ) → bag common i + bag u.hand i ≡ bag old i + bag (view_at w.views k).hand i
  pub credited : n + u.credit + length old ≡ w.length + (view_at w.views k).credit + length common
  pub all_links : length ls ≡ w.limits.population
  pub links_in_range : (i : ℕ) → link_in ls i ≤ w.limits.population
  pub top_in_range : h.top ≤ w.limits.population
  pub mine : StackView w.limits.population (every_part w.limits) h (link_in ls) u
  pub others : (j : ℕ) → j ≢ k → StackView w.limits.population (every_part w.limits) h (link_in ls) (view_at w.views j)

-- a sum over the views, of what the step leaves as it was
pub sum_kept : (f : View → ℕ) (views : List View) (k : ℕ) (u : View) → k < length views →
    f u ≡ f (view_at views k) → sum_by f (set views k u) ≡ sum_by f views
sum_kept f views k u here same = let e = sum_by-set f views k u (empty_view 0) here in omega arith

-- a fact of each view, where the one at k is exchanged
pub each_view : (P : View → Type 0) (views : List View) (k : ℕ) (u : View) → k < length views →
    P u → ((j : ℕ) → j ≢ k → P (view_at views j)) → (j : ℕ) → P (view_at (set views k u) j)
each_view P views k u here mine others j =
    ⊎_elim
    (λ (e : j ≡ k). subst (λ (i : ℕ). P (view_at (set views k u) i)) (sym e)
    (subst P (sym (get_or-set_same views k u (empty_view 0) here)) mine))
    (λ (n : j ≢ k). subst P (sym (get_or-set_other views k j u (empty_view 0) n)) (others j n))
    (cases_eq j k)

pub stack_kept : (w : World) (k : ℕ) (h : Head) (n : ℕ) (ls : List ℕ) (u : View) →
    k < length w.views → (law : StackLaw w) → StackStep w k h n ls u law.common →
    StackLaw (stepped w k h n ls u)
stack_kept w k h n ls u here law c = record {
  common = c.common;
  spelled = c.spelled;
  one_place = λ i.
      let a = sum_by-set (λ (v : View). bag v.hand i) w.views k u (empty_view 0) here in
      let z = sum_kept (λ (v : View). bag v.zeros i) w.views k u here (ap (λ (xs : List ℕ). bag xs i) c.zeros) in
      let b = sum_kept (λ (v : View). bag v.holds i) w.views k u here (ap (λ (xs : List ℕ). bag xs i) c.holds) in
      let p = law.one_place i in
      let m = c.moved i in
      omega arith;
  credited =
      let a = sum_by-set (λ (v : View). v.credit) w.views k u (empty_view 0) here in
      let b = law.credited in
      let m = c.credited in
      omega arith;
  views = each_view (StackView w.limits.population (every_part w.limits) h (link_in ls)) w.views k u here c.mine c.others;
  parts = sum_kept (λ (v : View). v.part) w.views k u here c.part ∙ law.parts;
  all_links = c.all_links;
  links_in_range = c.links_in_range;
  top_in_range = c.top_in_range;
}

-- no stack step opens the counts' rule
pub counts_kept : (w : World) (k : ℕ) (h : Head) (n : ℕ) (ls : List ℕ) (u : View) → k < length w.views
    → u.zeros ≡ (view_at w.views k).zeros → u.holds ≡ (view_at w.views k).holds →
    u.part ≡ (view_at w.views k).part → HoldLaw w → HoldLaw (stepped w k h n ls u)
counts_kept w k h n ls u here zeros holds part law = record {
  counted = λ i lt.
      let z = sum_kept (λ (v : View). bag v.zeros i) w.views k u here (ap (λ (xs : List ℕ). bag xs i) zeros) in
      let b = sum_kept (λ (v : View). bag v.holds i) w.views k u here (ap (λ (xs : List ℕ). bag xs i) holds) in
      let p = law.counted i lt in
      omega arith;
  limited = law.limited;
  some_limit = law.some_limit;
  all_counts = law.all_counts;
  views = each_view CountView w.views k u here
      (let m = law.views k in record {
        no_zeros = λ e. ap length zeros ∙ m.no_zeros (sym part ∙ e);
        no_holds = λ e. ap length holds ∙ m.no_holds (sym part ∙ e);
      })
      (λ j n. law.views j);
}

-- the world after a step of worker k that touches no desk
abbrev pub moved : World → ℕ → Head → ℕ → List ℕ → List ℕ → View → World
moved w k h n ls cs u = record w { head = h; length = n; links = ls; counts = cs; views = set w.views k u }

-- a step that touches no desk keeps the desks' rule
pub desks_kept : (w : World) (k : ℕ) (h : Head) (n : ℕ) (ls cs : List ℕ) (u : View) →
    k < length w.views → u.work ≡ (view_at w.views k).work → u.part ≡ (view_at w.views k).part →
    BoardLaw w → BoardLaw (moved w k h n ls cs u)
desks_kept w k h n ls cs u here work part law = record {
  words = law.words;
  filled = λ d. sum_kept (λ (v : View). fills d v.work) w.views k u here (ap (fills d) work) ∙ law.filled d;
  emptied = λ d. sum_kept (λ (v : View). empties d v.work) w.views k u here (ap (empties d) work) ∙ law.emptied d;
  empty = law.empty;
  full = law.full;
  views =
      each_view (λ v. v.part ≡ 0 → v.work ≡ None) w.views k u here
      (λ e. work ∙ law.views k (sym part ∙ e)) (λ j n. law.views j);
}

pub slots_kept : (w : World) (k : ℕ) (h : Head) (n : ℕ) (ls cs : List ℕ) (u : View) →
    k < length w.views → u.work ≡ (view_at w.views k).work → SlotLaw w →
    SlotLaw (moved w k h n ls cs u)
slots_kept w k h n ls cs u here work law =
    let P : Option Work → Type 0 = λ o. IfSome o (λ x. (desk_at w.desks x.desk).slot ≡ left_in x.phase) in
    record {
      slots =
          each_view (λ v. P v.work) w.views k u here (subst P (sym work) (law.slots k))
          (λ j n. law.slots j);
    }
