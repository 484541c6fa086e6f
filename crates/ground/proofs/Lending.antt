-- An element that is lent goes from hand to hand in the table, and nothing else moves; where a seat
-- is split, nothing does.
use Rattle.std.proofs.Common.{◌≡◌, ℕ, zero, suc, ◌<◌, ◌≤◌, List, [], ◌∷◌, ◌++◌, length, set, refl, sym, ap, ◌∙◌, ⊎_elim, arith}
use Rattle.std.proofs.lemmas.Bool.{cases_lt}
use Rattle.std.proofs.lemmas.List.{get_or_past, length-set}
use Rattle.commons.specs.Bag.{bag}
use Rattle.step_core.specs.declared.view.View.{View}
use Rattle.step_core.specs.Shows.{standing, ShowsTable}
use Rattle.step_core.specs.Table.{Table, SameTable}
use Rattle.step_core.specs.World.{World, empty_view, view_at, view_of, link_in, worker_part}
use Rattle.step_core.proofs.Bags.{times-nil}
use Rattle.step_core.proofs.Events.{Alike, read_kept, same_at}
use Rattle.step_core.proofs.Shows.{spells_same, is_in_hand}
use Rattle.ground.specs.History.{GoesToHand}
use Rattle.ground.specs.Parting.{less, lending, loan_of}
use Rattle.ground.proofs.Reviews.{split_views, lent_views, lent_elements}

-- a view with a part has a place among the views
pub has_place : (views : List View) (k : ℕ) → 0 < (view_at views k).part → k < length views
has_place views k some =
    ⊎_elim (λ (l : k < length views). l)
    (λ (l : length views ≤ k). absurd
    (let none = ap (λ (v : View). v.part) (get_or_past views k (empty_view 0) l) in omega arith))
    (cases_lt k (length views))

-- a number that the new view has none of, each view has as before
pub push_kept : (f : View → ℕ) (views : List View) (u : View) → f u ≡ f (empty_view 0) → (n : ℕ) →
    f (view_of (views ++ u ∷ []) n) ≡ f (view_of views n)
push_kept f views u none zero = refl
push_kept f views u none (suc m) = at views m
  where
    at : (vs : List View) (m : ℕ) → f (view_at (vs ++ u ∷ []) m) ≡ f (view_at vs m)
    at [] zero = none
    at [] (suc m) = refl
    at (v ∷ vs) zero = refl
    at (v ∷ vs) (suc m) = at vs m

-- the new view stands behind the others, which stand where they did
pub push_last : (views : List View) (u : View) → view_at (views ++ u ∷ []) (length views) ≡ u
push_last [] u = refl
push_last (v ∷ vs) u = push_last vs u

-- a split moves nothing
module _ (w : World) (k : ℕ) (some : 0 < (view_at w.views k).part) where
  abbrev parted : World
  parted = record w { views = split_views w.views k }

  stayed : (f : View → ℕ) → f (less (view_at w.views k)) ≡ f (view_at w.views k) →
      f (empty_view worker_part) ≡ f (empty_view 0) → (n : ℕ) → f (view_of w.views n) ≡ f (view_of parted.views n)
  stayed f same none n =
      sym (push_kept f (set w.views k (less (view_at w.views k))) (empty_view worker_part) none n
      ∙ read_kept w.views k (less (view_at w.views k)) (has_place w.views k some) f same n)

  pub stays_put : (t r : Table) → ShowsTable w t → ShowsTable parted r → SameTable w.limits.population t r
  stays_put t r before later j below =
      same_at w parted t r w.limits.population refl refl before later j below
      (ap (λ (ys : List ℕ). bag ys j)
      (spells_same (link_in w.links) w.head.top before.common later.common before.spelled later.spelled))
      (record {
        hand =
            λ n.
            (let a = stayed (λ v. bag v.hand j) refl refl n in
            let b = stayed (λ v. bag v.zeros j) refl refl n in
            omega arith);
        holder = stayed (λ v. bag v.holds j) refl refl;
        desk = λ d. refl;
      })

module _ (w : World) (k i : ℕ) (some : 0 < (view_at w.views k).part) (has : 0 < bag (view_at w.views k).hand i) where
  abbrev after : World
  after = record w { views = lent_views w.views k i }

  left : View
  left = lending i (view_at w.views k)

  kept : (f : View → ℕ) → f (lending i (view_at w.views k)) ≡ f (view_at w.views k) → f (loan_of i) ≡ f (empty_view 0) →
      (n : ℕ) → f (view_of w.views n) ≡ f (view_of after.views n)
  kept f same none n =
      sym (push_kept f (set w.views k (lending i (view_at w.views k))) (loan_of i) none n
      ∙ read_kept w.views k (lending i (view_at w.views k)) (has_place w.views k some) f same n)

  -- any other element is in each hand as often, among each worker's holds and on each desk
  alike : (j : ℕ) → bag (i ∷ []) j ≡ 0 → Alike j w after
  alike j other =
      let hands =
      kept (λ v. bag v.hand j)
      (let both = lent_elements (view_at w.views k).hand i has j in omega arith)
      (omega (arith, times-nil j)) in
      let zeros = kept (λ v. bag v.zeros j) refl refl in
      let holds = kept (λ v. bag v.holds j) refl refl in
      record {
        hand = λ n. let a = hands n in let b = zeros n in omega arith;
        holder = holds;
        desk = λ d. refl;
      }

  pub goes_on : (t r : Table) → ShowsTable w t → ShowsTable after r →
      GoesToHand w.limits.population i (suc k) (suc (length w.views)) t r
  goes_on t r before later j below = (
    λ one. (
      is_in_hand (standing w before.common j) (before.one j below) (t j) (suc k)
          (let both = lent_elements (view_at w.views k).hand i has j in omega arith) (before.stands j below),
      is_in_hand (standing after later.common j) (later.one j below) (r j) (suc (length w.views))
          (let size : length (set w.views k (lending i (view_at w.views k))) ≡ length w.views =
          length-set w.views k (lending i (view_at w.views k)) in
          let there = ap (λ (v : View). bag v.hand j)
          (ap (λ (n : ℕ). view_at after.views n) (sym size)
          ∙ push_last (set w.views k (lending i (view_at w.views k))) (loan_of i)) in
          omega arith)
          (later.stands j below),
    ),
    λ none.
        same_at w after t r w.limits.population refl refl before later j below
        (ap (λ (ys : List ℕ). bag ys j)
        (spells_same (link_in w.links) w.head.top before.common later.common before.spelled later.spelled))
        (alike j none),
  )
