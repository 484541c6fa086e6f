-- What passes from hand to hand goes from hand to hand in the table, and nothing else moves.
use Rattle.std.proofs.Common.{◌≡◌, ◌≢◌, ℕ, zero, suc, ◌<◌, List, refl, sym, ap, subst, arith}
use Rattle.commons.specs.Bag.{bag}
use Rattle.step_core.specs.declared.view.View.{View}
use Rattle.step_core.specs.Table.{Table, Hand, Same, Where}
use Rattle.step_core.specs.Shows.{standing, ShowsTable}
use Rattle.step_core.specs.World.{World, view_at, view_of, link_in}
use Rattle.step_core.proofs.Bags.{times-append}
use Rattle.step_core.proofs.Events.{Alike, same_at}
use Rattle.step_core.proofs.Shows.{spells_same, is_in_hand}
use Rattle.step_core.specs.Passing.{passed, PassesHand, PassingMovesThem}
use Rattle.step_core.proofs.PassedHands.{read_kept, field_kept, got_hand}

module _ (w : World) (j k : ℕ) (xs : List ℕ) (apart : j ≢ k) (u : World) (p : PassesHand w u j k xs) where
  -- the second world, by what it is of the first
  abbrev after : World
  after = record w { views = passed w.views j k xs p.left }

  -- what every worker's view has as before
  all_views : (f : View → ℕ) →
      ((m : ℕ) → f (view_at after.views m) ≡ f (view_at w.views m)) →
      (n : ℕ) → f (view_of w.views n) ≡ f (view_of after.views n)
  all_views f same zero = refl
  all_views f same (suc m) = sym (same m)

  -- an element that doesn't pass is in each hand as often, among each worker's holds and on each desk
  alike : (i : ℕ) → bag xs i ≡ 0 → Alike i w after
  alike i none =
      let hands =
      all_views (λ v. bag v.hand i)
      (read_kept w.views j k xs p.left apart p.giver p.taker p.taken (λ v. bag v.hand i)
      (let taken = p.taken i in omega arith)
      (omega (arith, times-append i xs (view_at w.views k).hand))) in
      let zeros =
      all_views (λ v. bag v.zeros i)
      (field_kept w.views j k xs p.left apart p.giver p.taker p.taken (λ v. bag v.zeros i)
      (λ v h. refl)) in
      let holds =
      all_views (λ v. bag v.holds i)
      (field_kept w.views j k xs p.left apart p.giver p.taker p.taken (λ v. bag v.holds i)
      (λ v h. refl)) in
      record {
        hand = λ n. let a = hands n in let b = zeros n in omega arith;
        holder = holds;
        desk = λ d. refl;
      }

  pub moves_them : (t r : Table) → ShowsTable w t → ShowsTable after r → (i : ℕ) → i < w.limits.population →
      Where i xs ((t i ≡ Hand (suc j)) × (r i ≡ Hand (suc k))) (Same (t i) (r i))
  moves_them t r before later i below = (
    λ some. (
      is_in_hand (standing w before.common i) (before.one i below) (t i) (suc j)
          (let taken = p.taken i in omega arith) (before.stands i below),
      is_in_hand (standing after later.common i) (later.one i below) (r i) (suc k)
          (let got = ap (λ (v : View). bag v.hand i)
          (got_hand w.views j k xs p.left apart p.giver p.taker p.taken) in
          omega (arith, times-append i xs (view_at w.views k).hand))
          (later.stands i below),
    ),
    λ none.
        same_at w after t r w.limits.population refl refl before later i below
        (ap (λ (ys : List ℕ). bag ys i)
        (spells_same (link_in w.links) w.head.top before.common later.common before.spelled later.spelled))
        (alike i none),
  )

pub passing_moves_them : PassingMovesThem
passing_moves_them w u j k xs apart p t r before later i below =
    moves_them w j k xs apart u p t r before (subst (λ (x : World). ShowsTable x r) p.after later) i below
