-- Sums over views of which all but one have nothing.
use Rattle.std.proofs.Common.{ℕ, suc, ◌≡◌, ◌≢◌, ◌<◌, List, [], ◌∷◌, length, set, refl, arith}
use Rattle.std.specs.Prelude.{sum_by}
use Rattle.std.proofs.lemmas.List.Sums.{sum_by-cons, sum_by-set}
use Rattle.step_core.specs.declared.view.View.{View}
use Rattle.step_core.specs.World.{empty_view, view_at}
use Rattle.step_core.proofs.Frame.{each_view}

-- a sum over views that have nothing of it
none_summed : (f : View → ℕ) (views : List View) → ((k : ℕ) → f (view_at views k) ≡ 0) → sum_by f views ≡ 0
none_summed f [] h = refl
none_summed f (x ∷ xs) h =
    let first = h 0 in
    let rest = none_summed f xs (λ k. h (suc k)) in
    omega (arith, sum_by-cons f x xs)

-- where all views but one have nothing of it, the sum is what that one has
pub alone_sum : (f : View → ℕ) (views : List View) (k : ℕ) → k < length views → f (empty_view 0) ≡ 0 →
    ((j : ℕ) → j ≢ k → f (view_at views j) ≡ 0) → sum_by f views ≡ f (view_at views k)
alone_sum f views k here none others =
    let less = sum_by-set f views k (empty_view 0) (empty_view 0) here in
    let rest = none_summed f (set views k (empty_view 0))
    (λ j. each_view (λ (v : View). f v ≡ 0) views k (empty_view 0) here none others j) in
    omega arith
