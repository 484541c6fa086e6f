-- The laws of a hand that the type of a seat keeps.
use Rattle.std.proofs.Common.{◌≡◌, ℕ, ◌<◌, ◌≤◌, arith}
use Rattle.commons.specs.Bag.{bag}
use Rattle.commons.specs.declared.limits.Limits.{Limits}
use Rattle.step_core.specs.declared.view.View.{View}
use Rattle.ground.specs.Own.{Owned}

pub hand_once_of : (l : Limits) (v : View) → Owned l v → (i : ℕ) → bag v.hand i ≤ 1
hand_once_of l v o i = let h = o.hand_once i in omega arith

pub hand_below_of : (l : Limits) (v : View) → Owned l v → (i : ℕ) → l.population ≤ i →
    bag v.hand i ≡ 0
hand_below_of l v o i p = let h = o.hand_below i p in omega arith

pub apart_of : (l : Limits) (v : View) → Owned l v → (i : ℕ) → 0 < bag v.holds i →
    bag v.hand i ≡ 0
apart_of l v o i p = let h = o.apart i p in omega arith
