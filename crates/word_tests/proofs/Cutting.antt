-- A cut of one element that was reserved.
use Rattle.std.proofs.Common.{ℕ, [], ◌∷◌, ◌<◌, ◌≤◌, refl, sym, subst}
use Rattle.std.specs.Prelude.{None, nat_lt, nat_le}
use Rattle.std.proofs.lemmas.Bool.{and_from, lt-ltb, le-leb}
use Rattle.commons.specs.Calls.{spent}
use Rattle.step_core.specs.declared.view.Head.{Head}
use Rattle.step_core.specs.declared.step.Step.TheVariants.{LoadLink, LoadHead}
use Rattle.step_core.specs.declared.step.Outcome.TheVariants.{Value, HeadIs}
use Rattle.step_core.specs.Views.{view_after, MayCut}
use Rattle.ground.specs.Seats.{Seated, Steps}

-- it may be tried where a head was read whose count isn't spent, and the link of its top
pub may_cut_one : (h : Head) (i next : ℕ) (s t u : Seated) → Steps LoadHead (HeadIs h) s t →
    Steps (LoadLink i) (Value next) t u → 1 ≤ s.known.view.credit → h.count < spent →
    MayCut u.known.view h next
may_cut_one h i next s t u e f reserved less =
    subst (λ (z : Seated). MayCut z.known.view h next) (sym f)
    (subst (λ (z : Seated). MayCut (view_after None (LoadLink i) (Value next) z.known.view) h next)
    (sym e) (
      record { head = h; front = i ∷ []; next = next },
      refl,
      and_from (nat_le 1 s.known.view.credit) (nat_lt h.count spent)
          (le-leb 1 s.known.view.credit reserved) (lt-ltb h.count spent less),
      refl,
      refl,
    ))
