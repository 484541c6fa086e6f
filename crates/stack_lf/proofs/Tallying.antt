-- The steps of a lower.
use Rattle.std.proofs.Common.{◌≡◌, ◌≢◌, ◌==◌, ℕ, Bool, true, false, List, [], ◌∷◌, ◌++◌, refl, sym, ap, ◌∙◌, subst}
use Rattle.std.specs.Prelude.{if◌then◌else◌}
use Rattle.std.proofs.lemmas.Bool.{ne_eqb, eq-eqb, cond-true}
use Rattle.step_core.specs.Bags.{without}
use Rattle.step_core.specs.Views.{freed, hold_ended}
use Rattle.step_core.specs.declared.step.Step.TheVariants.{Sole, Lower, Reset}
use Rattle.step_core.specs.declared.step.Outcome.TheVariants.{Value, Done}
use Rattle.ground.specs.Seats.{Seated, after, Steps}
use Rattle.stack_lf.specs.Tries.{Lowered, LoweredToLast, notes}
use Rattle.stack_lf.proofs.Composing.{one_more}

-- a count other than 1 frees nothing
pub sole_kept : (i c : ℕ) (s t : Seated) → c ≢ 1 → Steps (Sole i true) (Value c) s t →
    t ≡ after s ((Sole i true, Value c) ∷ []) s.known.view
sole_kept i c s t ne e =
    e ∙ ap (λ (b : Bool). after s ((Sole i true, Value c) ∷ []) (if b then freed s.known.view i else s.known.view))
    (ne_eqb c 1 ne)

-- a list without its first
without-head : (x : ℕ) (xs : List ℕ) → without x (x ∷ xs) ≡ xs
unfolding without
without-head x xs = cond-true (x == x) xs (x ∷ without x xs) (eq-eqb x x refl)

-- a lower that read more than 1 ends the hold and frees nothing
pub lower_still : (i c b : ℕ) (s t u : Seated) → c ≢ 1 → b ≢ 1 → Steps (Sole i true) (Value c) s t →
    Steps (Lower i) (Value b) t u →
    u ≡ after s (notes (Lowered i c b)) (hold_ended s.known.view i false)
lower_still i c b s t u nc nb e f =
    one_more s t u ((Sole i true, Value c) ∷ []) s.known.view (Lower i) (Value b)
    (sole_kept i c s t nc e) f
    ∙ ap (λ (z : Bool). after s (notes (Lowered i c b)) (hold_ended s.known.view i z)) (ne_eqb b 1 nb)

-- between a lower that read 1 and the store
pub lower_between : (i c b : ℕ) (s t u : Seated) → c ≢ 1 → b ≡ 1 →
    Steps (Sole i true) (Value c) s t → Steps (Lower i) (Value b) t u →
    u ≡ after s ((Sole i true, Value c) ∷ (Lower i, Value 1) ∷ []) (hold_ended s.known.view i true)
lower_between i c b s t u nc is e f =
    one_more s t u ((Sole i true, Value c) ∷ []) s.known.view (Lower i) (Value 1)
    (sole_kept i c s t nc e) (subst (λ (z : ℕ). Steps (Lower i) (Value z) t u) is f)

-- and where the count is set to 1 again, the element is freed
pub lower_last : (i c b : ℕ) (s t u w : Seated) → s.known.view.zeros ≡ [] → c ≢ 1 → b ≡ 1 →
    Steps (Sole i true) (Value c) s t → Steps (Lower i) (Value b) t u → Steps (Reset i) Done u w →
    w ≡ after s (notes (LoweredToLast i c)) (freed s.known.view i)
lower_last i c b s t u w none nc is e f d =
    one_more s u w ((Sole i true, Value c) ∷ (Lower i, Value 1) ∷ [])
    (hold_ended s.known.view i true) (Reset i) Done (lower_between i c b s t u nc is e f) d
    ∙ ap (λ (z : List ℕ). after s (notes (LoweredToLast i c)) (record (freed s.known.view i) { zeros = z }))
    (ap (λ (z : List ℕ). without i (z ++ i ∷ [])) none ∙ (without-head i [] ∙ sym none))
