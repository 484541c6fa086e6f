-- What is said of a call's either outcome.
use Rattle.std.proofs.Common.{◌≡◌, ℕ, List, Result, Ok, Err, IfOk, IfErr, ◌∙◌}
use Rattle.std.specs.Prelude.{MatchResult}
use Rattle.commons.specs.declared.refusal.Refusal.{Refusal}
use Rattle.commons.specs.declared.refusal.Refusal.TheVariants.{OutOfMemory}

-- it is said of the same text by another name
pub either_outcome : {X : Type 0} (items : X → List ℕ) (r : Result X Refusal) (p q : List ℕ) → p ≡ q → IfOk r (λ x. items x ≡ p) → IfErr r (λ e. e ≡ OutOfMemory) →
    MatchResult r (λ x. items x ≡ q) (λ e. e ≡ OutOfMemory)
either_outcome items (Ok x) p q e ok err = ok ∙ e
either_outcome items (Err cause) p q e ok err = err
