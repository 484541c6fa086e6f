-- Which fault of a snapshot is the first.
use Rattle.std.proofs.Common.{ℕ, ◌≡◌, ◌≤◌, inl, inr, arith}
use Rattle.std.specs.Prelude.{All}
use Rattle.std.proofs.lemmas.List.Elements.{All-contains}
use Rattle.snapshot.specs.declared.fault.Fault.{Fault}
use Rattle.snapshot.specs.declared.fault.Fault.TheVariants.{BadShape, BadTop}
use Rattle.snapshot.specs.declared.snapshot.Snapshot.{Snapshot}
use Rattle.snapshot.specs.Faults.{IsFault, IsFirstFault, IsCleanBelow, rank, subject}
use Rattle.snapshot.specs.Snapshots.{HasShape, words_met}

-- a fault is the first where those of earlier kinds aren't there, and those of its kind name no
-- less
pub first_of_kind : (s : Snapshot) (f : Fault) → IsFault s f → IsCleanBelow (rank f) s →
    ((g : Fault) → IsFault s g → rank g ≡ rank f → subject f ≤ subject g) → IsFirstFault s f
first_of_kind s f is clean least = (
  is,
  λ g has before. elim before as (λ _. ⊥) [
    | inl l ↦ absurd (omega (arith, clean g has))
    | inr l ↦ absurd (omega (arith, least g has l.0, l.1))
  ],
)

-- a snapshot of the right shape has no bad shape
pub clean_shape : (s : Snapshot) → HasShape s → IsCleanBelow 1 s
clean_shape s shape BadShape has = absurd (has shape)
clean_shape s shape g has = omega arith

-- nor, where no word that is met is above the population, a bad top
pub clean_words : (s : Snapshot) → HasShape s →
    All (λ word. word ≤ s.limits.population) (words_met s) → IsCleanBelow 2 s
clean_words s shape words BadShape has = absurd (has shape)
clean_words s shape words (BadTop v) has =
    let fits : v ≤ s.limits.population =
    All-contains (λ (word : ℕ). word ≤ s.limits.population) (words_met s) v words has.0 in
    absurd (omega (arith, has.1))
clean_words s shape words g has = omega arith
