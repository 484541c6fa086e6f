-- What seats have done so far: how often they changed the stack, and whether they took any step.
use Rattle.std.specs.Prelude.{◌≡◌, ℕ, ◌+◌, ◌≤◌, List, [], replicate, None, sum_by}
use Rattle.commons.specs.declared.closed.Closed.{Closed}
use Rattle.commons.specs.declared.limits.Limits.{Limits}
use Rattle.step_core.specs.declared.step.Step.{Step}
use Rattle.step_core.specs.declared.step.Step.TheVariants.{Cut, Push}
use Rattle.step_core.specs.declared.step.Outcome.{Outcome}
use Rattle.step_core.specs.declared.step.Outcome.TheVariants.{Won, Got}
use Rattle.step_core.specs.declared.view.Head.{Head}
use Rattle.step_core.specs.Opening.{opening}
use Rattle.ground.specs.declared.known.Known.{Known}
use Rattle.step_core.specs.World.{every_part}

-- how often a step with this outcome changes the stack: once, where a cut or a push won
abbrev pub changes_by : Step → Outcome → ℕ
changes_by Cut (Got front) = 1
changes_by Push Won = 1
changes_by step outcome = 0

abbrev pub changes_in : List (Step × Outcome) → ℕ
changes_in notes = sum_by (λ note. changes_by note.0 note.1) notes

-- how often the seat, and those that were joined to it, changed the stack
abbrev pub changes_of : Known → ℕ
changes_of n = changes_in n.steps + changes_in n.joined

-- A seat knows of a head that its count is the start and the changes of the seat at least; the only
-- seat of a pool, which has every part, knows that there are no others.
pub record KnowsChanges (n : Known) (count : ℕ) : Type 0 where
  pub own : n.limits.start_count + changes_of n ≤ count
  pub all : n.view.part ≡ every_part n.limits → count ≡ n.limits.start_count + changes_of n

-- neither the seat nor one that was joined to it has taken a step
pub record IsUnmoved (n : Known) : Type 0 where
  pub steps : n.steps ≡ []
  pub joined : n.joined ≡ []

-- the seat is the only one of its pool and hasn't moved: nobody has done anything
pub record IsFresh (n : Known) : Type 0 where
  pub whole : n.view.part ≡ every_part n.limits
  pub unmoved : IsUnmoved n

-- a pool of which nobody has done anything shows this head, where it is asked for
abbrev pub KnowsOpening : Known → Head → Type 0
KnowsOpening n head = IsFresh n → head ≡ (opening n.limits).head

-- a pool of which nobody has done anything leaves this, when it is closed
abbrev pub closed_at_start : Limits → Closed
closed_at_start l = record {
  top = (opening l).head.top;
  length = (opening l).length;
  links = (opening l).links;
  counts = (opening l).counts;
  desks = replicate l.desks None;
}
