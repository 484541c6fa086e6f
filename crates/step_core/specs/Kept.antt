-- What the type of a world keeps, and how a step answers.
use Rattle.std.specs.Prelude.{◌≡◌, ℕ, ◌<◌, ◌≤◌, length, Result, Ok, Err, Option, None, Some, MatchOption, IsTrue, ⊤}
use Rattle.commons.specs.Bounds.{IsPool}
use Rattle.commons.specs.Calls.{spent}
use Rattle.commons.specs.declared.refusal.Refusal.{Refusal}
use Rattle.commons.specs.declared.refusal.Refusal.TheVariants.{OutOfMemory, StepRefused}
use Rattle.step_core.specs.World.{World, view_at, worker_part}
use Rattle.step_core.specs.Law.{Lawful}
use Rattle.step_core.specs.Steps.{Step, LoadLink, Cut, StoreLink, Claim, Sole, Raise, Lower, Reset, Seize, Outcome, Value, Got, Won, Done, Play, turn}
use Rattle.step_core.specs.declared.words.Words.{Words}

-- what the fields of a world are
abbrev pub world_of : Words → World
world_of w = record {
  limits = w.limits;
  head = w.head;
  length = w.length;
  links = w.links.items;
  counts = w.counts.items;
  desks = w.desks.items;
  views = w.views.items;
}

-- A lawful world of a pool: the limits are a pool's, there is a view for each worker, each with
-- a worker's part, and a desk for each desk, and the head's count is at most the spent count.
pub record IsWorld (w : World) : Type 0 where
  pub pool : IsPool w.limits
  pub views : length w.views ≡ w.limits.workers
  pub part : (k : ℕ) → k < length w.views → (view_at w.views k).part ≡ worker_part
  pub desks : length w.desks ≡ w.limits.desks
  pub count : w.head.count ≤ spent
  pub law : Lawful w

-- a step with this outcome makes a list of the view longer, and so may find no memory
abbrev pub Grows : Step → Outcome → Type 0
Grows (LoadLink i) (Value link) = ⊤
Grows Cut (Got front) = ⊤
Grows (StoreLink i j) Done = ⊤
Grows (Claim i) (Value count) = ⊤
Grows (Sole i free) (Value count) = IsTrue free × (count ≡ 1)
Grows (Raise i old) Won = ⊤
Grows (Lower i) (Value count) = count ≡ 1
Grows (Reset i) Done = ⊤
Grows (Seize d) Won = ⊤
Grows step outcome = ⊥

-- A step that is played has its outcome and change, or finds no memory for a list that it would
-- make longer; one that isn't is refused. A refusal leaves the world as it was.
abbrev pub Answers : Step → Option Play → World → Result Outcome Refusal → World → Type 0
Answers kind step before (Ok outcome) after =
    MatchOption step ⊥ (λ p. (outcome ≡ p.outcome) × (after ≡ p.after))
Answers kind step before (Err StepRefused) after = (step ≡ None) × (after ≡ before)
Answers kind step before (Err OutOfMemory) after =
    MatchOption step ⊥ (λ p. Grows kind p.outcome) × (after ≡ before)
Answers kind step before (Err _) after = ⊥

-- so of the step of the worker at this index
abbrev pub Turns : World → ℕ → Step → Result Outcome Refusal → World → Type 0
Turns before index step answer after = Answers step (turn before index step) before answer after

-- The same by `play`: a step that is played answers and leaves what it says, or finds no memory
-- for a list that it makes longer; exactly a step that isn't played is refused so.
abbrev pub AnswersTo : Step → Option (Outcome × World) → World → Result Outcome Refusal → World → Type 0
AnswersTo kind step before (Ok outcome) after = step ≡ Some (outcome, after)
AnswersTo kind step before (Err StepRefused) after = (step ≡ None) × (after ≡ before)
AnswersTo kind step before (Err OutOfMemory) after =
    MatchOption step ⊥ (λ p. Grows kind p.0) × (after ≡ before)
AnswersTo kind step before (Err _) after = ⊥
