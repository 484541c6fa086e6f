-- How many changes of the stack are left, by one read of its head.
use Rattle.std.specs.Prelude.{◌≡◌, ℕ, ◌+◌, ◌≤◌}
use Rattle.commons.specs.Calls.{spent}
use Rattle.step_core.specs.declared.view.Head.{Head}
use Rattle.step_core.specs.declared.step.Step.TheVariants.{LoadHead}
use Rattle.step_core.specs.declared.step.Outcome.TheVariants.{HeadIs}
use Rattle.ground.specs.Changing.{KnowsChanges}
use Rattle.ground.specs.Seats.{Seated, Steps}
use Rattle.stack_lf.specs.Sides.{side_of}

-- A seat read the head once, and that was its only step: as many changes are left as lie between
-- the count that it found and the spent one.
pub record ReadsRemaining (s : Seated) (left : ℕ) (t : Seated) : Type 0 where
  pub head : Head
  pub read : Steps LoadHead (HeadIs head) s t
  pub counted : left + head.count ≡ spent
  -- the count is none from before what the seat has seen, and has its own changes in it; to the
  -- only seat of a pool it is just the start and those
  pub later : s.known.view.seen ≤ head.count
  pub changes : KnowsChanges s.known head.count
  -- what the worker has stays
  pub side : side_of t ≡ side_of s
