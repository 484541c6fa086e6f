-- How a ground is closed, by the one seat that the seats of its workers were joined to. No public
-- clause cites this module.
use Rattle.std.specs.Prelude.{◌≡◌, ◌++◌, IfSome}
use Rattle.commons.specs.Bounds.{IsPool}
use Rattle.commons.specs.declared.closed.Closed.{Closed}
use Rattle.commons.specs.declared.limits.Limits.{Limits}
use Rattle.ground.specs.Changing.{IsFresh, closed_at_start}
use Rattle.ground.specs.Closing.{LeftOf}
use Rattle.ground.specs.Lying.{LieByNotes}
use Rattle.ground.specs.Seats.{Grounded}
use Rattle.ground.specs.declared.known.Known.{Known}
use Rattle.step_core.specs.World.{every_part}

-- This ground was closed by a seat that knew this: these are its limits, and this is what it left.
pub record IsClosedBy (g : Grounded) (n : Known) (l : Limits) (c : Closed) : Type 0 where
  pub limits : l ≡ g.limits
  pub pool : IsPool g.limits
  pub left : LeftOf g.limits n.view c
  -- on the desks lay what the seat knew to lie there
  pub desks : IfSome n.lying (λ desks. c.desks ≡ desks)
  -- the only seat's notes tell what lay there
  pub noted : n.view.part ≡ every_part g.limits → LieByNotes (n.steps ++ n.joined) c.desks
  -- where nobody had done anything, all was as at the start
  pub start : IsFresh n → c ≡ closed_at_start g.limits
