-- Schedules: lists of steps, each by a worker.
use Rattle.std.specs.Prelude.{◌≡◌, ◌≢◌, ℕ, ◌<◌, ◌≤◌, List, Option, Some, None}
use Rattle.step_core.specs.Table.{Table}
use Rattle.step_core.specs.World.{World, Limits, Packet, Desk, view_of, desk_at}
use Rattle.step_core.specs.Shows.{ShowsTable, Happens}
use Rattle.step_core.specs.Law.{Lawful}
use Rattle.step_core.specs.Steps.{Step, Hold, PutIn, Open, Seize, TakeOut, Clear, Outcome, play, event_of}
use Rattle.step_core.specs.Views.{view_after}
use Rattle.step_core.specs.Opening.{opening}
use Rattle.step_core.specs.Changes.{ChangesOne}

abbrev pub Schedule : Type 0
Schedule = List (ℕ × Step)

-- the opening is lawful
abbrev pub OpensLawful : Type 0
OpensLawful = (l : Limits) → 1 ≤ l.ref_limit → Lawful (opening l)

-- a step by a worker with a part keeps the law
abbrev pub KeepsLaw : Type 0
KeepsLaw =
    (w : World) (worker : ℕ) (s : Step) (o : Outcome) (u : World) → Lawful w →
    0 < (view_of w.views worker).part → play w worker s ≡ Some (o, u) → Lawful u

-- a step by a worker with a part is its event or none, whichever tables the worlds before and
-- after it are read as
abbrev pub MakesItsEvent : Type 0
MakesItsEvent =
    (w : World) (worker : ℕ) (s : Step) (o : Outcome) (u : World) → Lawful w →
    0 < (view_of w.views worker).part → play w worker s ≡ Some (o, u)
    → (t r : Table) → ShowsTable w t → ShowsTable u r →
    Happens w.limits.population worker (event_of w worker s) t r

-- a step changes at most one word or slot, and no other worker's view
abbrev pub ChangesLittle : Type 0
ChangesLittle =
    (w : World) (worker : ℕ) (s : Step) (o : Outcome) (u : World) → play w worker s ≡ Some (o, u) →
    ChangesOne worker w u

-- what stood in the slot of the desk that a step names; nothing for a step that names none
abbrev pub slot_at : List Desk → Step → Option Packet
slot_at desks (Hold d) = (desk_at desks d).slot
slot_at desks (PutIn d p) = (desk_at desks d).slot
slot_at desks (Open d) = (desk_at desks d).slot
slot_at desks (Seize d) = (desk_at desks d).slot
slot_at desks (TakeOut d) = (desk_at desks d).slot
slot_at desks (Clear d) = (desk_at desks d).slot
slot_at desks step = None

-- a step makes of its worker's view what `view_after` tells, by the slot as it was before, and
-- leaves every other worker's view
abbrev pub MakesItsView : Type 0
MakesItsView =
    (w : World) (worker : ℕ) (s : Step) (o : Outcome) (u : World) → play w worker s ≡ Some (o, u)
    → (view_of u.views worker ≡ view_after (slot_at w.desks s) s o (view_of w.views worker))
    × ((other : ℕ) → other ≢ worker → view_of u.views other ≡ view_of w.views other)

-- a lawful world shows a table
abbrev pub LawfulShows : Type 0
LawfulShows = (w : World) → Lawful w → (t : Table) × ShowsTable w t
