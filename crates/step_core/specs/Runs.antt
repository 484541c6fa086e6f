-- Schedules that are played, and what holds in every world that they pass.
use Rattle.std.specs.Prelude.{◌≡◌, ◌⊎◌, List, [], ◌∷◌, ◌++◌, Some, None, MatchOption}
use Rattle.commons.specs.declared.refusal.Refusal.{Refusal}
use Rattle.commons.specs.declared.refusal.Refusal.TheVariants.{OutOfMemory, StepRefused}
use Rattle.step_core.specs.Table.{Table}
use Rattle.step_core.specs.World.{World}
use Rattle.step_core.specs.Law.{Lawful}
use Rattle.step_core.specs.Shows.{ShowsTable, Happens}
use Rattle.step_core.specs.Steps.{Outcome, play, event_of}
use Rattle.step_core.specs.Kept.{IsWorld, Grows}
use Rattle.step_core.specs.Schedules.{Schedule}

-- the schedule is played from the first world to the last, with these outcomes
abbrev pub Reaches : World → Schedule → List Outcome → World → Type 0
Reaches w [] [] u = u ≡ w
Reaches w (p ∷ rest) (o ∷ os) u = (v : World) × (play w p.0 p.1 ≡ Some (o, v)) × Reaches v rest os u
Reaches w [] (o ∷ os) u = ⊥
Reaches w (p ∷ rest) [] u = ⊥

-- the schedule with these outcomes leads from w to u, and each world on the way is lawful and shows
-- a table, from this one on: the next table follows by the step's one event, by the worker that
-- steps, or is the same
abbrev pub Walks : World → Table → Schedule → List Outcome → World → Type 0
Walks w t [] [] u = Lawful w × ShowsTable w t × (u ≡ w)
Walks w t (p ∷ rest) (o ∷ os) u =
    Lawful w × ShowsTable w t × ((v : World) × (s : Table) × (play w p.0 p.1 ≡ Some (o, v))
    × Happens w.limits.population p.0 (event_of w p.0 p.1) t s × Walks v s rest os u)
Walks w t [] (o ∷ os) u = ⊥
Walks w t (p ∷ rest) [] u = ⊥

-- from whichever table the first world shows
abbrev pub WalksFrom : World → Schedule → List Outcome → World → Type 0
WalksFrom w schedule os u = (t : Table) → ShowsTable w t → Walks w t schedule os u

-- every schedule that is played from a world of a pool walks so
abbrev pub EveryScheduleWalks : Type 0
EveryScheduleWalks =
    (w : World) (schedule : Schedule) (os : List Outcome) (u : World) → IsWorld w →
    Reaches w schedule os u → WalksFrom w schedule os u

-- the first of these steps isn't played at u: its condition fails
abbrev pub FailsFirst : World → Schedule → Type 0
FailsFirst u [] = ⊥
FailsFirst u (p ∷ rest) = play u p.0 p.1 ≡ None

-- the first of these steps would be played at u, with an outcome for which a list gets longer
abbrev pub GrowsFirst : World → Schedule → Type 0
GrowsFirst u [] = ⊥
GrowsFirst u (p ∷ rest) = MatchOption (play u p.0 p.1) ⊥ (λ q. Grows p.1 q.0)

-- Why a run stops at u, between the steps that it played and the rest: the condition of the rest's
-- first fails there. Or there was no memory: for the outcomes, before the first step, or for a
-- list that the rest's first makes longer.
abbrev pub StopsAt : World → Schedule → Schedule → Refusal → Type 0
StopsAt u front rest StepRefused = FailsFirst u rest
StopsAt u front rest OutOfMemory = (front ≡ []) ⊎ GrowsFirst u rest
StopsAt u front rest _ = ⊥

-- a front of the schedule was played, up to a step that was refused
pub record Stopped (w : World) (schedule : Schedule) (refusal : Refusal) (u : World) : Type 0 where
  pub front : Schedule
  pub rest : Schedule
  pub outcomes : List Outcome
  pub parts : schedule ≡ front ++ rest
  pub walked : WalksFrom w front outcomes u
  pub cause : StopsAt u front rest refusal
