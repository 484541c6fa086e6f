-- What no step of a history gives: an element that is held, from its claim on, until the free that
-- ends its last hold. And the two worlds that no operation on a word leaves, but passes.
use Rattle.std.specs.Prelude.{◌≡◌, ℕ, suc, ◌<◌, true, List, [], ◌∷◌, ◌++◌, Some, ⊤, MatchOption}
use Rattle.commons.specs.Bag.{bag}
use Rattle.commons.specs.declared.limits.Limits.{Limits}
use Rattle.step_core.specs.declared.step.Step.{Step}
use Rattle.step_core.specs.declared.step.Step.TheVariants.{Cut, Claim, Sole, Lower, PutIn, TakeOut}
use Rattle.step_core.specs.declared.step.Outcome.{Outcome}
use Rattle.step_core.specs.declared.step.Outcome.TheVariants.{Value, Got}
use Rattle.step_core.specs.Headline.{EventGets, EventPuts, IsHeld}
use Rattle.step_core.specs.Headers.{HeaderLaw}
use Rattle.step_core.specs.Law.{Lawful}
use Rattle.step_core.specs.Shows.{ShowsTable}
use Rattle.step_core.specs.Steps.{event_of, play}
use Rattle.step_core.specs.Table.{Table}
use Rattle.step_core.specs.World.{World, view_of, desk_at, shelf}
use Rattle.ground.specs.History.{Log, Move, Stepped, Split, Lent, Parcelled, Joined, Led}

-- a step with this outcome gives the element to a worker: a cut that won, of a list that has it
abbrev pub Gives : ℕ → Step → Outcome → Type 0
Gives i Cut (Got xs) = 0 < bag xs i
Gives i step outcome = ⊥

-- a step with this outcome ends the element's last hold: it found a count of 1
abbrev pub EndsLast : ℕ → Step → Outcome → Type 0
EndsLast i (Lower j) (Value count) = (j ≡ i) × (count ≡ 1)
EndsLast i (Sole j true) (Value count) = (j ≡ i) × (count ≡ 1)
EndsLast i step outcome = ⊥

-- no step of these moves is so
abbrev pub NoStep : (Step → Outcome → Type 0) → List Move → Type 0
NoStep P [] = ⊤
NoStep P (Stepped id step outcome ∷ ms) = (P step outcome → ⊥) × NoStep P ms
NoStep P (Split id ∷ ms) = NoStep P ms
NoStep P (Lent id i ∷ ms) = NoStep P ms
NoStep P (Parcelled id p ∷ ms) = NoStep P ms
NoStep P (Joined id other ∷ ms) = NoStep P ms

-- whatever table the world shows, somebody holds the element in it
abbrev pub IsHeldIn : ℕ → World → Type 0
IsHeldIn i w = (t : Table) → ShowsTable w t → IsHeld (t i)

-- the move from this world doesn't give the element: no get lists it, and no put
abbrev pub LeavesIt : ℕ → World → Move → Type 0
LeavesIt i w (Stepped id step outcome) =
    (Gives i step outcome → ⊥)
    × MatchOption (event_of w (suc id) step) ⊤ (λ e. (EventGets i e → ⊥) × (EventPuts i e → ⊥))
LeavesIt i w (Split id) = ⊤
LeavesIt i w (Lent id j) = ⊤
LeavesIt i w (Parcelled id p) = ⊤
LeavesIt i w (Joined id other) = ⊤

-- These moves, the last first, followed on the earlier ones: in the world before each of them, and
-- in the last world, the element is held, and none of them gives it.
abbrev pub IsHeldOver : ℕ → (l : Limits) (since earlier : List Move) (w : World) (logs : List Log) →
    Led l (since ++ earlier) w logs → Type 0
IsHeldOver i l [] earlier w logs led = IsHeldIn i w
IsHeldOver i l (m ∷ since) earlier w logs led =
    IsHeldIn i w × LeavesIt i led.0 m × IsHeldOver i l since earlier led.0 led.1 led.3

-- From a claim of i on, by whichever seat, as long as no step ends the last hold of i: i is held in
-- every table that a world shows, and no step gives it to anybody, whatever the seats do and
-- however many there are.
abbrev pub HeldIsNotGiven : Type 0
HeldIsNotGiven =
    (l : Limits) (since earlier : List Move) (id i : ℕ) (o : Outcome) (w : World) (logs : List Log)
    (led : Led l (since ++ Stepped id (Claim i) o ∷ earlier) w logs) → NoStep (EndsLast i) since →
    IsHeldOver i l since (Stepped id (Claim i) o ∷ earlier) w logs led

-- the step brings a packet into the slot of this desk, or takes it out
abbrev pub MovesPacket : ℕ → Step → Type 0
MovesPacket d (PutIn e p) = e ≡ d
MovesPacket d (TakeOut e) = e ≡ d
MovesPacket d step = ⊥

-- Between a PutIn and its Open, and between a TakeOut and its Clear, the world is lawful too: no
-- hold is counted on the desk, and the packet's are its worker's, as they were before.
abbrev pub PassesLawful : Type 0
PassesLawful =
    (w : World) (worker d : ℕ) (s : Step) (o : Outcome) (v : World) → Lawful w → HeaderLaw w →
    0 < (view_of w.views worker).part → MovesPacket d s → play w worker s ≡ Some (o, v)
    → Lawful v × HeaderLaw v × (shelf (desk_at v.desks d) ≡ [])
    × ((view_of v.views worker).holds ≡ (view_of w.views worker).holds)
    × ((view_of v.views worker).headers ≡ (view_of w.views worker).headers)
