-- How the words of a pool came to be: by steps of the machine, each by one seat, by seats that were
-- split, elements and packets that were lent, and seats that were joined. Seats are numbered from
-- 0, and the machine's workers from 1.
use Rattle.std.specs.Prelude.{◌≡◌, ◌≢◌, ℕ, suc, ◌<◌, ◌≤◌, List, [], ◌∷◌, ◌++◌, Option, Some, None, length, map, replicate, slice_set, ⊤, ◌==◌, if◌then◌else◌}
use mathlib.Core.Option.{some}
use lib.ListN.{get_elem?}
use Rattle.commons.specs.Bag.{bag}
use Rattle.commons.specs.Packets.{holds_of_packet}
use Rattle.commons.specs.declared.limits.Limits.{Limits}
use Rattle.step_core.specs.Bags.{Includes, SameBag}
use Rattle.step_core.specs.Headers.{OwnsHeaders}
use Rattle.step_core.specs.declared.step.Step.{Step}
use Rattle.step_core.specs.declared.step.Step.TheVariants.{PutIn, Open, Seize, TakeOut}
use Rattle.step_core.specs.declared.step.Outcome.{Outcome}
use Rattle.step_core.specs.declared.step.Outcome.TheVariants.{Won, Found}
use Rattle.step_core.specs.Law.{Lawful}
use Rattle.step_core.specs.Schedules.{slot_at}
use Rattle.step_core.specs.Shows.{ShowsTable, Happens}
use Rattle.step_core.specs.Steps.{play, event_of}
use Rattle.step_core.specs.Table.{Place, Common, Hand, Held, Table, Same, SameTable, Where}
use Rattle.step_core.specs.Handing.{put_by}
use Rattle.step_core.specs.World.{World, Packet, desk_at, view_at, empty_view, worker_part}
use Rattle.ground.specs.declared.known.Known.{Known}
use Rattle.ground.specs.Opening.{opening_alone}
use Rattle.ground.specs.Own.{AtRest}
use Rattle.ground.specs.Parting.{less, lending, loan_of, parting, parcel_view, both_views}

-- the steps that a seat noted, and those of the seats that were joined to it
abbrev pub Log : Type 0
Log = List (Step × Outcome) × List (Step × Outcome)

abbrev pub log_of : Known → Log
log_of n = (n.steps, n.joined)

abbrev pub logs_of : List Known → List Log
logs_of ns = map log_of ns

-- What a seat notes of a step of the machine, by what was in the slot of its desk: the step with
-- its outcome, but of an Open and a won Seize the packet that moved, and of what is done to a slot
-- alone nothing.
abbrev pub notes_of : Step → Outcome → Option Packet → List (Step × Outcome)
notes_of (PutIn d p) outcome slot = []
notes_of (TakeOut d) outcome slot = []
notes_of (Open d) outcome (Some p) = (Open d, Found p) ∷ []
notes_of (Seize d) Won (Some p) = (Seize d, Found p) ∷ []
notes_of step outcome slot = (step, outcome) ∷ []

-- one thing that was done: a step of the machine, by a seat; a part of a seat that went to a new
-- one; an element of a seat's hand, or a packet of a seat, that went to a new one; two seats made
-- one
pub data Move : Type 0 where
  Stepped : (seat : ℕ) (step : Step) (outcome : Outcome) → Move
  Split : (seat : ℕ) → Move
  Lent : (seat element : ℕ) → Move
  Parcelled : (seat : ℕ) (packet : Packet) → Move
  Joined : (seat other : ℕ) → Move

-- from the world w, of which these are the logs, the move leads to the world u and its logs
abbrev pub MoveLeads : Move → World → List Log → World → List Log → Type 0
MoveLeads (Stepped id step outcome) w logs u after =
    (0 < (view_at w.views id).part) × (play w (suc id) step ≡ Some (outcome, u))
    × ((log : Log) × (get_elem? logs id ≡ some log)
    × (after ≡ slice_set logs id (log.0 ++ notes_of step outcome (slot_at w.desks step), log.1)))
MoveLeads (Split id) w logs u after =
    (worker_part < (view_at w.views id).part)
    × (u ≡ record w { views = slice_set w.views id (less (view_at w.views id)) ++ empty_view worker_part ∷ [] })
    × (after ≡ logs ++ ([], []) ∷ [])
MoveLeads (Lent id i) w logs u after =
    (2 ≤ (view_at w.views id).part) × AtRest (view_at w.views id) × (0 < bag (view_at w.views id).hand i)
    × (u ≡ record w { views = slice_set w.views id (lending i (view_at w.views id)) ++ loan_of i ∷ [] })
    × (after ≡ logs ++ ([], []) ∷ [])
MoveLeads (Parcelled id p) w logs u after =
    (2 ≤ (view_at w.views id).part) × AtRest (view_at w.views id)
    × Includes (view_at w.views id).holds (holds_of_packet p) × OwnsHeaders (view_at w.views id) p
    × (u ≡ record w {
      views = slice_set w.views id (parting p (view_at w.views id)) ++ parcel_view p ∷ [];
    })
    × (after ≡ logs ++ ([], []) ∷ [])
MoveLeads (Joined id other) w logs u after =
    (other ≢ id) × AtRest (view_at w.views id) × AtRest (view_at w.views other)
    × (u ≡ record w {
      views =
          slice_set (slice_set w.views id (both_views (view_at w.views id) (view_at w.views other))) other
          (empty_view 0);
    })
    × ((log taken : Log) × (get_elem? logs id ≡ some log) × (get_elem? logs other ≡ some taken)
    × (after ≡ slice_set (slice_set logs id (log.0, log.1 ++ (taken.0 ++ taken.1))) other ([], [])))

-- These moves, the last first, lead from the world at the start, whose only seat has noted
-- nothing, to this world and these logs; each world on the way is lawful.
abbrev pub Led : Limits → List Move → World → List Log → Type 0
Led l [] w logs = (w ≡ opening_alone l) × (logs ≡ ([], []) ∷ [])
Led l (m ∷ ms) w logs =
    (v : World) × (before : List Log) × Lawful v × Led l ms v before × MoveLeads m v before w logs

-- of n elements, i has gone from the first worker's hand to the second's, and each other one is
-- where it was
abbrev pub GoesToHand : (n i worker other : ℕ) → Table → Table → Type 0
GoesToHand n i worker other t r =
    (j : ℕ) → j < n → Where j (i ∷ []) ((t j ≡ Hand worker) × (r j ≡ Hand other)) (Same (t j) (r j))

-- n holds have gone from the first worker to the second, and the element is held as before else
abbrev pub HoldsGo : (n worker other : ℕ) → Place → Place → Type 0
HoldsGo n worker other (Held ws ds) (Held vs es) =
    SameBag (replicate n other ++ ws) (replicate n worker ++ vs) × SameBag ds es
HoldsGo n worker other (Held ws ds) Common = ⊥
HoldsGo n worker other (Held ws ds) (Hand w) = ⊥
HoldsGo n worker other Common q = ⊥
HoldsGo n worker other (Hand w) q = ⊥

-- of n elements, each of these has gone from the first worker's holds to the second's, as often as
-- it is listed, and each other one is where it was
abbrev pub GoToHolds : (n : ℕ) (xs : List ℕ) (worker other : ℕ) → Table → Table → Type 0
GoToHolds n xs worker other t r =
    (j : ℕ) → j < n → Where j xs (HoldsGo (bag xs j) worker other (t j) (r j)) (Same (t j) (r j))

-- the worker whose something is, once what the second had is the first's, and the place of an
-- element then
abbrev pub heir : (worker other w : ℕ) → ℕ
heir worker other w = if w == other then worker else w

abbrev pub taken_over : (worker other : ℕ) → Place → Place
taken_over worker other Common = Common
taken_over worker other (Hand w) = Hand (heir worker other w)
taken_over worker other (Held ws ds) = Held (map (λ w. heir worker other w) ws) ds

-- of n elements, what the second worker had and held the first has and holds, and all else is where
-- it was
abbrev pub TakesOver : (n worker other : ℕ) → Table → Table → Type 0
TakesOver n worker other t r = (j : ℕ) → j < n → Same (taken_over worker other (t j)) (r j)

-- Each step of a history is its one event of the table, by its seat's worker, or none; where a seat
-- is split, nothing moves; an element that is lent goes from that hand to the new one; what a
-- packet that is lent holds goes from those holds to the new seat's; and where seats are joined,
-- what the other had is the seat's; whichever tables the worlds before and after are read as.
abbrev pub AreEvents : (l : Limits) (ms : List Move) (w : World) (logs : List Log) → Led l ms w logs → Type 0
AreEvents l [] w logs led = ⊤
AreEvents l (Stepped id step outcome ∷ ms) w logs led =
    ((t r : Table) → ShowsTable led.0 t → ShowsTable w r →
    Happens led.0.limits.population (suc id) (event_of led.0 (suc id) step) t r)
    × AreEvents l ms led.0 led.1 led.3
AreEvents l (Split id ∷ ms) w logs led =
    ((t r : Table) → ShowsTable led.0 t → ShowsTable w r → SameTable led.0.limits.population t r)
    × AreEvents l ms led.0 led.1 led.3
AreEvents l (Lent id i ∷ ms) w logs led =
    ((t r : Table) → ShowsTable led.0 t → ShowsTable w r →
    GoesToHand led.0.limits.population i (suc id) (suc (length led.0.views)) t r)
    × AreEvents l ms led.0 led.1 led.3
AreEvents l (Parcelled id p ∷ ms) w logs led =
    ((t r : Table) → ShowsTable led.0 t → ShowsTable w r →
    GoToHolds led.0.limits.population (holds_of_packet p) (suc id) (suc (length led.0.views)) t r)
    × AreEvents l ms led.0 led.1 led.3
AreEvents l (Joined id other ∷ ms) w logs led =
    ((t r : Table) → ShowsTable led.0 t → ShowsTable w r →
    TakesOver led.0.limits.population (suc id) (suc other) t r)
    × AreEvents l ms led.0 led.1 led.3

-- the packet that was put into desk d last, by these moves, the last first
abbrev pub put_in_last : ℕ → List Move → Option Packet
put_in_last d [] = None
put_in_last d (Stepped id step outcome ∷ ms) = put_by d step (put_in_last d ms)
put_in_last d (Split id ∷ ms) = put_in_last d ms
put_in_last d (Lent id i ∷ ms) = put_in_last d ms
put_in_last d (Parcelled id p ∷ ms) = put_in_last d ms
put_in_last d (Joined id other ∷ ms) = put_in_last d ms

-- where a packet is in a desk's slot, it is the one that was put in last, by whichever seat
abbrev pub DesksHaveWhatWasPutIn : Type 0
DesksHaveWhatWasPutIn =
    (l : Limits) (ms : List Move) (w : World) (logs : List Log) → Led l ms w logs → (d : ℕ) (p : Packet) →
    (desk_at w.desks d).slot ≡ Some p → put_in_last d ms ≡ Some p

abbrev pub HistoriesAreEvents : Type 0
HistoriesAreEvents =
    (l : Limits) (ms : List Move) (w : World) (logs : List Log) (led : Led l ms w logs) →
    AreEvents l ms w logs led
