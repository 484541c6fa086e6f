-- What the laws come to, in the words of one who uses a pool.
use Rattle.std.specs.Prelude.{◌≡◌, ◌≢◌, ℕ, zero, suc, ◌+◌, ◌<◌, ◌≤◌, min, sum_by, List, [], ◌∷◌, ◌++◌, Option, Some, None, option_to_list, ⊤, length, slice_index}
use Rattle.commons.specs.Bag.{bag}
use Rattle.step_core.specs.Bags.{Includes, IsDistinct}
use Rattle.step_core.specs.Links.{Spells}
use Rattle.step_core.specs.World.{World, Look, Chain, view_of, link_in, all_holds, credits}
use Rattle.step_core.specs.Law.{Lawful}
use Rattle.step_core.specs.Table.{Place, Common, Hand, Held, Table, Event, Get, Put, Claim, Attach, Free, Offer, Take, EventLeads, Run}
use Rattle.step_core.specs.Shows.{ShowsTable}
use Rattle.step_core.specs.Steps.{Cut, Got, Play, play, played, event_of}
use Rattle.step_core.specs.Kept.{IsWorld}
use Rattle.step_core.specs.Schedules.{Schedule}
use Rattle.step_core.specs.Steps.{Outcome}
use Rattle.step_core.specs.Runs.{Reaches}

-- ---- of one moment

-- how many of the elements below n are held
abbrev pub held_below : World → ℕ → ℕ
held_below w zero = 0
held_below w (suc n) = held_below w n + min 1 (all_holds n w.views w.desks)

-- the common list, the hands and the held elements together are the population
abbrev pub AllAreThere : Type 0
AllAreThere = (w : World) (common : List ℕ) → Lawful w → Spells (link_in w.links) w.head.top common
    → length common + sum_by (λ v. length v.hand) w.views + sum_by (λ v. length v.zeros) w.views
    + held_below w w.limits.population ≡ w.limits.population

-- the length word and the credits are never more than the population
abbrev pub LengthIsBounded : Type 0
LengthIsBounded = (w : World) → Lawful w → w.length + credits w.views ≤ w.limits.population

-- While the count of a look is the head's, the common list is the look's front followed by the
-- list from its next.
abbrev pub FrontThenRest : Type 0
FrontThenRest =
    (w : World) (worker : ℕ) (l : Look) (common : List ℕ) → Lawful w →
    0 < (view_of w.views worker).part → (view_of w.views worker).look ≡ Some l →
    l.head.count ≡ w.head.count
    → Spells (link_in w.links) w.head.top common →
    (rest : List ℕ) × (common ≡ l.front ++ rest) × Spells (link_in w.links) l.next rest

-- an exchange of the head that lost found a greater count than the look's
abbrev pub LostIsLater : Type 0
LostIsLater =
    (w : World) (worker : ℕ) (l : Look) → Lawful w → 0 < (view_of w.views worker).part →
    (view_of w.views worker).look ≡ Some l → w.head ≢ l.head → l.head.count < w.head.count

-- a chain's elements are distinct elements of the hand, with count 1
abbrev pub ChainIsOfHand : Type 0
ChainIsOfHand =
    (w : World) (worker : ℕ) (c : Chain) → Lawful w → 0 < (view_of w.views worker).part →
    (view_of w.views worker).chain ≡ Some c
    → IsDistinct c.items × Includes (view_of w.views worker).hand c.items
    × ((i : ℕ) → 0 < bag c.items i → slice_index w.counts i ≡ 1)

-- ---- of one step

-- a cut that won gives distinct elements, by one get of them all
abbrev pub CutGetsAll : Type 0
CutGetsAll =
    (w : World) (worker : ℕ) (xs : List ℕ) (u : World) → Lawful w →
    0 < (view_of w.views worker).part → play w worker Cut ≡ Some (Got xs, u)
    → IsDistinct xs × (event_of w worker Cut ≡ Some (Get worker xs))

-- ---- of schedules

-- the world after a step, or the same where the step isn't played
abbrev pub after_of : World → Option Play → World
after_of w None = w
after_of w (Some p) = p.after

-- the events of a schedule, in order
abbrev pub events_along : World → Schedule → List Event
events_along w [] = []
events_along w (p ∷ rest) =
    option_to_list (event_of w p.0 p.1) ++ events_along (after_of w (played w p.0 p.1)) rest

-- the events of every schedule that is played from a world of a pool are a run of the table, to
-- one that the last world shows
abbrev pub SchedulesAreRuns : Type 0
SchedulesAreRuns =
    (w : World) (schedule : Schedule) (os : List Outcome) (u : World) → IsWorld w →
    Reaches w schedule os u
    → (t : Table) → ShowsTable w t →
    (s : Table) × ShowsTable u s × Run w.limits.population t (events_along w schedule) s

-- no step of the schedule is this worker's
abbrev pub NoneBy : ℕ → Schedule → Type 0
NoneBy worker [] = ⊤
NoneBy worker (p ∷ rest) = (p.0 ≢ worker) × NoneBy worker rest

-- whatever the others do, a worker that takes no step has and knows what it had and knew
abbrev pub StoppedKeepsItsView : Type 0
StoppedKeepsItsView =
    (w : World) (schedule : Schedule) (os : List Outcome) (u : World) (stopped : ℕ) →
    Reaches w schedule os u → NoneBy stopped schedule →
    view_of u.views stopped ≡ view_of w.views stopped

-- a get, and a put, that lists the element
abbrev pub EventGets : ℕ → Event → Type 0
EventGets i (Get w xs) = 0 < bag xs i
EventGets i (Put w xs) = ⊥
EventGets i (Claim w j) = ⊥
EventGets i (Attach w j) = ⊥
EventGets i (Free w j) = ⊥
EventGets i (Offer w d xs) = ⊥
EventGets i (Take w d xs) = ⊥

abbrev pub EventPuts : ℕ → Event → Type 0
EventPuts i (Get w xs) = ⊥
EventPuts i (Put w xs) = 0 < bag xs i
EventPuts i (Claim w j) = ⊥
EventPuts i (Attach w j) = ⊥
EventPuts i (Free w j) = ⊥
EventPuts i (Offer w d xs) = ⊥
EventPuts i (Take w d xs) = ⊥

-- this is true of no event of the list
abbrev pub Never : (Event → Type 0) → List Event → Type 0
Never P [] = ⊤
Never P (e ∷ es) = (P e → ⊥) × Never P es

-- a place where somebody holds the element
abbrev pub IsHeld : Place → Type 0
IsHeld Common = ⊥
IsHeld (Hand w) = ⊥
IsHeld (Held ws ds) = ⊤

-- a run in each of whose tables the element is held
abbrev pub RunHeld : ℕ → ℕ → Table → List Event → Table → Type 0
RunHeld n i t [] u = IsHeld (t i) × Run n t [] u
RunHeld n i t (e ∷ es) u = IsHeld (t i) × ((s : Table) × EventLeads n e t s × RunHeld n i s es u)

-- no get and no put lists an element as long as it is held
abbrev pub HeldIsLeft : Type 0
HeldIsLeft =
    (n : ℕ) (t u : Table) (events : List Event) (i : ℕ) → i < n → RunHeld n i t events u →
    Never (EventGets i) events × Never (EventPuts i) events

-- While an element isn't common, and until a put lists it, no get lists it: so from its get on, and
-- as long as anybody holds it.
abbrev pub NotGivenAgain : Type 0
NotGivenAgain =
    (n : ℕ) (t u : Table) (events : List Event) (i : ℕ) → Run n t events u → i < n → t i ≢ Common →
    Never (EventPuts i) events → Never (EventGets i) events
