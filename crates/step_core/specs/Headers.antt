-- Headers: an element is one of one worker, or an own element of a packet on a desk, or neither.
use Rattle.std.specs.Prelude.{◌≡◌, ℕ, ◌+◌, ◌<◌, ◌≤◌, sum_by, List, [], ◌∷◌, Option, Some, None, IfSome, ⊤, ◌==◌, if◌then◌else◌}
use Rattle.commons.specs.Bag.{bag}
use Rattle.commons.specs.Calls.{desk_full}
use Rattle.commons.specs.Packets.{own_of_packet, own_in_slot}
use Rattle.step_core.specs.Bags.{Includes, IsDistinct}
use Rattle.step_core.specs.World.{Limits, Phase, ToFill, Filled, Seized, TakenOut, Packet, View, Desk, World, view_at, view_of}
use Rattle.step_core.specs.Law.{Lawful}
use Rattle.step_core.specs.Opening.{opening}
use Rattle.step_core.specs.Steps.{Step, Open, Outcome, play, played, phase_at}
use Rattle.step_core.specs.Kept.{IsWorld}
use Rattle.step_core.specs.Schedules.{Schedule}
use Rattle.step_core.specs.Runs.{Reaches}
use Rattle.step_core.specs.Headline.{after_of}

-- the own elements of the packet on a full desk
abbrev pub own_shelf : Desk → List ℕ
own_shelf d = if d.word == desk_full then own_in_slot d.slot else []

-- how often i is a header, or an own element on a full desk
abbrev pub all_headers : ℕ → List View → List Desk → ℕ
all_headers i views desks =
    sum_by (λ v. bag v.headers i) views + sum_by (λ d. bag (own_shelf d) i) desks

-- Each element is at most once a header or an own element on a full desk: of one worker, or of one
-- desk. A header is held by its worker.
pub record HaveHeaders (views : List View) (desks : List Desk) : Type 0 where
  pub once : (i : ℕ) → all_headers i views desks ≤ 1
  pub held : (k i : ℕ) → 0 < bag (view_at views k).headers i → 0 < bag (view_at views k).holds i

-- the law of a world's headers
abbrev pub HeaderLaw : World → Type 0
HeaderLaw w = HaveHeaders w.views w.desks

-- the packet that an Open gives away
abbrev pub given_away : Phase → Option Packet
given_away ToFill = None
given_away (Filled p) = Some p
given_away (Seized p) = None
given_away TakenOut = None

-- the own elements of the packet are distinct headers of the view's worker
abbrev pub OwnsHeaders : View → Packet → Type 0
OwnsHeaders v p = IsDistinct (own_of_packet p) × Includes v.headers (own_of_packet p)

-- if the step is an Open, then of a packet whose own elements are distinct headers of the worker
abbrev pub OpensOwn : View → Step → Type 0
OpensOwn v (Open d) = IfSome (phase_at d v.work) (λ ph. IfSome (given_away ph) (OwnsHeaders v))
OpensOwn v _ = ⊤

-- each Open of the schedule is of a packet whose own elements are distinct headers of its worker,
-- in the world in which it is played
abbrev pub AllOpenOwn : World → Schedule → Type 0
AllOpenOwn w [] = ⊤
AllOpenOwn w (p ∷ rest) =
    OpensOwn (view_of w.views p.0) p.1 × AllOpenOwn (after_of w (played w p.0 p.1)) rest

-- the opening keeps the law of headers
abbrev pub OpensWithHeaders : Type 0
OpensWithHeaders = (l : Limits) → HeaderLaw (opening l)

-- a step by a worker with a part, which opens nothing but what it owns, keeps the law of headers
abbrev pub KeepsHeaders : Type 0
KeepsHeaders =
    (w : World) (worker : ℕ) (s : Step) (o : Outcome) (u : World) → Lawful w → HeaderLaw w →
    0 < (view_of w.views worker).part → OpensOwn (view_of w.views worker) s →
    play w worker s ≡ Some (o, u) → HeaderLaw u

-- every schedule of such steps keeps the law of headers
abbrev pub SchedulesKeepHeaders : Type 0
SchedulesKeepHeaders =
    (w : World) (schedule : Schedule) (os : List Outcome) (u : World) → IsWorld w → HeaderLaw w →
    AllOpenOwn w schedule → Reaches w schedule os u → HeaderLaw u
