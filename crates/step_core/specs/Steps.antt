-- The 19 kinds of step, a row for each: its condition, its answer, what it changes, and its event.
use Rattle.std.specs.Prelude.{ℕ, zero, suc, ◌+◌, ◌-◌, Bool, true, Option, Some, None, is_none, option_map, option_and_then, length, slice_index, slice_set, nat_lt, nat_le, ◌==◌, ◌&&◌, if◌then◌else◌}
pub use Rattle.step_core.specs.declared.step.Step.{Step}
pub use Rattle.step_core.specs.declared.step.Step.TheVariants.{LoadLength, Reserve, Add, LoadHead, LoadLink, Cut, StoreLink, Push, Claim, Sole, Raise, Lower, Reset, Hold, PutIn, Open, Seize, TakeOut, Clear}
pub use Rattle.step_core.specs.declared.step.Outcome.{Outcome}
pub use Rattle.step_core.specs.declared.step.Outcome.TheVariants.{Value, HeadIs, Won, Got, Lost, LostTo, Done, Found}
use Rattle.commons.specs.Calls.{desk_empty, desk_full}
use Rattle.commons.specs.Packets.{holds_of_packet}
use Rattle.step_core.specs.Bags.{has, includes, all_below}
use Rattle.step_core.specs.Links.{link_value, first_value}
use Rattle.step_core.specs.World.{Head, Look, Chain, Phase, ToFill, Filled, Seized, TakenOut, Work, View, Desk, World, Packet, view_at, link_in, desk_at}
pub use Rattle.step_core.specs.Views.{can_cut, chain_after, can_push, chain_without, at_desk, phase_at, headers_left}
use Rattle.step_core.specs.Views.{reserved, given_back, looking_at, walked_on, cut_view, lost_look, chained, push_view, lost_push, claimed, freed, raised, hold_ended, was_reset, working, opened, seized}
use Rattle.step_core.specs.Table.{Event, Get, Put, Claim as ClaimEvent, Attach, Free, Offer, Take}

-- what a step makes of the world, what it answers, and the event of the table that it is, if any
pub record Play : Type 0 where
  pub outcome : Outcome
  pub after : World
  pub event : Option Event

-- the step is played where the test holds, and else is refused
abbrev pub when : Bool → Play → Option Play
when test p = if test then Some p else None

-- the step is played with what is there, and refused where nothing is
abbrev pub given : {A : Type 0} → Option A → (A → Option Play) → Option Play
given None f = None
given (Some x) f = f x

-- an answer that is no event, with this world afterwards
abbrev pub quiet : Outcome → World → Play
quiet o w = record { outcome = o; after = w; event = None }

-- the same world, but for what the worker knows
abbrev pub knows : World → ℕ → View → World
knows w k v = record w { views = slice_set w.views k v }

-- ---- the stack

abbrev pub reserve : World → ℕ → View → ℕ → ℕ → Play
reserve w k v old n =
    if w.length == old
    then quiet Won (record w
    { length = old - n; views = slice_set w.views k (reserved v n) })
    else quiet (Lost w.length) w

abbrev pub add : World → ℕ → View → ℕ → Play
add w k v n =
    quiet Done (record w
    { length = w.length + n; views = slice_set w.views k (given_back v n) })

abbrev pub load_head : World → ℕ → View → Play
load_head w k v =
    quiet (HeadIs w.head) (knows w k (looking_at v w.head))

abbrev pub load_link : World → ℕ → View → ℕ → Look → Play
load_link w k v i l =
    quiet (Value (link_in w.links i))
    (knows w k (record v { look = walked_on (Some l) i (link_in w.links i) }))

abbrev pub same_head : Head → Head → Bool
same_head a b = (a.top == b.top) && (a.count == b.count)

abbrev pub next_head : ℕ → ℕ → Head
next_head top count = record { top = top; count = count + 1 }

abbrev pub cut : World → ℕ → View → Look → Play
cut w k v l =
    if same_head w.head l.head
    then record {
      outcome = Got l.front;
      after = record w {
        head = next_head l.next l.head.count;
        views = slice_set w.views k (cut_view v l);
      };
      event = Some (Get (suc k) l.front);
    }
    else quiet (LostTo w.head) (knows w k (lost_look v w.head.count))

abbrev pub store_link : World → ℕ → View → ℕ → ℕ → Play
store_link w k v i j =
    quiet Done (record w {
      links = slice_set w.links i j;
      views = slice_set w.views k (chained v i j);
    })

abbrev pub push : World → ℕ → View → Look → Chain → Play
push w k v l c =
    if same_head w.head l.head
    then record {
      outcome = Won;
      after = record w {
        head = next_head (first_value c.items) l.head.count;
        views = slice_set w.views k (push_view v c (l.head.count + 1));
      };
      event = Some (Put (suc k) c.items);
    }
    else quiet (LostTo w.head) (knows w k (lost_push v w.head.count))

-- ---- the counts

abbrev pub claim : World → ℕ → View → ℕ → Play
claim w k v i = record {
  outcome = Value (slice_index w.counts i);
  after = knows w k (claimed v i);
  event = Some (ClaimEvent (suc k) i);
}

abbrev pub sole : World → ℕ → View → ℕ → Bool → Play
sole w k v i free =
    if free && (slice_index w.counts i == 1)
    then record {
      outcome = Value 1;
      after = knows w k (freed v i);
      event = Some (Free (suc k) i);
    }
    else quiet (Value (slice_index w.counts i)) w

abbrev pub raise : World → ℕ → View → ℕ → ℕ → Play
raise w k v i old =
    if slice_index w.counts i == old
    then record {
      outcome = Won;
      after = record w {
        counts = slice_set w.counts i (old + 1);
        views = slice_set w.views k (raised v i);
      };
      event = Some (Attach (suc k) i);
    }
    else quiet (Lost (slice_index w.counts i)) w

abbrev pub lower : World → ℕ → View → ℕ → Play
lower w k v i = record {
  outcome = Value (slice_index w.counts i);
  after = record w {
    counts = slice_set w.counts i (slice_index w.counts i - 1);
    views = slice_set w.views k (hold_ended v i (slice_index w.counts i == 1));
  };
  event = Some (Free (suc k) i);
}

abbrev pub reset : World → ℕ → View → ℕ → Play
reset w k v i =
    quiet Done (record w {
      counts = slice_set w.counts i 1;
      views = slice_set w.views k (was_reset v i);
    })

-- ---- the desks

-- the world after a step on desk d, which is x afterwards, as the worker's work is
abbrev pub works : World → ℕ → View → ℕ → Desk → Option Work → World
works w k v d x work = record w
    { desks = slice_set w.desks d x; views = slice_set w.views k (working v work) }

abbrev pub hold : World → ℕ → View → ℕ → Play
hold w k v d =
    if (desk_at w.desks d).word == desk_empty
    then quiet Won
    (works w k v d (record { word = 1; slot = (desk_at w.desks d).slot }) (at_desk d ToFill))
    else quiet (Lost (desk_at w.desks d).word) w

abbrev pub put_in : World → ℕ → View → ℕ → Packet → Phase → Option Play
put_in w k v d p ToFill =
    Some (quiet Done (works w k v d (record { word = (desk_at w.desks d).word; slot = Some p })
    (at_desk d (Filled p))))
put_in w k v d p (Filled q) = None
put_in w k v d p (Seized q) = None
put_in w k v d p TakenOut = None

abbrev pub open_with : World → ℕ → View → ℕ → Packet → Play
open_with w k v d p = record {
  outcome = Done;
  after =
      works w k (opened v p) d
      (record { word = desk_full; slot = (desk_at w.desks d).slot }) None;
  event = Some (Offer (suc k) d (holds_of_packet p));
}

abbrev pub open_desk : World → ℕ → View → ℕ → Phase → Option Play
open_desk w k v d ToFill = None
open_desk w k v d (Filled p) = when (includes v.holds (holds_of_packet p)) (open_with w k v d p)
open_desk w k v d (Seized p) = None
open_desk w k v d TakenOut = None

abbrev pub seize_with : World → ℕ → View → ℕ → Packet → Play
seize_with w k v d p = record {
  outcome = Won;
  after =
      works w k (seized v p) d
      (record { word = 3; slot = (desk_at w.desks d).slot }) (at_desk d (Seized p));
  event = Some (Take (suc k) d (holds_of_packet p));
}

-- a full desk has a packet
abbrev pub seize : World → ℕ → View → ℕ → Option Play
seize w k v d =
    if (desk_at w.desks d).word == desk_full
    then given (desk_at w.desks d).slot (λ p. Some (seize_with w k v d p))
    else Some (quiet (Lost (desk_at w.desks d).word) w)

abbrev pub take_out : World → ℕ → View → ℕ → Phase → Option Play
take_out w k v d ToFill = None
take_out w k v d (Filled p) = None
take_out w k v d (Seized p) =
    Some (quiet (Found p) (works w k v d (record { word = (desk_at w.desks d).word; slot = None })
    (at_desk d TakenOut)))
take_out w k v d TakenOut = None

abbrev pub clear : World → ℕ → View → ℕ → Phase → Option Play
clear w k v d ToFill = None
clear w k v d (Filled p) = None
clear w k v d (Seized p) = None
clear w k v d TakenOut =
    Some (quiet Done
    (works w k v d (record { word = desk_empty; slot = (desk_at w.desks d).slot }) None))

-- ---- the table of steps

-- the elements, the link value and the desk that the step names are of the pool
abbrev pub in_range : World → Step → Bool
in_range w LoadLength = true
in_range w (Reserve old n) = true
in_range w (Add n) = true
in_range w LoadHead = true
in_range w (LoadLink i) = nat_lt i w.limits.population
in_range w Cut = true
in_range w (StoreLink i j) = nat_lt i w.limits.population && nat_le (link_value j) w.limits.population
in_range w Push = true
in_range w (Claim i) = nat_lt i w.limits.population
in_range w (Sole i free) = nat_lt i w.limits.population
in_range w (Raise i old) = nat_lt i w.limits.population
in_range w (Lower i) = nat_lt i w.limits.population
in_range w (Reset i) = nat_lt i w.limits.population
in_range w (Hold d) = nat_lt d (length w.desks)
in_range w (PutIn d p) = nat_lt d (length w.desks) && all_below w.limits.population (holds_of_packet p)
in_range w (Open d) = nat_lt d (length w.desks)
in_range w (Seize d) = nat_lt d (length w.desks)
in_range w (TakeOut d) = nat_lt d (length w.desks)
in_range w (Clear d) = nat_lt d (length w.desks)

-- what becomes of the step of the worker at this index, whose view is v
abbrev pub row : World → ℕ → View → Step → Option Play
row w k v LoadLength = Some (quiet (Value w.length) w)
row w k v (Reserve old n) = when (nat_le 1 n && nat_le n old) (reserve w k v old n)
row w k v (Add n) = when (nat_le 1 n && nat_le n v.credit) (add w k v n)
row w k v LoadHead = Some (load_head w k v)
row w k v (LoadLink i) = given v.look (λ l. when (l.next == suc i) (load_link w k v i l))
row w k v Cut = given v.look (λ l. when (can_cut v l) (cut w k v l))
row w k v (StoreLink i j) = when (has v.hand i) (store_link w k v i (link_value j))
row w k v Push = given v.look (λ l. given v.chain (λ c. when (can_push l c) (push w k v l c)))
row w k v (Claim i) = when (has v.hand i) (claim w k v i)
row w k v (Sole i free) = when (has v.holds i) (sole w k v i free)
row w k v (Raise i old) = when (has v.holds i && nat_lt old w.limits.ref_limit) (raise w k v i old)
row w k v (Lower i) = when (has v.holds i) (lower w k v i)
row w k v (Reset i) = when (has v.zeros i) (reset w k v i)
row w k v (Hold d) = when (is_none v.work) (hold w k v d)
row w k v (PutIn d p) = given (phase_at d v.work) (put_in w k v d p)
row w k v (Open d) = given (phase_at d v.work) (open_desk w k v d)
row w k v (Seize d) = if is_none v.work then seize w k v d else None
row w k v (TakeOut d) = given (phase_at d v.work) (take_out w k v d)
row w k v (Clear d) = given (phase_at d v.work) (clear w k v d)

-- what becomes of a step by the worker with this view, where what the step names is of the pool
abbrev pub turn : World → ℕ → Step → Option Play
turn w k s = if in_range w s then row w k (view_at w.views k) s else None

-- what becomes of a step by the worker with this number, where it is one of the pool
abbrev pub played : World → ℕ → Step → Option Play
played w zero s = None
played w (suc k) s = if nat_lt k (length w.views) then turn w k s else None

-- what the step answers and makes of the world; None exactly where its condition fails
abbrev pub play : World → ℕ → Step → Option (Outcome × World)
play w worker s = option_map (λ p. (p.outcome, p.after)) (played w worker s)

-- the one event of the step, if it is played and is one
abbrev pub event_of : World → ℕ → Step → Option Event
event_of w worker s = option_and_then (λ p. p.event) (played w worker s)
