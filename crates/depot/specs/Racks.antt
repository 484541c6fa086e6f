-- The magazines that a worker has, in a ring, of which the front one is at hand.
use Rattle.std.specs.Prelude.{◌≡◌, ℕ, ◌+◌, ◌-◌, ◌<◌, ◌≤◌, List, [], ◌∷◌, length}
use Rattle.std.specs.VecDeque.{deque_capacity}
use Rattle.atomic_table.specs.Table.{rest}
use Rattle.commons.specs.Bag.{bag}
use Rattle.depot.specs.declared.rack.Rack.{Rack}
use Rattle.depot.specs.declared.cause.Cause.{Cause}
use Rattle.depot.specs.Bags.{below}
use Rattle.depot.specs.Rule.{Sat}
use Rattle.depot.specs.Seats.{Site, IsOf, Sound, names, lent, IsCause}

-- magazines, each with its number and its elements
abbrev pub Rows : Type 0
Rows = List (ℕ × List ℕ)

-- the elements of the magazine in front
abbrev pub front_of : Rows → List ℕ
front_of [] = []
front_of (x ∷ xs) = x.1

-- the magazines, of which the one in front has these elements now
abbrev pub with_front : Rows → List ℕ → Rows
with_front [] xs = []
with_front (y ∷ ys) xs = (y.0, xs) ∷ ys

-- this magazine stands in front
abbrev pub IsFront : ℕ → Rows → Type 0
IsFront m ms = ms ≡ (m, front_of ms) ∷ rest ms

-- how many elements magazines have
abbrev pub stock : Rows → ℕ
stock [] = 0
stock (x ∷ xs) = length x.1 + stock xs

-- how many more elements magazines of so many rounds have room for
abbrev pub room : ℕ → Rows → ℕ
room rounds [] = 0
room rounds (x ∷ xs) = (rounds - length x.1) + room rounds xs

-- each magazine has at most so many elements
abbrev pub Fit : ℕ → Rows → Type 0
Fit rounds [] = Unit {0}
Fit rounds (x ∷ xs) = (length x.1 ≤ rounds) × Fit rounds xs

-- the depot's magazines have a round at least, and at most as many as there is room for
pub record IsSmall (g : Site) : Type 0 where
  pub slots : g.table.slots < 65535
  pub least : 0 < g.rounds
  pub most : g.rounds ≤ 128

-- The rack is one at this depot. Its seat has just these magazines, and there is room behind the
-- front for all that the depot has.
pub record Racked (g : Site) (w : Rack) : Type 0 where
  pub of : IsOf g w.seat
  pub sound : Sound w.seat.me
  pub small : IsSmall g
  pub rounds : w.rounds ≡ g.rounds
  pub at_hand : w.at_hand ≤ g.rounds
  pub magazines : names w.seat.me.1 ≡ w.front ∷ w.behind.items
  pub inside : (m : ℕ) → 0 < bag (names w.seat.me.1) m → m < g.table.slots
  pub fit : Fit g.rounds w.seat.me.1
  pub size : length w.seat.me.1 ≤ g.table.slots
  pub capacity : g.table.slots ≤ deque_capacity w.behind

-- these are all magazines of the depot, each once, so that no other has an element
abbrev pub AreAll : Site → Rows → Type 0
AreAll g ms = (m : ℕ) → bag (names ms) m ≡ below g.table.slots m

-- as many elements are with the seat outside of its magazines
abbrev pub SameLent : Sat → Sat → Type 0
SameLent a b = (i : ℕ) → lent b i ≡ lent a i

-- these were taken out of its magazines, or put into them
abbrev pub Lends : List ℕ → Sat → Sat → Type 0
Lends xs a b = (i : ℕ) → lent b i ≡ lent a i + bag xs i

-- There are as many magazines, with as many elements, of which as many are lent.
pub record Keeps (rounds : ℕ) (a b : Sat) : Type 0 where
  pub size : length b.1 ≡ length a.1
  pub stock : stock b.1 ≡ stock a.1
  pub room : room rounds b.1 ≡ room rounds a.1
  pub lent : SameLent a b

-- These elements are in the magazines of the first and lent in the second.
pub record Lets (rounds : ℕ) (xs : List ℕ) (a b : Sat) : Type 0 where
  pub size : length b.1 ≡ length a.1
  pub stock : stock b.1 + length xs ≡ stock a.1
  pub room : room rounds b.1 ≡ room rounds a.1 + length xs
  pub lent : Lends xs a b

-- The second has one magazine more, in front.
pub record Gains (rounds : ℕ) (a b : Sat) : Type 0 where
  pub size : length b.1 ≡ length a.1 + 1
  pub stock : stock b.1 ≡ length (front_of b.1) + stock a.1
  pub room : room rounds b.1 ≡ (rounds - length (front_of b.1)) + room rounds a.1

-- The first has one magazine more, in front.
pub record Yields (a b : Sat) : Type 0 where
  pub size : length b.1 + 1 ≡ length a.1
  pub stock : length (front_of a.1) + stock b.1 ≡ stock a.1

-- why a call at a rack was refused
abbrev pub Refused : ℕ → Cause → Sat → Sat → Type 0
Refused tries cause a b = SameLent a b × IsCause tries cause a.0 b.0
