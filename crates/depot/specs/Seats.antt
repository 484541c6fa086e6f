-- What contracts say of a seat at a depot.
use Rattle.std.specs.Prelude.{◌≡◌, ℕ, ◌+◌, ◌-◌, ◌≤◌, Bool, true, false, List, [], ◌∷◌, ◌++◌, Option, Some, None, Result, Ok, Err, map}
use Rattle.atomic_table.specs.declared.shared.Seat.{Seat}
use Rattle.atomic_table.specs.Seated.{TableId}
use Rattle.commons.specs.Bag.{bag}
use Rattle.depot.specs.declared.cause.Cause.{Cause}
use Rattle.depot.specs.declared.cause.Cause.TheVariants.{NoEntries, NoMagazine, Contended, HeadSpent}
use Rattle.depot.specs.declared.view.Stack.{Stack}
use Rattle.depot.specs.declared.view.Stack.TheVariants.{Full, Partial, Empty}
use Rattle.depot.specs.declared.view.View.{View}
use Rattle.depot.specs.Answers.{contents}
use Rattle.depot.specs.Bags.{minus, without}
use Rattle.depot.specs.Heads.{top_of, count_of, spent}
use Rattle.depot.specs.Rule.{Sat, Suits}

-- A depot: which table it has, how many elements, how many rounds its magazines have, how many
-- elements have a place, and how many lost exchanges end a try.
pub record Site : Type 0 where
  pub table : TableId
  pub population : ℕ
  pub rounds : ℕ
  pub places : ℕ
  pub tries : ℕ

-- the seat is one of this depot
pub record IsOf (g : Site) (seat : Seat (List ℕ) View) : Type 0 where
  pub table : seat.table_id ≡ g.table
  pub population : seat.me.0.population ≡ Some g.population
  pub rounds : seat.me.0.rounds ≡ Some g.rounds

-- the magazines that are out with a seat
abbrev pub names : List (ℕ × List ℕ) → List ℕ
names xs = map (λ (x : ℕ × List ℕ). x.0) xs

-- What is in a seat's magazines is in its hand, and its view names the magazines that it has.
pub record Sound (m : Sat) : Type 0 where
  pub hand : (i : ℕ) → bag (contents m.1) i ≤ bag m.0.hand i
  pub out : (i : ℕ) → bag (names m.1) i ≡ bag m.0.out i

-- how often an element is with a seat outside of its magazines
abbrev pub lent : Sat → ℕ → ℕ
lent m i = bag m.0.hand i - bag (contents m.1) i

-- Between these two states of a seat it read some heads and lost some exchanges. Nothing has passed from
-- its hand to another seat's, or back.
pub record Logs (v w : View) : Type 0 where
  pub more : List (Stack × ℕ)
  pub heads : w.heads ≡ v.heads ++ more
  pub lost : v.lost ≤ w.lost
  pub population : w.population ≡ v.population
  pub rounds : w.rounds ≡ v.rounds
  pub resting : w.resting ≡ v.resting
  pub let_out : w.let_out ≡ v.let_out
  pub taken_in : w.taken_in ≡ v.taken_in

-- the same but of what has passed to another seat, or from it
abbrev pub quiet : View → View
quiet v = record v { let_out = []; taken_in = [] }

abbrev pub Reads : View → View → Type 0
Reads v w = Logs (quiet v) (quiet w)

-- These came into the seat's hand from another, and none went.
pub record TakesIn (xs : List ℕ) (v w : View) : Type 0 where
  pub let_out : w.let_out ≡ v.let_out
  pub taken_in : w.taken_in ≡ v.taken_in ++ xs

-- These went from the seat's hand to another, and none came.
pub record LetsOut (xs : List ℕ) (v w : View) : Type 0 where
  pub let_out : w.let_out ≡ v.let_out ++ xs
  pub taken_in : w.taken_in ≡ v.taken_in

-- the last head that was read is of this stack, and such
pub record LastRead (v w : View) (k : Stack) (P : ℕ → Type 0) : Type 0 where
  pub more : List (Stack × ℕ)
  pub head : ℕ
  pub heads : w.heads ≡ v.heads ++ (more ++ (k, head) ∷ [])
  pub such : P head

abbrev pub IsEmptyHead : ℕ → Type 0
IsEmptyHead head = top_of head ≡ 0

abbrev pub IsSpentHead : ℕ → Type 0
IsSpentHead head = count_of head ≡ spent

-- why a take from a stack is refused, by what was read in it
abbrev pub IsCauseAt : ℕ → Stack → Cause → View → View → Type 0
IsCauseAt tries k NoEntries v w = LastRead v w k IsEmptyHead
IsCauseAt tries k NoMagazine v w = (k ≡ Empty) × LastRead v w Empty IsEmptyHead
IsCauseAt tries k Contended v w = v.lost + tries ≤ w.lost
IsCauseAt tries k HeadSpent v w = LastRead v w k IsSpentHead

-- and a gift to it
abbrev pub IsGiveCause : ℕ → Stack → Cause → View → View → Type 0
IsGiveCause tries k NoEntries v w = ⊥
IsGiveCause tries k NoMagazine v w = ⊥
IsGiveCause tries k Contended v w = v.lost + tries ≤ w.lost
IsGiveCause tries k HeadSpent v w = LastRead v w k IsSpentHead

-- a head of this stack was read between these two states of a seat, and such
pub record WasRead (v w : View) (k : Stack) (P : ℕ → Type 0) : Type 0 where
  pub before : List (Stack × ℕ)
  pub head : ℕ
  pub behind : List (Stack × ℕ)
  pub heads : w.heads ≡ v.heads ++ (before ++ (k, head) ∷ behind)
  pub such : P head

-- why a call is refused, by what was read in it
abbrev pub IsCause : ℕ → Cause → View → View → Type 0
IsCause tries NoEntries v w = WasRead v w Full IsEmptyHead × WasRead v w Partial IsEmptyHead
IsCause tries NoMagazine v w = WasRead v w Empty IsEmptyHead
IsCause tries Contended v w = v.lost + tries ≤ w.lost
IsCause tries HeadSpent v w = (k : Stack) × WasRead v w k IsSpentHead

-- neither hand nor magazines have changed
pub record Stays (m n : Sat) : Type 0 where
  pub logs : Logs m.0 n.0
  pub hand : n.0.hand ≡ m.0.hand
  pub out : n.0.out ≡ m.0.out
  pub magazines : n.1 ≡ m.1

-- a magazine of this stack has come, with its elements
pub record Comes (rounds : ℕ) (k : Stack) (m : ℕ) (a b : Sat) : Type 0 where
  pub elements : List ℕ
  pub suits : Suits rounds k elements
  pub logs : Logs a.0 b.0
  pub hand : b.0.hand ≡ a.0.hand ++ elements
  pub out : b.0.out ≡ m ∷ a.0.out
  pub magazines : b.1 ≡ (m, elements) ∷ a.1

-- the magazine that was taken last has gone, with its elements
pub record Goes (m : ℕ) (elements : List ℕ) (rest : List (ℕ × List ℕ)) (a b : Sat) : Type 0 where
  pub logs : Logs a.0 b.0
  pub hand : b.0.hand ≡ minus a.0.hand elements
  pub out : b.0.out ≡ without m a.0.out
  pub magazines : b.1 ≡ rest

-- what a take and a give did, by their answers
abbrev pub Takes : Site → Stack → Result ℕ Cause → Sat → Sat → Type 0
Takes g k (Ok m) a b = Comes g.rounds k m a b
Takes g k (Err cause) a b = Stays a b × IsCauseAt g.tries k cause a.0 b.0

abbrev pub Gives :
    ℕ → Stack → ℕ → List ℕ → List (ℕ × List ℕ) → Result (Unit {0}) Cause → Sat → Sat → Type 0
Gives tries k m elements rest (Ok _) a b = Goes m elements rest a b
Gives tries k m elements rest (Err cause) a b = Stays a b × IsGiveCause tries k cause a.0 b.0

-- an exchange was lost
pub record Loses (a b : Sat) : Type 0 where
  pub stays : Stays a b
  pub lost : a.0.lost + 1 ≤ b.0.lost

-- what one try at a take or a give did, by its answer
abbrev pub TakesOnce : Site → Stack → Result (Option ℕ) Cause → Sat → Sat → Type 0
TakesOnce g k (Ok (Some m)) a b = Comes g.rounds k m a b
TakesOnce g k (Ok None) a b = Loses a b
TakesOnce g k (Err cause) a b = Stays a b × IsCauseAt g.tries k cause a.0 b.0

abbrev pub GivesOnce :
    ℕ → Stack → ℕ → List ℕ → List (ℕ × List ℕ) → Result Bool Cause → Sat → Sat → Type 0
GivesOnce tries k m elements rest (Ok true) a b = Goes m elements rest a b
GivesOnce tries k m elements rest (Ok false) a b = Loses a b
GivesOnce tries k m elements rest (Err cause) a b = Stays a b × IsGiveCause tries k cause a.0 b.0
