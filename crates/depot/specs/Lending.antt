-- What contracts say of workers and of loans.
use Rattle.std.specs.Prelude.{◌≡◌, ℕ, ◌+◌, ◌%◌, ◌^◌, ◌<◌, ◌≤◌, List, [], ◌∷◌, length, Some, Result, Ok, Err}
use Rattle.commons.specs.Bag.{bag}
use Rattle.depot.specs.declared.cause.Cause.{Cause}
use Rattle.depot.specs.declared.loans.Loans.{Loans}
use Rattle.depot.specs.declared.rack.Rack.{Rack}
use Rattle.depot.specs.declared.view.View.{View}
use Rattle.depot.specs.declared.worker.Worker.{Worker}
use Rattle.depot.specs.Answers.{contents}
use Rattle.depot.specs.Racks.{Racked, AreAll}
use Rattle.depot.specs.Resting.{IsBare}
use Rattle.depot.specs.Seats.{Site, IsCause, Reads, lent}

abbrev pub hands_of : List View → List ℕ
hands_of [] = []
hands_of (v ∷ vs) = v.hand

-- the elements that are lent
abbrev pub elements : Loans → List ℕ
elements x = hands_of x.views

-- the loans are of this depot
pub record AreOf (g : Site) (x : Loans) : Type 0 where
  pub view : View
  pub views : x.views ≡ view ∷ []
  pub table : x.table ≡ g.table
  pub population : view.population ≡ Some g.population
  pub rounds : view.rounds ≡ Some g.rounds
  pub none : view.out ≡ []
  pub bare : IsBare view.resting

-- the rack's seat has nothing but what is in its magazines
abbrev pub IsSettled : Rack → Type 0
IsSettled w = (i : ℕ) → lent w.seat.me i ≡ 0

-- the worker is one at this depot
pub record IsWorker (g : Site) (w : Worker) : Type 0 where
  pub racked : Racked g w.rack
  pub settled : IsSettled w.rack

-- the elements in a worker's magazines
abbrev pub cached : Worker → List ℕ
cached w = contents w.rack.seat.me.1

-- what a worker has read and lost, for causes
abbrev pub log_of : Worker → View
log_of w = w.rack.seat.me.0

-- every magazine of the depot is the worker's, each once
abbrev pub HasAll : Site → Worker → Type 0
HasAll g w = AreAll g w.rack.seat.me.1

-- No element is lent twice, and each is one of the depot's.
pub record AreOnce (g : Site) (x : Loans) : Type 0 where
  pub once : (i : ℕ) → bag (elements x) i ≤ 1
  pub below : (i : ℕ) → g.population ≤ i → bag (elements x) i ≡ 0

abbrev pub SameLoans : Loans → Loans → Type 0
SameLoans x x' = (i : ℕ) → bag (elements x') i ≡ bag (elements x) i

-- what a get did with the loans, by its answer: its list is lent besides, or nothing has changed,
-- for a cause that was read in the call
abbrev pub GetsLoans : ℕ → Result (List ℕ) Cause → Worker → Loans → Worker → Loans → Type 0
GetsLoans tries (Ok xs) w x w' x' = (i : ℕ) → bag (elements x') i ≡ bag (elements x) i + bag xs i
GetsLoans tries (Err cause) w x w' x' = SameLoans x x' × IsCause tries cause (log_of w) (log_of w')

-- and a put: its list is lent no more
abbrev pub PutsLoans : ℕ → List ℕ → Result (Unit {0}) Cause → Worker → Loans → Worker → Loans → Type 0
PutsLoans tries xs (Ok _) w x w' x' = (i : ℕ) → bag (elements x') i + bag xs i ≡ bag (elements x) i
PutsLoans tries xs (Err cause) w x w' x' = SameLoans x x' × IsCause tries cause (log_of w) (log_of w')

-- No element is lost in a call: what went from the worker's hand to others, less what came into it from
-- others, is what is lent besides. All else that was in its magazines is there, or at the depot.
pub record KeepsAll (v : View) (x : Loans) (w : View) (x' : Loans) : Type 0 where
  pub reads : Reads v w
  pub passes : (i : ℕ) →
      bag w.let_out i + bag v.taken_in i + bag (elements x) i
      ≡ bag v.let_out i + bag w.taken_in i + bag (elements x') i

-- the answer of a get, with the list that it gave
abbrev pub lent_list : Result (Unit {0}) Cause → List ℕ → Result (List ℕ) Cause
lent_list (Ok _) xs = Ok xs
lent_list (Err cause) xs = Err cause

-- and the answer of a get of one
abbrev pub lent_one : Result ℕ Cause → Result (List ℕ) Cause
lent_one (Ok x) = Ok (x ∷ [])
lent_one (Err cause) = Err cause

-- what a worker's calls have put less what they got, modulo 2^64
abbrev pub count_of : Worker → ℕ
count_of w = w.count

-- what a get did with that, by its answer, and a put
abbrev pub GetsCount : Result (List ℕ) Cause → Worker → Worker → Type 0
GetsCount (Ok xs) w w' = (count_of w' + length xs) % 2 ^ 64 ≡ count_of w
GetsCount (Err cause) w w' = count_of w' ≡ count_of w

abbrev pub PutsCount : List ℕ → Result (Unit {0}) Cause → Worker → Worker → Type 0
PutsCount xs (Ok _) w w' = count_of w' ≡ (count_of w + length xs) % 2 ^ 64
PutsCount xs (Err cause) w w' = count_of w' ≡ count_of w

-- what a fill did, which put so many: each of those below is lent once less, and all else as before
pub record FillsTo (n : ℕ) (w : Worker) (x : Loans) (w' : Worker) (x' : Loans) : Type 0 where
  pub put : (i : ℕ) → i < n → bag (elements x') i + 1 ≡ bag (elements x) i
  pub others : (i : ℕ) → n ≤ i → bag (elements x') i ≡ bag (elements x) i
  pub count : count_of w' % 2 ^ 64 ≡ (count_of w + n) % 2 ^ 64
