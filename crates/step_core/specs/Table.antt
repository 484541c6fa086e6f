-- Where each element is, with no word, link or count: the table that the words stand for.
use Rattle.std.specs.Prelude.{◌≡◌, ℕ, ◌+◌, ◌<◌, List, [], ◌∷◌, ◌++◌, length, replicate, ⊤}
use Rattle.commons.specs.Bag.{bag}
use Rattle.step_core.specs.Bags.{SameBag, IsDistinct}

-- Held has the bag of the workers and the bag of the desks that hold the element.
pub data Place : Type 0 where
  Common : Place
  Hand : (worker : ℕ) → Place
  Held : (workers desks : List ℕ) → Place

-- nothing is held by nobody
abbrev pub IsPlace : Place → Type 0
IsPlace Common = ⊤
IsPlace (Hand w) = ⊤
IsPlace (Held ws ds) = 0 < length ws + length ds

-- the place of each element; only what it says of the elements of a pool counts
abbrev pub Table : Type 0
Table = ℕ → Place

-- a table of n elements
abbrev pub IsTable : ℕ → Table → Type 0
IsTable n t = (i : ℕ) → i < n → IsPlace (t i)

-- Offer and Take name the worker, the desk and the holds of the packet
pub data Event : Type 0 where
  Get : (worker : ℕ) (list : List ℕ) → Event
  Put : (worker : ℕ) (list : List ℕ) → Event
  Claim : (worker element : ℕ) → Event
  Attach : (worker element : ℕ) → Event
  Free : (worker element : ℕ) → Event
  Offer : (worker desk : ℕ) (holds : List ℕ) → Event
  Take : (worker desk : ℕ) (holds : List ℕ) → Event

-- the elements that an event names
abbrev pub named : Event → List ℕ
named (Get w xs) = xs
named (Put w xs) = xs
named (Claim w i) = i ∷ []
named (Attach w i) = i ∷ []
named (Free w i) = i ∷ []
named (Offer w d xs) = xs
named (Take w d xs) = xs

-- the worker whose event it is
abbrev pub worker_of : Event → ℕ
worker_of (Get w xs) = w
worker_of (Put w xs) = w
worker_of (Claim w i) = w
worker_of (Attach w i) = w
worker_of (Free w i) = w
worker_of (Offer w d xs) = w
worker_of (Take w d xs) = w

-- the same place, in whatever order its bags are listed
abbrev pub Same : Place → Place → Type 0
Same Common Common = ⊤
Same (Hand w) (Hand v) = w ≡ v
Same (Held ws ds) (Held vs es) = SameBag ws vs × SameBag ds es
Same Common (Hand w) = ⊥
Same Common (Held ws ds) = ⊥
Same (Hand w) Common = ⊥
Same (Hand w) (Held ws ds) = ⊥
Same (Held ws ds) Common = ⊥
Same (Held ws ds) (Hand w) = ⊥

-- held by w, once, from now on
abbrev pub Claimed : ℕ → Place → Place → Type 0
Claimed w p (Held ws ds) = (p ≡ Hand w) × SameBag ws (w ∷ []) × SameBag ds []
Claimed w p Common = ⊥
Claimed w p (Hand v) = ⊥

-- w, who has a hold, gains one
abbrev pub Gained : ℕ → Place → Place → Type 0
Gained w (Held ws ds) (Held vs es) = (0 < bag ws w) × SameBag vs (w ∷ ws) × SameBag es ds
Gained w Common q = ⊥
Gained w (Hand v) q = ⊥
Gained w (Held ws ds) Common = ⊥
Gained w (Held ws ds) (Hand v) = ⊥

-- w loses one hold, and has the element in its hand where that was the last of all
abbrev pub Freed : ℕ → Place → Place → Type 0
Freed w (Held ws ds) (Held vs es) = SameBag ws (w ∷ vs) × SameBag ds es
Freed w (Held ws ds) (Hand v) = (v ≡ w) × SameBag ws (w ∷ []) × SameBag ds []
Freed w (Held ws ds) Common = ⊥
Freed w Common q = ⊥
Freed w (Hand v) q = ⊥

-- n holds pass from worker w to desk d, or back if the places are exchanged
abbrev pub Passed : ℕ → ℕ → ℕ → Place → Place → Type 0
Passed n w d (Held ws ds) (Held vs es) =
    SameBag ws (replicate n w ++ vs) × SameBag es (replicate n d ++ ds)
Passed n w d Common q = ⊥
Passed n w d (Hand v) q = ⊥
Passed n w d (Held ws ds) Common = ⊥
Passed n w d (Held ws ds) (Hand v) = ⊥

-- how many holds of the element the desk has
abbrev pub desk_holds : ℕ → Place → ℕ
desk_holds d Common = 0
desk_holds d (Hand w) = 0
desk_holds d (Held ws ds) = bag ds d

-- P for an element of the list, and Q for another
abbrev pub Where : ℕ → List ℕ → Type 0 → Type 0 → Type 0
Where i xs P Q = (0 < bag xs i → P) × (bag xs i ≡ 0 → Q)

-- what the event asks of the element i, and where it goes
abbrev pub Becomes : Event → ℕ → Place → Place → Type 0
Becomes (Get w xs) i p q = Where i xs ((p ≡ Common) × (q ≡ Hand w)) (Same p q)
Becomes (Put w xs) i p q = Where i xs ((p ≡ Hand w) × (q ≡ Common)) (Same p q)
Becomes (Claim w j) i p q = Where i (j ∷ []) (Claimed w p q) (Same p q)
Becomes (Attach w j) i p q = Where i (j ∷ []) (Gained w p q) (Same p q)
Becomes (Free w j) i p q = Where i (j ∷ []) (Freed w p q) (Same p q)
Becomes (Offer w d xs) i p q = (desk_holds d p ≡ 0) × Where i xs (Passed (bag xs i) w d p q) (Same p q)
Becomes (Take w d xs) i p q =
    (desk_holds d p ≡ bag xs i) × Where i xs (Passed (bag xs i) w d q p) (Same p q)

-- a list that is got or put has no repeats
abbrev pub IsListed : Event → Type 0
IsListed (Get w xs) = IsDistinct xs
IsListed (Put w xs) = IsDistinct xs
IsListed (Claim w j) = ⊤
IsListed (Attach w j) = ⊤
IsListed (Free w j) = ⊤
IsListed (Offer w d xs) = ⊤
IsListed (Take w d xs) = ⊤

-- what the event does to each of n elements
abbrev pub EventMoves : ℕ → Event → Table → Table → Type 0
EventMoves n e t u = IsListed e × ((i : ℕ) → i < n → Becomes e i (t i) (u i))

-- the event names elements of the pool alone
abbrev pub NamesBelow : ℕ → Event → Type 0
NamesBelow n e = (i : ℕ) → 0 < bag (named e) i → i < n

-- the event is lawful in the first table of n elements, and leads to the second
pub record EventLeads (n : ℕ) (e : Event) (t u : Table) : Type 0 where
  pub before : IsTable n t
  pub after : IsTable n u
  pub below : NamesBelow n e
  pub moves : EventMoves n e t u

-- the same table of n elements
abbrev pub SameTable : ℕ → Table → Table → Type 0
SameTable n t u = (i : ℕ) → i < n → Same (t i) (u i)

-- events, each lawful where it comes
abbrev pub Run : ℕ → Table → List Event → Table → Type 0
Run n t [] u = IsTable n t × IsTable n u × SameTable n t u
Run n t (e ∷ es) u = (s : Table) × EventLeads n e t s × Run n s es u
