-- What contracts say of a worker of a guarded pool.
use Rattle.std.specs.Prelude.{◌≡◌, ℕ, ◌+◌, ◌-◌, ◌%◌, ◌^◌, ◌<◌, ◌≤◌, false, List, [], ◌∷◌, ◌++◌, length, get_or, replicate, take, Result, Ok, Err}
use Rattle.commons.specs.Bag.{bag}
use Rattle.depot.specs.declared.cause.Cause.{Cause}
use Rattle.depot.specs.declared.view.Resting.{Resting}
use Rattle.depot.specs.declared.view.Stack.{Stack}
use Rattle.depot.specs.declared.view.View.{View}
use Rattle.depot.specs.Answers.{contents}
use Rattle.depot.specs.Racks.{Racked}
use Rattle.depot.specs.Resting.{IsNumber, is_marked}
use Rattle.depot.specs.Seats.{Site, lent, IsCause}
use Rattle.guard.specs.declared.refusal.NotPut.{NotPut}
use Rattle.guard.specs.declared.refusal.NotPut.TheVariants.{Stranger, Home, Kept, Lost, Full}
use Rattle.guard.specs.declared.worker.GuardWorker.{GuardWorker}

abbrev pub view_of : GuardWorker → View
view_of w = w.rack.seat.me.0

abbrev pub resting_of : GuardWorker → Resting
resting_of w = w.rack.seat.me.0.resting

-- the elements that a worker keeps: in its list, and in its magazines
abbrev pub kept_by : GuardWorker → ℕ
kept_by w = length w.kept.items + length (contents w.rack.seat.me.1)

-- what a worker's calls have put less what they got, modulo 2^64
abbrev pub count_of : GuardWorker → ℕ
count_of w = w.count

-- Each get, and each stale entry, is counted off, and each put is counted, whether the element was out
-- or kept by another.
abbrev pub Counted : ℕ → Resting → Type 0
Counted count r =
    (count + length r.gets + length r.stale) % 2 ^ 64 ≡ (length r.puts + length r.strays) % 2 ^ 64

-- a guarded pool: each element has a place
pub record IsGuarded (g : Site) : Type 0 where
  pub places : g.places ≡ g.population
  pub few : g.population < 4294967296

-- The worker is one of this guarded pool, with a number that no other seat has. What it keeps is in its
-- list, what is out with it is marked, and all else of its hand is in its magazines.
pub record IsGuard (g : Site) (w : GuardWorker) : Type 0 where
  pub guarded : IsGuarded g
  pub racked : Racked g w.rack
  pub settled : (i : ℕ) → lent w.rack.seat.me i ≡ 0
  pub number : IsNumber (resting_of w) w.number
  pub some : 0 < w.number
  pub listed : (i : ℕ) → bag w.kept.items i ≡ bag (resting_of w).listed i
  pub within : (i : ℕ) → g.population ≤ i → bag w.kept.items i ≡ 0
  pub size : length w.marks ≡ g.population
  pub marks : (i : ℕ) → i < g.population → get_or w.marks i false ≡ is_marked (resting_of w) i
  pub counted : Counted w.count (resting_of w)

-- an element is out with this worker, if its place has the worker's number still
abbrev pub Marked : GuardWorker → ℕ → Type 0
Marked w i = 0 < bag (resting_of w).marks i

-- These elements, which weren't out, are out with the worker now.
pub record Gets (xs : List ℕ) (a b : Resting) : Type 0 where
  pub gets : (i : ℕ) → bag b.gets i ≡ bag a.gets i + bag xs i
  pub marks : (i : ℕ) → bag b.marks i ≡ bag a.marks i + bag xs i
  pub puts : b.puts ≡ a.puts
  pub strays : b.strays ≡ a.strays

-- The first of these were out, and are no more; the others were kept by other workers. All are with
-- this worker now, in its list or its magazines, or at the depot.
pub record Puts (xs ys : List ℕ) (a b : Resting) : Type 0 where
  pub puts : (i : ℕ) → bag b.puts i ≡ bag a.puts i + bag xs i
  pub strays : (i : ℕ) → bag b.strays i ≡ bag a.strays i + bag ys i
  pub gets : b.gets ≡ a.gets
  pub marks : (i : ℕ) → bag b.marks i ≤ bag a.marks i

-- the element was put, which was out so often: once or never
abbrev pub PutsIt : ℕ → Resting → Resting → Type 0
PutsIt e a b = (was : ℕ) × (was ≤ 1) × Puts (replicate was e) (replicate (1 - was) e) a b

-- nothing has come out, nor has anything been put
pub record Still (a b : Resting) : Type 0 where
  pub gets : b.gets ≡ a.gets
  pub puts : b.puts ≡ a.puts
  pub strays : b.strays ≡ a.strays
  pub marks : (i : ℕ) → bag b.marks i ≡ bag a.marks i

-- the last word that was found at an element's place
pub record LastFound (a b : Resting) (i found : ℕ) : Type 0 where
  pub more : List (ℕ × ℕ)
  pub is : b.found ≡ a.found ++ (more ++ (i, found) ∷ [])

-- the seat has the same numbers, and nothing has passed from its hand to another seat's, or back
pub record SameSeat (v w : View) : Type 0 where
  pub from : w.resting.from ≡ v.resting.from
  pub to : w.resting.to ≡ v.resting.to
  pub let_out : w.let_out ≡ v.let_out
  pub taken_in : w.taken_in ≡ v.taken_in

-- a later state of a seat, which has read some heads and places
pub record Later (v w : View) : Type 0 where
  pub more : List (Stack × ℕ)
  pub heads : w.heads ≡ v.heads ++ more
  pub looks : List (ℕ × ℕ)
  pub found : w.resting.found ≡ v.resting.found ++ looks
  pub lost : v.lost ≤ w.lost
  pub same : SameSeat v w

-- how many numbers of stale entries a worker has in store at most, until it is asked for them
abbrev pub most_told : ℕ
most_told = 64

-- The entries that were found stale stand behind those that are in store, as far as there is room. All
-- of them are counted.
pub record Tells (a b : GuardWorker) : Type 0 where
  pub entries : List ℕ
  pub found : (resting_of b).stale ≡ (resting_of a).stale ++ entries
  pub told : b.stale ≡ a.stale ++ take (most_told - length a.stale) entries

-- a later state of a worker, with what it has read, and with the stale entries that it found
pub record Since (a b : GuardWorker) : Type 0 where
  pub later : Later (view_of a) (view_of b)
  pub tells : Tells a b

-- between these two states a call was refused, for a cause that was read then
pub record RefusedIn (tries : ℕ) (cause : Cause) (v w : View) : Type 0 where
  pub first : View
  pub last : View
  pub before : Later v first
  pub was : IsCause tries cause first last
  pub after : Later last w

-- why an element wasn't put: it is none of the pool; nobody's number was at its place; or the
-- worker's own, by which it wasn't out; or another's, which had changed at the exchange; or the
-- worker's list was full, and the depot took nothing
abbrev pub IsNotPut : Site → NotPut → ℕ → GuardWorker → GuardWorker → Type 0
IsNotPut g Stranger i a b = g.population ≤ i
IsNotPut g Home i a b = LastFound (resting_of a) (resting_of b) i 0
IsNotPut g Kept i a b =
    (n : ℕ) × IsNumber (resting_of b) n × LastFound (resting_of a) (resting_of b) i n
    × (bag (resting_of b).marks i ≡ 0)
IsNotPut g Lost i a b =
    (k : ℕ) × LastFound (resting_of a) (resting_of b) i k × ((view_of a).lost < (view_of b).lost)
IsNotPut g (Full cause) i a b = RefusedIn g.tries cause (view_of a) (view_of b)

-- Some of these were put: the first were out, the second were kept by other workers. Whatever else
-- was among them was refused.
pub record PutsSome (xs : List ℕ) (a b : Resting) : Type 0 where
  pub ys : List ℕ
  pub zs : List ℕ
  pub puts : Puts ys zs a b
  pub among : (i : ℕ) → bag ys i + bag zs i ≤ bag xs i

-- Each of these was put: the first were out, the second were kept by other workers.
pub record PutsAll (xs : List ℕ) (a b : Resting) : Type 0 where
  pub ys : List ℕ
  pub zs : List ℕ
  pub puts : Puts ys zs a b
  pub are : (i : ℕ) → bag ys i + bag zs i ≡ bag xs i

-- the element was refused between these two states, for a cause that was found then
abbrev pub WasRefused : Site → View → View → ℕ → NotPut → Type 0
WasRefused g v w i why =
    (a : GuardWorker) × (b : GuardWorker) × Later v (view_of a) × IsNotPut g why i a b × Later (view_of b) w

-- A put of a list came to its end, or it stopped behind so many, at the first that was refused.
abbrev pub StopsAt : Site → List ℕ → ℕ → Result (Unit {0}) NotPut → View → View → Type 0
StopsAt g xs n (Ok _) v w = n ≡ length xs
StopsAt g xs n (Err why) v w =
    (e : ℕ) × (rest : List ℕ) × (n < length xs) × (xs ≡ take n xs ++ e ∷ rest) × WasRefused g v w e why

-- A refused get: what it got before is put again, or others have put it.
pub record GetsNone (a b : Resting) : Type 0 where
  pub xs : List ℕ
  pub between : Resting
  pub gets : Gets xs a between
  pub back : PutsSome xs between b

-- Of these the first were put that were out, and the second that were kept by other workers. Each of the
-- third was refused, for a cause that was found then.
pub record PutsBack (g : Site) (xs : List ℕ) (a b : GuardWorker) : Type 0 where
  pub ys : List ℕ
  pub zs : List ℕ
  pub rs : List ℕ
  pub puts : Puts ys zs (resting_of a) (resting_of b)
  pub are : (i : ℕ) → bag ys i + bag zs i + bag rs i ≡ bag xs i
  pub not : (i : ℕ) → 0 < bag rs i → (why : NotPut) × WasRefused g (view_of a) (view_of b) i why

-- A refused get: each element that it got before is put again, or its put was refused.
pub record GivesBack (g : Site) (a b : GuardWorker) : Type 0 where
  pub xs : List ℕ
  pub between : GuardWorker
  pub gets : Gets xs (resting_of a) (resting_of between)
  pub later : Later (view_of a) (view_of between)
  pub back : PutsBack g xs between b
