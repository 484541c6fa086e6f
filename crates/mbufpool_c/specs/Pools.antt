-- What a contract sees of a worker of a pool of values in the hands of C, and what C is answered.
use Rattle.std.specs.Prelude.{◌≡◌, ◌≢◌, ◌⊎◌, ℕ, ◌-◌, ◌<◌, ◌≤◌, List, [], ◌∷◌, Option, Some, None, Result, Ok, Err, length, map, ⊤}
use Rattle.commons.specs.Bag.{bag}
use Rattle.commons.specs.declared.refusal.Refusal.TheVariants.{BadPool, OutOfMemory, StrangerShare}
use Rattle.commons.specs.Refusals.{number_of}
use Rattle.depot.specs.declared.cause.Cause.{Cause}
use Rattle.depot.specs.declared.cause.Cause.TheVariants.{NoEntries, NoMagazine, Contended, HeadSpent}
use Rattle.depot.specs.declared.cause.Refusal.{Refusal}
use Rattle.depot.specs.declared.cause.Refusal.TheVariants.{Memory, Cause as Depot}
use Rattle.depot.specs.declared.loans.Loans.{Loans}
use Rattle.depot.specs.declared.view.Resting.{Resting}
use Rattle.depot.specs.declared.view.View.{View}
use Rattle.depot.specs.declared.worker.Worker.{Worker}
use Rattle.depot.specs.Lending.{AreOnce, GetsCount, GetsLoans, KeepsAll, PutsCount, PutsLoans, cached, count_of, elements, lent_list, log_of}
use Rattle.depot.specs.Opening.{magazines_for}
use Rattle.depot.specs.Seats.{Site, IsCause, Logs}

-- a worker, its depot, and how many more workers can be made of it
pub record Pooled : Type 0 where
  pub site : Site
  pub worker : Worker
  pub left : ℕ

-- what is below this is a value: each number of 64 bits but the greatest
abbrev pub all_values : ℕ
all_values = 18446744073709551615

-- what a view notes of elements at places; and of one that has been at none
abbrev pub rests_of : Resting → List (List ℕ)
rests_of r = r.marks ∷ r.listed ∷ r.gets ∷ r.puts ∷ r.strays ∷ r.stale ∷ []

abbrev pub no_rests : List (List ℕ)
no_rests = [] ∷ [] ∷ [] ∷ [] ∷ [] ∷ [] ∷ []

-- The loans are of this pool. (Equations alone, as a field of a handle takes them.)
abbrev pub AreAt : Site → Loans → Type 0
AreAt g x =
    (x.table ≡ g.table) × (map (λ (v : View). v.population) x.views ≡ Some g.population ∷ [])
    × (map (λ (v : View). v.rounds) x.views ≡ Some g.rounds ∷ [])
    × (map (λ (v : View). v.out) x.views ≡ [] ∷ [])
    × (map (λ (v : View). rests_of v.resting) x.views ≡ no_rests ∷ [])

-- what no refusal of the pool on words has: of a put, of a split or of a flush for which there is no
-- empty magazine
abbrev pub no_magazine : ℕ
no_magazine = 30

-- the number of a cause
abbrev pub number_of_cause : Cause → ℕ
number_of_cause NoEntries = 3
number_of_cause Contended = 4
number_of_cause HeadSpent = 5
number_of_cause NoMagazine = no_magazine

-- the number of the refusal to make a worker
abbrev pub number_of_refusal : Refusal → ℕ
number_of_refusal Memory = number_of OutOfMemory
number_of_refusal (Depot cause) = number_of_cause cause

-- 0, or the number of the cause
abbrev pub pool_status : Result (Unit {0}) Cause → ℕ
pool_status (Ok _) = 0
pool_status (Err cause) = number_of_cause cause

-- a new worker of a new pool, without values, of which all others can be made
pub record IsFirst (workers tries : ℕ) (s : Pooled) : Type 0 where
  pub empty : cached s.worker ≡ []
  pub left : s.left ≡ workers - 1
  pub allows : s.site.tries ≡ tries

-- there is no pool of such a size: no worker or no try, or too many magazines
abbrev pub IsNoPool : ℕ → ℕ → ℕ → Type 0
IsNoPool values workers tries = (tries ≡ 0) ⊎ ((workers ≡ 0) ⊎ (65535 ≤ magazines_for values workers))

-- why no pool is made, by the number that C has: there is none of such a size; or there is, and
-- memory was refused
abbrev pub RefusesPool : ℕ → ℕ → ℕ → ℕ → Type 0
RefusesPool values workers tries status =
    (IsNoPool values workers tries × (status ≡ number_of BadPool))
    ⊎ ((IsNoPool values workers tries → ⊥) × (status ≡ number_of OutOfMemory))

-- each value of the list is among the loans, and no two loans are of one
abbrev pub AreLent : Option Pooled → Loans → List ℕ → Type 0
AreLent None x xs = ⊤
AreLent (Some s) x xs = (i : ℕ) → bag xs i ≤ bag (elements x) i

-- it is a worker of the same pool, of which as many can be made
abbrev pub SamePool : Pooled → Pooled → Type 0
SamePool s t = (t.site ≡ s.site) × (t.left ≡ s.left)

-- The worker of a handle got values and lent them, or was refused, and C has the status of the
-- answer; no value is lost. Where there is no worker nothing was done, and C has the number of a
-- stranger.
abbrev pub GetsIn : List ℕ → Option Pooled → Loans → ℕ → Option Pooled → Loans → Type 0
GetsIn xs None x status new y = (status ≡ number_of StrangerShare) × (new ≡ None) × (y ≡ x)
GetsIn xs (Some s) x status new y =
    (answer : Result (Unit {0}) Cause) × (t : Pooled) × (new ≡ Some t) × (status ≡ pool_status answer)
    × SamePool s t × AreOnce s.site y
    × GetsLoans s.site.tries (lent_list answer xs) s.worker x t.worker y
    × GetsCount (lent_list answer xs) s.worker t.worker × KeepsAll (log_of s.worker) x (log_of t.worker) y

-- the same of a put of values that are lent
abbrev pub PutsIn : List ℕ → Option Pooled → Loans → ℕ → Option Pooled → Loans → Type 0
PutsIn xs None x status new y = (status ≡ number_of StrangerShare) × (new ≡ None) × (y ≡ x)
PutsIn xs (Some s) x status new y =
    (answer : Result (Unit {0}) Cause) × (t : Pooled) × (new ≡ Some t) × (status ≡ pool_status answer)
    × SamePool s t × AreOnce s.site y
    × PutsLoans s.site.tries xs answer s.worker x t.worker y × PutsCount xs answer s.worker t.worker
    × KeepsAll (log_of s.worker) x (log_of t.worker) y

-- what a flush did with a worker, by its answer
abbrev pub Flushed : ℕ → Result (Unit {0}) Cause → Worker → Worker → Type 0
Flushed tries (Ok _) w w' = length (cached w') ≡ 0
Flushed tries (Err cause) w w' = IsCause tries cause (log_of w) (log_of w')

-- The worker of a handle gave what it had to its pool, or was refused in between, and C has the status
-- of the answer. No value has passed to another, or from it.
abbrev pub FlushesIn : Option Pooled → ℕ → Option Pooled → Type 0
FlushesIn None status new = (status ≡ number_of StrangerShare) × (new ≡ None)
FlushesIn (Some s) status new =
    (answer : Result (Unit {0}) Cause) × (t : Pooled) × (new ≡ Some t) × (status ≡ pool_status answer)
    × SamePool s t × Flushed s.site.tries answer s.worker t.worker
    × (count_of t.worker ≡ count_of s.worker) × Logs (log_of s.worker) (log_of t.worker)

-- C has what the calls of a handle's worker have put less what they got, modulo 2^64; or there is no
-- worker, and what was there stays
abbrev pub CountsIn : Option Pooled → ℕ → ℕ → ℕ → Type 0
CountsIn None status was out = (status ≡ number_of StrangerShare) × (out ≡ was)
CountsIn (Some s) status was out = (status ≡ 0) × (out ≡ count_of s.worker)

-- the worker of a handle has what it had, and C was told where one of its magazines lies
abbrev pub LooksIn : Option Pooled → ℕ → Option Pooled → Type 0
LooksIn None status new = (status ≡ number_of StrangerShare) × (new ≡ None)
LooksIn (Some s) status new =
    (t : Pooled) × (new ≡ Some t) × (status ≡ 0) × SamePool s t × (cached t.worker ≡ cached s.worker)
    × (count_of t.worker ≡ count_of s.worker)

-- One worker more was made of that of the first handle, without values, and is in the second.
abbrev pub Splits : Option Pooled → Option Pooled → Option Pooled → Type 0
Splits None new out = ⊥
Splits (Some s) new out =
    (0 < s.left) × (new ≡ Some (record s { left = s.left - 1 }))
    × ((other : Pooled) × (out ≡ Some other) × (other.site ≡ s.site) × (cached other.worker ≡ [])
    × (other.left ≡ 0))

-- Why no worker is made, by the number that C has: the first handle has none, or no more can be made
-- of its worker; or one can, and C has another number.
abbrev pub RefusesWorker : ℕ → Option Pooled → Type 0
RefusesWorker status None = status ≡ number_of StrangerShare
RefusesWorker status (Some s) =
    ((s.left ≡ 0) × (status ≡ number_of StrangerShare)) ⊎ ((0 < s.left) × (status ≢ number_of StrangerShare))
