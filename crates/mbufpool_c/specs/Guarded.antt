-- What a contract sees of a worker of a guarded pool in the hands of C, and what C is answered.
use Rattle.std.specs.Prelude.{◌≡◌, ◌⊎◌, ℕ, ◌+◌, ◌-◌, ◌%◌, ◌^◌, ◌<◌, ◌≤◌, List, [], ◌∷◌, Option, Some, None, Result, Ok, Err, take}
use Rattle.commons.specs.declared.refusal.Refusal.TheVariants.{BadPool, NoEntries, StrangerShare}
use Rattle.commons.specs.Refusals.{number_of}
use Rattle.depot.specs.declared.cause.Cause.{Cause}
use Rattle.depot.specs.declared.cause.Refusal.{Refusal}
use Rattle.depot.specs.Opening.{magazines_for}
use Rattle.depot.specs.Seats.{Site}
use Rattle.guard.specs.declared.refusal.NotPut.{NotPut}
use Rattle.guard.specs.declared.refusal.NotPut.TheVariants.{Stranger, Home, Kept, Lost, Full}
use Rattle.guard.specs.declared.worker.GuardWorker.{GuardWorker}
use Rattle.guard.specs.Guards.{Counted, Gets, GetsNone, GivesBack, IsGuarded, IsNotPut, Marked, PutsAll, PutsIt, RefusedIn, Since, Still, StopsAt, count_of, kept_by, resting_of, view_of}
use Rattle.mbufpool_c.specs.Pools.{number_of_cause, number_of_refusal, pool_status}

-- a worker, its depot, and how many more workers can be made of it
pub record Guarded : Type 0 where
  pub site : Site
  pub worker : GuardWorker
  pub left : ℕ

-- what no other refusal has: of a put of what isn't out
abbrev pub not_out : ℕ
not_out = 26

-- the number of why an element isn't put
abbrev pub number_of_not_put : NotPut → ℕ
number_of_not_put Stranger = not_out
number_of_not_put Home = not_out
number_of_not_put Kept = not_out
number_of_not_put Lost = not_out
number_of_not_put (Full cause) = number_of_cause cause

-- 0, or that number
abbrev pub put_status : Result (Unit {0}) NotPut → ℕ
put_status (Ok _) = 0
put_status (Err why) = number_of_not_put why

-- a new worker of a new guarded pool, of which all others can be made, and with which each element is out
pub record IsFirst (population workers tries : ℕ) (s : Guarded) : Type 0 where
  pub guarded : IsGuarded s.site
  pub elements : s.site.population ≡ population
  pub allows : s.site.tries ≡ tries
  pub left : s.left ≡ workers - 1
  pub out : (i : ℕ) → i < population → Marked s.worker i
  pub count : (count_of s.worker + population) % 2 ^ 64 ≡ 0

-- there is no guarded pool of such a size: a number is out of range, or there would be too many magazines
abbrev pub IsNoGuard : ℕ → ℕ → ℕ → ℕ → ℕ → Type 0
IsNoGuard population cache waiting workers tries =
    (population ≡ 0) ⊎ ((16777214 < population) ⊎ ((512 < cache) ⊎ ((1048576 < waiting)
    ⊎ ((workers ≡ 0) ⊎ ((1024 < workers) ⊎ ((tries ≡ 0) ⊎ ((1000000 < tries)
    ⊎ (65535 ≤ magazines_for population workers))))))))

-- why no guarded pool is made, by the number that C has: there is none of such a size; or there is, and
-- memory was refused, or the depot refused its magazines
abbrev pub RefusesGuard : ℕ → ℕ → ℕ → ℕ → ℕ → ℕ → Type 0
RefusesGuard population cache waiting workers tries status =
    (IsNoGuard population cache waiting workers tries × (status ≡ number_of BadPool))
    ⊎ ((IsNoGuard population cache waiting workers tries → ⊥)
    × ((refusal : Refusal) × (status ≡ number_of_refusal refusal)))

-- One worker more was made of that of the first handle, which keeps nothing, and is in the second.
abbrev pub SplitsGuard : Option Guarded → Option Guarded → Option Guarded → Type 0
SplitsGuard None new out = ⊥
SplitsGuard (Some s) new out =
    (0 < s.left) × (new ≡ Some (record s { left = s.left - 1 }))
    × ((other : Guarded) × (out ≡ Some other) × (other.site ≡ s.site) × (kept_by other.worker ≡ 0)
    × (count_of other.worker ≡ 0) × (other.left ≡ 0))

-- Why no worker is made, by the number that C has: the first handle has none, or no more can be made
-- of its worker; or one can, and memory was refused, or the depot refused its magazines.
abbrev pub RefusesSplit : ℕ → Option Guarded → Type 0
RefusesSplit status None = status ≡ number_of StrangerShare
RefusesSplit status (Some s) =
    ((s.left ≡ 0) × (status ≡ number_of StrangerShare))
    ⊎ ((0 < s.left) × ((refusal : Refusal) × (status ≡ number_of_refusal refusal)))

-- it is a worker of the same pool, of which as many can be made
abbrev pub SameGuard : Guarded → Guarded → Type 0
SameGuard s t = (t.site ≡ s.site) × (t.left ≡ s.left)

-- what a worker's get of a list did, by its answer: all are out with it; or none is, for a cause that was
-- read, and what it had got before is put again
abbrev pub Got : Site → List ℕ → Result (Unit {0}) Cause → GuardWorker → GuardWorker → Type 0
Got g xs (Ok _) a b = Gets xs (resting_of a) (resting_of b)
Got g xs (Err cause) a b =
    GetsNone (resting_of a) (resting_of b) × RefusedIn g.tries cause (view_of a) (view_of b) × GivesBack g a b

-- and a get of one
abbrev pub GotOne : Site → ℕ → Result (Unit {0}) Cause → GuardWorker → GuardWorker → Type 0
GotOne g e (Ok _) a b = (e < g.population) × Gets (e ∷ []) (resting_of a) (resting_of b)
GotOne g e (Err cause) a b =
    Still (resting_of a) (resting_of b) × RefusedIn g.tries cause (view_of a) (view_of b)

-- what a put of one did: it was put, or nothing was, for a cause that was found
abbrev pub PutOne : Site → ℕ → Result (Unit {0}) NotPut → GuardWorker → GuardWorker → Type 0
PutOne g e (Ok _) a b = PutsIt e (resting_of a) (resting_of b)
PutOne g e (Err why) a b = Still (resting_of a) (resting_of b) × IsNotPut g why e a b

-- what a flush did
abbrev pub Flushed : ℕ → Result (Unit {0}) Cause → GuardWorker → GuardWorker → Type 0
Flushed tries (Ok _) a b = kept_by b ≡ 0
Flushed tries (Err cause) a b = RefusedIn tries cause (view_of a) (view_of b)

-- The worker of a handle did this, and C has the status of the answer; whatever entries it found stale are
-- in its store. Where there is no worker nothing was done, and C has the number of a stranger.
abbrev pub Does : (Guarded → ℕ → Guarded → Type 0) → Option Guarded → ℕ → Option Guarded → Type 0
Does did None status new = (status ≡ number_of StrangerShare) × (new ≡ None)
Does did (Some s) status new =
    (t : Guarded) × (new ≡ Some t) × SameGuard s t × Since s.worker t.worker × did s status t

-- it got these
abbrev pub GetsGuard : List ℕ → Guarded → ℕ → Guarded → Type 0
GetsGuard xs s status t =
    (answer : Result (Unit {0}) Cause) × (status ≡ pool_status answer)
    × Got s.site xs answer s.worker t.worker

abbrev pub GetsOneGuard : ℕ → Guarded → ℕ → Guarded → Type 0
GetsOneGuard e s status t =
    (answer : Result (Unit {0}) Cause) × (status ≡ pool_status answer)
    × GotOne s.site e answer s.worker t.worker

-- it put the first of these, as many as C is told, and the one behind them was refused
abbrev pub PutsGuard : List ℕ → ℕ → Guarded → ℕ → Guarded → Type 0
PutsGuard xs taken s status t =
    (answer : Result (Unit {0}) NotPut) × (status ≡ put_status answer)
    × PutsAll (take taken xs) (resting_of s.worker) (resting_of t.worker)
    × StopsAt s.site xs taken answer (view_of s.worker) (view_of t.worker)

abbrev pub PutsOneGuard : ℕ → Guarded → ℕ → Guarded → Type 0
PutsOneGuard e s status t =
    (answer : Result (Unit {0}) NotPut) × (status ≡ put_status answer)
    × PutOne s.site e answer s.worker t.worker

-- it gave all that it kept to the depot, or was refused in between
abbrev pub FlushesGuard : Guarded → ℕ → Guarded → Type 0
FlushesGuard s status t =
    (answer : Result (Unit {0}) Cause) × (status ≡ pool_status answer)
    × Still (resting_of s.worker) (resting_of t.worker) × Flushed s.site.tries answer s.worker t.worker

-- C has what the calls of a handle's worker have put less what they got, modulo 2^64; or there is no
-- worker, and what was there stays
abbrev pub CountsGuard : Option Guarded → ℕ → ℕ → ℕ → Type 0
CountsGuard None status was out = (status ≡ number_of StrangerShare) × (out ≡ was)
CountsGuard (Some s) status was out =
    (status ≡ 0) × (out ≡ count_of s.worker) × Counted out (resting_of s.worker)

-- the worker with these entries in its store of what was found stale
abbrev pub with_stale : Guarded → List ℕ → Guarded
with_stale s xs = record s { worker = record s.worker { stale = xs } }

-- C has the oldest entry of the store, which has it no more; or the store has none, and what was there
-- stays
abbrev pub TellsStale : Option Guarded → ℕ → ℕ → ℕ → Option Guarded → Type 0
TellsStale None status was out new = (status ≡ number_of StrangerShare) × (new ≡ None) × (out ≡ was)
TellsStale (Some s) status was out new =
    ((status ≡ 0) × ((xs : List ℕ) × (s.worker.stale ≡ out ∷ xs) × (new ≡ Some (with_stale s xs))))
    ⊎ ((status ≡ number_of NoEntries) × (s.worker.stale ≡ []) × (out ≡ was) × (new ≡ Some s))
