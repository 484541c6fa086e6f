-- The tries of a call over words: their steps, and what they read.
use Rattle.std.specs.Prelude.{◌≡◌, ◌≢◌, ℕ, suc, ◌<◌, ◌≤◌, true, false, List, [], ◌∷◌, ◌++◌, ◌⊎◌, length, map, flat_map, All, Option, Some, None, Result, Ok, Err}
use Rattle.commons.specs.Calls.{Reading, Length, Head as HeadRead, Count, Desk, Lost as LostRead, Call, GetList, PutList, Claim, CountOf, Raise, Lower, Offer, Take, CommonCount, spent}
use Rattle.commons.specs.declared.limits.Limits.{Limits}
use Rattle.commons.specs.declared.packet.Seg.{Seg}
use Rattle.commons.specs.declared.refusal.Refusal.{Refusal}
use Rattle.commons.specs.declared.refusal.Refusal.TheVariants.{NoEntries, Contended, HeadSpent, RefSpent, NoSuchDesk, DeskTaken, DeskEmpty}
use Rattle.commons.specs.declared.refusal.Lowered.{Lowered as Answer}
use Rattle.commons.specs.declared.refusal.Lowered.TheVariants.{Last, Still}
use Rattle.step_core.specs.declared.view.Head.{Head}
use Rattle.step_core.specs.declared.step.Step.TheVariants.{LoadLength, Reserve, Add, LoadHead, LoadLink, Cut, StoreLink, Push, Claim as ClaimStep, Sole, Raise as RaiseStep, Lower as LowerStep, Reset, Hold, Open, Seize, Clear}
use Rattle.step_core.specs.declared.step.Outcome.TheVariants.{Value, HeadIs, Won, Got, Lost, LostTo, Done, Found}
use Rattle.ground.specs.Changing.{KnowsChanges}
use Rattle.ground.specs.Seats.{Seated, Note, element_of, KnowsLength, KnowsCount, laid_on, KnowsThere, KnowsEmpty, KnowsFull}
use Rattle.step_core.specs.World.{every_part}

-- links that were walked, each an element with the value of its link
abbrev pub Walk : Type 0
Walk = List (ℕ × ℕ)

abbrev pub element_in : ℕ × ℕ → ℕ
element_in p = p.0

-- the elements of a walk
abbrev pub elements : Walk → List ℕ
elements ps = map element_in ps

-- the walk leads from the first value to the second
abbrev pub IsWalk : ℕ → Walk → ℕ → Type 0
IsWalk v [] u = v ≡ u
IsWalk v (p ∷ ps) u = (v ≡ suc p.0) × IsWalk p.1 ps u

-- A try of a call, or what follows the last one.
pub data Try : Type 0 where
  -- a length was read
  Short : (length : ℕ) → Try
  -- a length was read, and the exchange of it lost, or won
  ReserveFailed : (n length found : ℕ) → Try
  Reserved : (n length : ℕ) → Try
  -- a head was read, and no more
  Stopped : (head : Head) → Try
  -- a head was read, links were walked, and the walk ended early, or the exchange of the head
  -- lost, or won
  Ended : (head : Head) (walk : Walk) → Try
  PopFailed : (head : Head) (walk : Walk) (found : Head) → Try
  Popped : (head : Head) (walk : Walk) → Try
  -- a head was read, the links of a list were stored, and the exchange of the head lost, or won
  PushFailed : (head : Head) (list : List ℕ) (found : Head) → Try
  Pushed : (head : Head) (list : List ℕ) → Try
  -- what was reserved, or pushed, was added to the length
  Added : (n : ℕ) → Try
  -- an element of the hand was claimed
  Claimed : (element : ℕ) → Try
  -- a count was read, and the exchange of it lost, or won
  Counted : (element count : ℕ) → Try
  RaiseFailed : (element count found : ℕ) → Try
  Raised : (element count : ℕ) → Try
  -- a count of 1 was read, and the hold ended
  Freed : (element : ℕ) → Try
  -- a count was read, and then lowered from what it was; from 1, it was set to 1 again
  Lowered : (element count before : ℕ) → Try
  LoweredToLast : (element count : ℕ) → Try
  -- a desk was found in no state to be filled, or this packet was left on it
  OfferFailed : (desk found : ℕ) → Try
  Offered : (desk : ℕ) (packet : List Seg) → Try
  -- a desk was found in no state to be emptied, or this packet was taken off it
  TakeFailed : (desk found : ℕ) → Try
  Taken : (desk : ℕ) (packet : List Seg) → Try

abbrev pub link_note : ℕ × ℕ → Note
link_note p = (LoadLink p.0, Value p.1)

-- the steps that store the links of a list, its first element's to this value and each other's to
-- the one before
abbrev pub stores : ℕ → List ℕ → List Note
stores v [] = []
stores v (x ∷ xs) = (StoreLink x (element_of v), Done) ∷ stores (suc x) xs

-- the value that leads to the last of a list, or this one where it is empty
abbrev pub last_of : ℕ → List ℕ → ℕ
last_of v [] = v
last_of v (x ∷ xs) = last_of (suc x) xs

-- the steps of a try
abbrev pub notes : Try → List Note
notes (Short v) = (LoadLength, Value v) ∷ []
notes (ReserveFailed n v found) = (LoadLength, Value v) ∷ (Reserve v n, Lost found) ∷ []
notes (Reserved n v) = (LoadLength, Value v) ∷ (Reserve v n, Won) ∷ []
notes (Stopped h) = (LoadHead, HeadIs h) ∷ []
notes (Ended h ps) = (LoadHead, HeadIs h) ∷ map link_note ps
notes (PopFailed h ps found) =
    (LoadHead, HeadIs h) ∷ (map link_note ps ++ (Cut, LostTo found) ∷ [])
notes (Popped h ps) =
    (LoadHead, HeadIs h) ∷ (map link_note ps ++ (Cut, Got (elements ps)) ∷ [])
notes (PushFailed h xs found) =
    (LoadHead, HeadIs h) ∷ (stores h.top xs ++ (Push, LostTo found) ∷ [])
notes (Pushed h xs) = (LoadHead, HeadIs h) ∷ (stores h.top xs ++ (Push, Won) ∷ [])
notes (Added n) = (Add n, Done) ∷ []
notes (Claimed i) = (ClaimStep i, Value 1) ∷ []
notes (Counted i c) = (Sole i false, Value c) ∷ []
notes (RaiseFailed i c found) = (Sole i false, Value c) ∷ (RaiseStep i c, Lost found) ∷ []
notes (Raised i c) = (Sole i false, Value c) ∷ (RaiseStep i c, Won) ∷ []
notes (Freed i) = (Sole i true, Value 1) ∷ []
notes (Lowered i c before) = (Sole i true, Value c) ∷ (LowerStep i, Value before) ∷ []
notes (LoweredToLast i c) = (Sole i true, Value c) ∷ (LowerStep i, Value 1) ∷ (Reset i, Done) ∷ []
notes (OfferFailed d found) = (Hold d, Lost found) ∷ []
notes (Offered d p) = (Hold d, Won) ∷ (Open d, Found p) ∷ []
notes (TakeFailed d found) = (Seize d, Lost found) ∷ []
notes (Taken d p) = (Seize d, Found p) ∷ (Clear d, Done) ∷ []

-- what a try read
abbrev pub reads : Try → List Reading
reads (Short v) = Length v ∷ []
reads (ReserveFailed n v found) = Length v ∷ Length found ∷ LostRead ∷ []
reads (Reserved n v) = Length v ∷ []
reads (Stopped h) = HeadRead h.count ∷ []
reads (Ended h ps) = HeadRead h.count ∷ LostRead ∷ []
reads (PopFailed h ps found) = HeadRead h.count ∷ HeadRead found.count ∷ LostRead ∷ []
reads (Popped h ps) = HeadRead h.count ∷ []
reads (PushFailed h xs found) = HeadRead h.count ∷ HeadRead found.count ∷ LostRead ∷ []
reads (Pushed h xs) = HeadRead h.count ∷ []
reads (Added n) = []
reads (Claimed i) = []
reads (Counted i c) = Count i c ∷ []
reads (RaiseFailed i c found) = Count i c ∷ Count i found ∷ LostRead ∷ []
reads (Raised i c) = Count i c ∷ []
reads (Freed i) = Count i 1 ∷ []
reads (Lowered i c before) = Count i c ∷ Count i before ∷ []
reads (LoweredToLast i c) = Count i c ∷ Count i 1 ∷ []
reads (OfferFailed d found) = Desk d found ∷ []
reads (Offered d p) = Desk d 0 ∷ []
reads (TakeFailed d found) = Desk d found ∷ []
reads (Taken d p) = Desk d 2 ∷ []

abbrev pub notes_of : List Try → List Note
notes_of ts = flat_map notes ts

abbrev pub readings_of : List Try → List Reading
readings_of ts = flat_map reads ts

-- a try to reserve n that lost: a length of at least n was read, and another stood there
abbrev pub IsLostReserve : ℕ → Try → Type 0
IsLostReserve n x = (v found : ℕ) × (n ≤ v) × (found ≢ v) × (x ≡ ReserveFailed n v found)

-- a try to cut n off that lost: the list ended before, or the head was a later one
abbrev pub IsLostCut : ℕ → Try → Type 0
IsLostCut n x =
    ((h : Head) × (ps : Walk) × (length ps < n) × IsWalk h.top ps 0 × (x ≡ Ended h ps))
    ⊎ ((h found : Head) × (ps : Walk) × (u : ℕ) × (length ps ≡ n) × (h.count < found.count)
    × IsWalk h.top ps u × (x ≡ PopFailed h ps found))

-- a try to cut that won, and gave these
abbrev pub IsWonCut : List ℕ → Try → Type 0
IsWonCut xs x =
    (h : Head) × (ps : Walk) × (u : ℕ) × (xs ≡ elements ps) × (h.count < spent)
    × IsWalk h.top ps u × (x ≡ Popped h ps)

-- a try to push a list that lost to a later head, or won
abbrev pub IsLostPush : List ℕ → Try → Type 0
IsLostPush xs x = (h found : Head) × (h.count < found.count) × (x ≡ PushFailed h xs found)

abbrev pub IsWonPush : List ℕ → Try → Type 0
IsWonPush xs x = (h : Head) × (h.count < spent) × (x ≡ Pushed h xs)

-- the spent count was read
abbrev pub IsSpent : Try → Type 0
IsSpent x = (h : Head) × (h.count ≡ spent) × (x ≡ Stopped h)

-- The tries of a get of n elements, of at most this many lost ones in each loop, by its answer.
-- What was reserved is added again before each refusal that comes after it.
abbrev pub IsGet : ℕ → ℕ → Result (List ℕ) Refusal → List Try → Type 0
IsGet tries n (Ok xs) ts =
    (misses cuts : List Try) × (v : ℕ) × (x : Try)
    × (length misses < tries) × All (IsLostReserve n) misses × (n ≤ v)
    × (length cuts < tries) × All (IsLostCut n) cuts × (length xs ≡ n) × IsWonCut xs x
    × (ts ≡ misses ++ Reserved n v ∷ (cuts ++ x ∷ []))
IsGet tries n (Err NoEntries) ts =
    (misses : List Try) × (v : ℕ) × (length misses < tries) × All (IsLostReserve n) misses × (v < n)
    × (ts ≡ misses ++ Short v ∷ [])
IsGet tries n (Err HeadSpent) ts =
    (misses cuts : List Try) × (v : ℕ) × (x : Try)
    × (length misses < tries) × All (IsLostReserve n) misses × (n ≤ v)
    × (length cuts < tries) × All (IsLostCut n) cuts × IsSpent x
    × (ts ≡ misses ++ Reserved n v ∷ (cuts ++ x ∷ Added n ∷ []))
IsGet tries n (Err Contended) ts =
    ((length ts ≡ tries) × All (IsLostReserve n) ts)
    ⊎ ((misses cuts : List Try) × (v : ℕ)
    × (length misses < tries) × All (IsLostReserve n) misses × (n ≤ v)
    × (length cuts ≡ tries) × All (IsLostCut n) cuts
    × (ts ≡ misses ++ Reserved n v ∷ (cuts ++ Added n ∷ [])))
IsGet tries n (Err _) ts = ⊥

-- The tries of a put of a list. The length is raised after the list is on the stack.
abbrev pub IsPut : ℕ → List ℕ → Result (Unit {0}) Refusal → List Try → Type 0
IsPut tries xs (Ok _) ts =
    (pushes : List Try) × (x : Try) × (length pushes < tries) × All (IsLostPush xs) pushes
    × IsWonPush xs x × (ts ≡ pushes ++ x ∷ Added (length xs) ∷ [])
IsPut tries xs (Err HeadSpent) ts =
    (pushes : List Try) × (x : Try) × (length pushes < tries) × All (IsLostPush xs) pushes
    × IsSpent x × (ts ≡ pushes ++ x ∷ [])
IsPut tries xs (Err Contended) ts = (length ts ≡ tries) × All (IsLostPush xs) ts
IsPut tries xs (Err _) ts = ⊥

-- a try to raise a count that lost: one below the limit was read, and another stood there
abbrev pub IsLostRaise : Limits → ℕ → Try → Type 0
IsLostRaise l i x =
    (c found : ℕ) × (c < l.ref_limit) × (found ≢ c) × (x ≡ RaiseFailed i c found)

-- The tries of a raise, by its answer.
abbrev pub IsRaise : Limits → ℕ → Result (Unit {0}) Refusal → List Try → Type 0
IsRaise l i (Ok _) ts =
    (raises : List Try) × (c : ℕ) × (length raises < l.tries) × All (IsLostRaise l i) raises
    × (c < l.ref_limit) × (ts ≡ raises ++ Raised i c ∷ [])
IsRaise l i (Err RefSpent) ts =
    (raises : List Try) × (length raises < l.tries) × All (IsLostRaise l i) raises
    × (ts ≡ raises ++ Counted i l.ref_limit ∷ [])
IsRaise l i (Err Contended) ts = (length ts ≡ l.tries) × All (IsLostRaise l i) ts
IsRaise l i (Err _) ts = ⊥

-- the one try of a lower, by its answer
abbrev pub IsLower : ℕ → Answer → Try → Type 0
IsLower i Last x = (x ≡ Freed i) ⊎ ((c : ℕ) × (1 < c) × (x ≡ LoweredToLast i c))
IsLower i Still x = (c before : ℕ) × (1 < c) × (1 < before) × (x ≡ Lowered i c before)

-- The one try of an offer, by its answer, which is noted with the packet that was left; none where
-- there is no such desk.
abbrev pub IsOffer : Limits → ℕ → List Seg → Result (Unit {0}) Refusal → List Try → Type 0
IsOffer l d p (Ok _) ts = (d < l.desks) × (ts ≡ Offered d p ∷ [])
IsOffer l d p (Err NoSuchDesk) ts = (l.desks ≤ d) × (ts ≡ [])
IsOffer l d p (Err DeskTaken) ts =
    (found : ℕ) × (d < l.desks) × (found ≢ 0) × (ts ≡ OfferFailed d found ∷ [])
IsOffer l d p (Err _) ts = ⊥

-- the same of a take
abbrev pub IsTake : Limits → ℕ → Result (List Seg) Refusal → List Try → Type 0
IsTake l d (Ok p) ts = (d < l.desks) × (ts ≡ Taken d p ∷ [])
IsTake l d (Err NoSuchDesk) ts = (l.desks ≤ d) × (ts ≡ [])
IsTake l d (Err DeskEmpty) ts =
    (found : ℕ) × (d < l.desks) × (found ≢ 2) × (ts ≡ TakeFailed d found ∷ [])
IsTake l d (Err _) ts = ⊥

-- The tries of a call.
abbrev pub IsOfCall : Limits → Call → List Try → Type 0
IsOfCall l (GetList n answer) ts = IsGet l.tries n answer ts
IsOfCall l (PutList xs answer) ts = IsPut l.tries xs answer ts
IsOfCall l (Claim i) ts = ts ≡ Claimed i ∷ []
IsOfCall l (CountOf i n) ts = ts ≡ Counted i n ∷ []
IsOfCall l (Raise i answer) ts = IsRaise l i answer ts
IsOfCall l (Lower i answer) ts = (x : Try) × IsLower i answer x × (ts ≡ x ∷ [])
IsOfCall l (Offer d packet answer) ts = IsOffer l d packet answer ts
IsOfCall l (Take d answer) ts = IsTake l d answer ts
IsOfCall l (CommonCount n) ts = ts ≡ Short n ∷ []

-- the call was refused after as many lost tries as the pool allows
abbrev pub IsContended : Call → Type 0
IsContended (GetList n (Err Contended)) = Unit {0}
IsContended (PutList xs (Err Contended)) = Unit {0}
IsContended (Raise i (Err Contended)) = Unit {0}
IsContended _ = ⊥

-- a length below n was read, and is what the only seat of a pool knows of it
abbrev pub KnowsShort : ℕ → Seated → Type 0
KnowsShort n s = (found : ℕ) × (found < n) × KnowsLength s.known found

-- or one of n at least
abbrev pub KnowsEnough : ℕ → Seated → Type 0
KnowsEnough n s = (found : ℕ) × (n ≤ found) × KnowsLength s.known found

-- and a count at the reference limit
abbrev pub KnowsSpent : ℕ → Seated → Type 0
KnowsSpent i s = KnowsCount s.known i s.known.limits.ref_limit

-- or one below it
abbrev pub KnowsRaised : ℕ → Seated → Type 0
KnowsRaised i s = (count : ℕ) × (count < s.known.limits.ref_limit) × KnowsCount s.known i count

-- and the count from which a hold ended
abbrev pub KnowsLowered : ℕ → Answer → Seated → Type 0
KnowsLowered i Last s = KnowsCount s.known i 1
KnowsLowered i Still s = (count : ℕ) × (1 < count) × KnowsCount s.known i count

-- What a call's answer tells its seat of the length and of a count that were read, of how often the
-- stack was changed where it can't be again, and of what lies on a desk: what the only seat of a pool
-- knows of each.
abbrev pub IsTold : Seated → Call → Type 0
IsTold s (GetList n (Ok xs)) = KnowsEnough n s
IsTold s (GetList n (Err NoEntries)) = KnowsShort n s
IsTold s (GetList n (Err HeadSpent)) = KnowsChanges s.known spent
IsTold s (GetList n (Err _)) = Unit {0}
IsTold s (PutList xs (Err HeadSpent)) = KnowsChanges s.known spent
IsTold s (PutList xs _) = Unit {0}
IsTold s (Claim i) = Unit {0}
IsTold s (CountOf i n) = KnowsCount s.known i n
IsTold s (Raise i (Ok _)) = KnowsRaised i s
IsTold s (Raise i (Err RefSpent)) = KnowsSpent i s
IsTold s (Raise i (Err _)) = Unit {0}
IsTold s (Lower i answer) = KnowsLowered i answer s
IsTold s (Offer d packet (Ok _)) = KnowsEmpty d s.known
IsTold s (Offer d packet (Err DeskTaken)) = KnowsFull d s.known
IsTold s (Offer d packet (Err _)) = Unit {0}
IsTold s (Take d (Ok packet)) = KnowsThere d packet s.known
IsTold s (Take d (Err DeskEmpty)) = KnowsEmpty d s.known
IsTold s (Take d (Err _)) = Unit {0}
IsTold s (CommonCount n) = KnowsLength s.known n

-- what is known to lie on the desks after a call: an offer and a take that succeed change it
abbrev pub lying_after : Call → Option (List (Option (List Seg))) → Option (List (Option (List Seg)))
lying_after (Offer d packet (Ok _)) known = laid_on d (Some packet) known
lying_after (Take d (Ok packet)) known = laid_on d None known
lying_after _ known = known

-- In which order elements stand in the hand before and after a call: what a get brought stands
-- behind what was there, as it was listed, and where a get or a put was refused the hand is as it
-- was. Of all other calls the hand is told as a bag alone.
abbrev pub KeepsOrder : Call → List ℕ → List ℕ → Type 0
KeepsOrder (GetList n (Ok xs)) before now = now ≡ before ++ xs
KeepsOrder (GetList n (Err _)) before now = now ≡ before
KeepsOrder (PutList xs (Ok _)) before now = Unit {0}
KeepsOrder (PutList xs (Err _)) before now = now ≡ before
KeepsOrder (Claim i) before now = Unit {0}
KeepsOrder (CountOf i n) before now = Unit {0}
KeepsOrder (Raise i answer) before now = Unit {0}
KeepsOrder (Lower i answer) before now = Unit {0}
KeepsOrder (Offer d packet answer) before now = Unit {0}
KeepsOrder (Take d answer) before now = Unit {0}
KeepsOrder (CommonCount n) before now = Unit {0}

-- what a call over words did: it took the steps of these tries, by this seat, and read what they
-- read
pub record DidOnWords (s : Seated) (call : Call) (rs : List Reading) (t : Seated) : Type 0 where
  pub table : t.table ≡ s.table
  pub seat : t.id ≡ s.id
  pub limits : t.known.limits ≡ s.known.limits
  pub part : t.known.view.part ≡ s.known.view.part
  pub slots : t.slots ≡ s.slots
  pub tries : List Try
  pub made : IsOfCall s.known.limits call tries
  pub steps : t.known.steps ≡ s.known.steps ++ notes_of tries
  pub joined : t.known.joined ≡ s.known.joined
  pub lying : t.known.lying ≡ lying_after call s.known.lying
  pub order : KeepsOrder call s.known.view.hand t.known.view.hand
  pub read : rs ≡ readings_of tries
  -- the only seat of a pool is in nobody's way
  pub alone : s.known.view.part ≡ every_part s.known.limits → IsContended call → ⊥
  -- and knows what lies on the desks, what a length and a count are, and how often the stack was
  -- changed
  pub told : IsTold s call
