-- The calls of a shared pool, what each read, and what of it is the cause of its answer.
use Rattle.std.specs.Prelude.{ℕ, ◌≡◌, ◌≢◌, ◌+◌, ◌<◌, ◌≤◌, nat_lt, if◌then◌else◌, List, [], ◌∷◌, length, Bool, true, false, count_by, map, Result, Ok, Err, Option, Some, None, ◌==◌, cond}
-- the modification count at which the head is spent
pub use Rattle.head_word.specs.Heads.{spent}
use Rattle.commons.specs.Bag.{bag, one}
use Rattle.commons.specs.Packets.{holds_of_packet, own_of_packet}
use Rattle.commons.specs.declared.limits.Limits.{Limits}
use Rattle.commons.specs.declared.packet.Seg.{Seg}
use Rattle.commons.specs.declared.refusal.Refusal.{Refusal}
use Rattle.commons.specs.declared.refusal.Refusal.TheVariants.{NoEntries, Contended, HeadSpent, RefSpent, DeskTaken, DeskEmpty, NoSuchDesk}
use Rattle.commons.specs.declared.refusal.Lowered.{Lowered}
use Rattle.commons.specs.declared.refusal.Lowered.TheVariants.{Last, Still}

-- one value that a call read: the length of the common list, the head's modification count, an
-- element's reference count, a desk's word; or one lost try
pub data Reading : Type 0 where
  Length : (value : ℕ) → Reading
  Head : (count : ℕ) → Reading
  Count : (element value : ℕ) → Reading
  Desk : (desk value : ℕ) → Reading
  Lost : Reading

-- a call with its answer
pub data Call : Type 0 where
  GetList : (n : ℕ) (answer : Result (List ℕ) Refusal) → Call
  PutList : (list : List ℕ) (answer : Result (Unit {0}) Refusal) → Call
  Claim : (element : ℕ) → Call
  CountOf : (element answer : ℕ) → Call
  Raise : (element : ℕ) (answer : Result (Unit {0}) Refusal) → Call
  Lower : (element : ℕ) (answer : Lowered) → Call
  Offer : (desk : ℕ) (packet : List Seg) (answer : Result (Unit {0}) Refusal) → Call
  Take : (desk : ℕ) (answer : Result (List Seg) Refusal) → Call
  CommonCount : (answer : ℕ) → Call

-- a call's answer with the list that it gave
abbrev pub with_list : Result (Unit {0}) Refusal → List ℕ → Result (List ℕ) Refusal
with_list (Ok _) xs = Ok xs
with_list (Err e) xs = Err e

-- an offer's answer without the packet that comes back with a refusal
abbrev pub without_packet : Result (Unit {0}) (Refusal × List Seg) → Result (Unit {0}) Refusal
without_packet (Ok met) = Ok met
without_packet (Err e) = Err e.0

-- what a reading tells, by its kind: the length of the common list, the head's count, the count of
-- this element, or the word of this desk
abbrev pub length_in : Reading → Option ℕ
length_in (Length value) = Some value
length_in (Head _) = None
length_in (Count _ _) = None
length_in (Desk _ _) = None
length_in Lost = None

abbrev pub head_in : Reading → Option ℕ
head_in (Length _) = None
head_in (Head count) = Some count
head_in (Count _ _) = None
head_in (Desk _ _) = None
head_in Lost = None

abbrev pub count_in : ℕ → Reading → Option ℕ
count_in i (Length _) = None
count_in i (Head _) = None
count_in i (Count j value) = cond (j == i) (Some value) None
count_in i (Desk _ _) = None
count_in i Lost = None

abbrev pub desk_in : ℕ → Reading → Option ℕ
desk_in d (Length _) = None
desk_in d (Head _) = None
desk_in d (Count _ _) = None
desk_in d (Desk e value) = cond (e == d) (Some value) None
desk_in d Lost = None

-- the later of two values, where there are some
abbrev pub later : Option ℕ → Option ℕ → Option ℕ
later first None = first
later first (Some n) = Some n

-- the last value of a kind that was read, where one was: a later reading of the same kind wins
abbrev pub last_in : (Reading → Option ℕ) → List Reading → Option ℕ
last_in value [] = None
last_in value (r ∷ rs) = later (value r) (last_in value rs)

-- the last of each kind
abbrev pub last_length : List Reading → Option ℕ
last_length rs = last_in length_in rs

abbrev pub last_head : List Reading → Option ℕ
last_head rs = last_in head_in rs

abbrev pub last_count : ℕ → List Reading → Option ℕ
last_count i rs = last_in (count_in i) rs

abbrev pub last_desk : ℕ → List Reading → Option ℕ
last_desk d rs = last_in (desk_in d) rs

-- there is a value, and it is below this one, above it, or another
abbrev pub IsBelow : ℕ → Option ℕ → Type 0
IsBelow n None = ⊥
IsBelow n (Some value) = value < n

abbrev pub IsAbove : ℕ → Option ℕ → Type 0
IsAbove n None = ⊥
IsAbove n (Some value) = n < value

abbrev pub IsOther : ℕ → Option ℕ → Type 0
IsOther n None = ⊥
IsOther n (Some value) = value ≢ n

abbrev pub is_lost : Reading → Bool
is_lost (Length _) = false
is_lost (Head _) = false
is_lost (Count _ _) = false
is_lost (Desk _ _) = false
is_lost Lost = true

-- what was read is a cause to refuse a change of the stack
abbrev pub IsStackCause : Limits → Refusal → List Reading → Type 0
IsStackCause l Contended rs = l.tries ≤ count_by is_lost rs
IsStackCause l HeadSpent rs = last_head rs ≡ Some spent
IsStackCause l _ rs = ⊥

-- what was read is a cause to refuse a get of n elements
abbrev pub IsGetCause : Limits → ℕ → Refusal → List Reading → Type 0
IsGetCause l n NoEntries rs = IsBelow n (last_length rs)
IsGetCause l n Contended rs = l.tries ≤ count_by is_lost rs
IsGetCause l n HeadSpent rs = last_head rs ≡ Some spent
IsGetCause l n _ rs = ⊥

-- what was read is a cause to refuse one hold more of an element
abbrev pub IsRaiseCause : Limits → ℕ → Refusal → List Reading → Type 0
IsRaiseCause l i Contended rs = l.tries ≤ count_by is_lost rs
IsRaiseCause l i RefSpent rs = last_count i rs ≡ Some l.ref_limit
IsRaiseCause l i _ rs = ⊥

-- the words of a desk that is empty, and of one that has a packet
abbrev pub desk_empty : ℕ
desk_empty = 0

abbrev pub desk_full : ℕ
desk_full = 2

-- the pool's desks, or what was read, are a cause to refuse an offer, or a take
abbrev pub IsOfferCause : Limits → ℕ → Refusal → List Reading → Type 0
IsOfferCause l d NoSuchDesk rs = l.desks ≤ d
IsOfferCause l d DeskTaken rs = (d < l.desks) × IsOther desk_empty (last_desk d rs)
IsOfferCause l d _ rs = ⊥

abbrev pub IsTakeCause : Limits → ℕ → Refusal → List Reading → Type 0
IsTakeCause l d NoSuchDesk rs = l.desks ≤ d
IsTakeCause l d DeskEmpty rs = (d < l.desks) × IsOther desk_full (last_desk d rs)
IsTakeCause l d _ rs = ⊥

-- What was read is a cause of the call's answer: always the last that was read of its kind, which
-- is what an exchange sees. Where the answer is that the call succeeded, the head wasn't spent,
-- nor was the count, and the desk was as it had to be; a get that succeeded gives as many as were
-- asked for.
abbrev pub HasCause : Limits → Call → List Reading → Type 0
HasCause l (GetList n (Ok xs)) rs = (length xs ≡ n) × IsBelow spent (last_head rs)
HasCause l (GetList n (Err e)) rs = IsGetCause l n e rs
HasCause l (PutList list (Ok _)) rs = IsBelow spent (last_head rs)
HasCause l (PutList list (Err e)) rs = IsStackCause l e rs
HasCause l (Claim i) rs = Unit {0}
HasCause l (CountOf i n) rs = last_count i rs ≡ Some n
HasCause l (Raise i (Ok _)) rs = IsBelow l.ref_limit (last_count i rs)
HasCause l (Raise i (Err e)) rs = IsRaiseCause l i e rs
HasCause l (Lower i Last) rs = last_count i rs ≡ Some 1
HasCause l (Lower i Still) rs = IsAbove 1 (last_count i rs)
HasCause l (Offer d p (Ok _)) rs = (d < l.desks) × (last_desk d rs ≡ Some desk_empty)
HasCause l (Offer d p (Err e)) rs = IsOfferCause l d e rs
HasCause l (Take d (Ok p)) rs = (d < l.desks) × (last_desk d rs ≡ Some desk_full)
HasCause l (Take d (Err e)) rs = IsTakeCause l d e rs
HasCause l (CommonCount n) rs = last_length rs ≡ Some n

-- what a worker has of a pool, as contracts see it
pub record Side : Type 0 where
  -- the pool's limits
  pub limits : Limits
  -- how often each element is in the worker's hand: once or never
  pub hand : ℕ → ℕ
  -- how often the worker holds each element
  pub holds : ℕ → ℕ
  -- which of the elements that the worker holds are its headers, once or never: those that it
  -- claimed or that came as own elements of a packet, until it offers their packet or its last
  -- hold of them ends
  pub headers : ℕ → ℕ

-- the two have the same limits, and the same of each element
pub record SameSide (before after : Side) : Type 0 where
  pub limits : after.limits ≡ before.limits
  pub hand : (i : ℕ) → after.hand i ≡ before.hand i
  pub holds : (i : ℕ) → after.holds i ≡ before.holds i
  pub headers : (i : ℕ) → after.headers i ≡ before.headers i

-- these elements come into the hand
pub record IsGet (xs : List ℕ) (before after : Side) : Type 0 where
  pub limits : after.limits ≡ before.limits
  pub hand : (i : ℕ) → after.hand i ≡ before.hand i + bag xs i
  pub holds : after.holds ≡ before.holds
  pub headers : after.headers ≡ before.headers

-- these elements leave the hand
pub record IsPut (xs : List ℕ) (before after : Side) : Type 0 where
  pub limits : after.limits ≡ before.limits
  pub hand : (i : ℕ) → before.hand i ≡ after.hand i + bag xs i
  pub holds : after.holds ≡ before.holds
  pub headers : after.headers ≡ before.headers

-- an element of the hand is held once, as a header
pub record IsClaim (e : ℕ) (before after : Side) : Type 0 where
  pub limits : after.limits ≡ before.limits
  pub hand : (i : ℕ) → before.hand i ≡ after.hand i + one e i
  pub holds : (i : ℕ) → after.holds i ≡ before.holds i + one e i
  pub headers : (i : ℕ) → after.headers i ≡ before.headers i + one e i

-- the count of an element is at least the worker's own holds, and at most the limit
pub record IsCountOf (e n : ℕ) (before after : Side) : Type 0 where
  pub same : after ≡ before
  pub own : before.holds e ≤ n
  pub limited : n ≤ before.limits.ref_limit

-- an element that the worker holds is held once more
pub record IsRaise (e : ℕ) (before after : Side) : Type 0 where
  pub held : 0 < before.holds e
  pub limits : after.limits ≡ before.limits
  pub hand : (i : ℕ) → after.hand i ≡ before.hand i
  pub holds : (i : ℕ) → after.holds i ≡ before.holds i + one e i
  pub headers : after.headers ≡ before.headers

-- what comes back into the hand where a count was lowered
abbrev pub back : Lowered → ℕ → ℕ → ℕ
back Last i j = one i j
back Still i j = 0

-- An element is held once less, and is in the hand where that was the last hold of all. A header
-- is one until the worker's last hold of it ends.
pub record IsLower (e : ℕ) (answer : Lowered) (before after : Side) : Type 0 where
  pub limits : after.limits ≡ before.limits
  pub hand : (i : ℕ) → after.hand i ≡ before.hand i + back answer e i
  pub holds : (i : ℕ) → before.holds i ≡ after.holds i + one e i
  pub headers : (i : ℕ) → after.headers i ≡ (if nat_lt 0 (after.holds i) then before.headers i else 0)

-- A packet goes with its holds. Its own elements were headers, and no longer are; nor is what the
-- worker then doesn't hold.
pub record IsOffer (packet : List Seg) (before after : Side) : Type 0 where
  pub limits : after.limits ≡ before.limits
  pub hand : after.hand ≡ before.hand
  pub holds : (i : ℕ) → before.holds i ≡ after.holds i + bag (holds_of_packet packet) i
  pub own : (i : ℕ) → bag (own_of_packet packet) i ≤ before.headers i
  pub left : (i : ℕ) → 0 < after.holds i → before.headers i ≡ after.headers i + bag (own_of_packet packet) i
  pub ended : (i : ℕ) → after.holds i ≡ 0 → after.headers i ≡ 0

-- a packet comes with its holds, and its own elements as headers
pub record IsTake (packet : List Seg) (before after : Side) : Type 0 where
  pub limits : after.limits ≡ before.limits
  pub hand : after.hand ≡ before.hand
  pub holds : (i : ℕ) → after.holds i ≡ before.holds i + bag (holds_of_packet packet) i
  pub headers : (i : ℕ) → after.headers i ≡ before.headers i + bag (own_of_packet packet) i

-- What the call does to the worker's side, by its answer; a call that is refused, or only reads,
-- does nothing to it.
abbrev pub HasEffect : Call → Side → Side → Type 0
HasEffect (GetList n (Ok xs)) before after = IsGet xs before after
HasEffect (GetList n (Err e)) before after = after ≡ before
HasEffect (PutList list (Ok _)) before after = IsPut list before after
HasEffect (PutList list (Err e)) before after = after ≡ before
HasEffect (Claim i) before after = IsClaim i before after
HasEffect (CountOf i n) before after = IsCountOf i n before after
HasEffect (Raise i (Ok _)) before after = IsRaise i before after
HasEffect (Raise i (Err e)) before after = after ≡ before
HasEffect (Lower i answer) before after = IsLower i answer before after
HasEffect (Offer d p (Ok _)) before after = IsOffer p before after
HasEffect (Offer d p (Err e)) before after = after ≡ before
HasEffect (Take d (Ok p)) before after = IsTake p before after
HasEffect (Take d (Err e)) before after = after ≡ before
HasEffect (CommonCount n) before after = after ≡ before

-- One step: the call was made, read this, and led from the first state to the second; what it read
-- is a cause of its answer, and the worker's side has its effect.
pub record Step {S : Type 0} (did : S → Call → List Reading → S → Type 0) (side : S → Side)
    (before : S) (call : Call) (readings : List Reading) (after : S) : Type 0 where
  pub led : did before call readings after
  pub cause : HasCause (side before).limits call readings
  pub effect : HasEffect call (side before) (side after)

-- the shared pool did this call, in a step that read something
pub record Did {S : Type 0} (did : S → Call → List Reading → S → Type 0) (side : S → Side)
    (before : S) (call : Call) (after : S) : Type 0 where
  pub readings : List Reading
  pub step : Step did side before call readings after

-- a call that was made, and what it read
pub record Made : Type 0 where
  pub call : Call
  pub readings : List Reading

-- the calls alone
abbrev pub calls_of : List Made → List Call
calls_of made = map (λ m. m.call) made

-- the calls lead from one state to the other, a step each, in order, and no other call was made
abbrev pub Leads : {S : Type 0} → (S → Call → List Reading → S → Type 0) → (S → Side) → S →
    List Made → S → Type 0
Leads did side before [] after = before ≡ after
Leads {S} did side before (m ∷ made) after =
    (between : S) × Step did side before m.call m.readings between
    × Leads did side between made after

-- calls led from one state to the other, a step each, in order, and this is so of them
abbrev pub Calls : {S : Type 0} → (S → Call → List Reading → S → Type 0) → (S → Side) → S → S →
    (List Call → Type 0) → Type 0
Calls did side before after rule =
    (made : List Made) × Leads did side before made after × rule (calls_of made)
