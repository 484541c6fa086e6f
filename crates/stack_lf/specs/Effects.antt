-- What one try, a loop of tries, and a whole call leave of a seat.
use Rattle.std.specs.Prelude.{◌≡◌, ◌≢◌, false, ℕ, ◌+◌, ◌-◌, ◌<◌, ◌≤◌, List, [], ◌∷◌, ◌++◌, length, reverse, map, All, Option, Some, None, Result, Ok, Err}
use Rattle.commons.specs.Calls.{spent}
use Rattle.commons.specs.declared.refusal.Refusal.{Refusal}
use Rattle.commons.specs.declared.limits.Limits.{Limits}
use Rattle.commons.specs.declared.packet.Seg.{Seg}
use Rattle.commons.specs.declared.refusal.Refusal.TheVariants.{NoEntries, Contended, HeadSpent, RefSpent, NoSuchDesk, DeskTaken, DeskEmpty}
use Rattle.commons.specs.declared.refusal.Lowered.{Lowered as Answer}
use Rattle.commons.specs.declared.refusal.Lowered.TheVariants.{Last, Still}
use Rattle.step_core.specs.declared.view.Head.{Head}
use Rattle.step_core.specs.declared.view.Look.{Look}
use Rattle.step_core.specs.declared.view.Chain.{Chain}
use Rattle.step_core.specs.declared.view.View.{View}
use Rattle.step_core.specs.Bags.{minus}
use Rattle.step_core.specs.Views.{raised, freed, hold_ended, working, opened, seized}
use Rattle.ground.specs.Changing.{KnowsChanges}
use Rattle.ground.specs.DeskSeats.{laid}
use Rattle.ground.specs.Seats.{Seated, after, KnowsLength, KnowsCount, KnowsThere, KnowsEmpty, KnowsFull}
use Rattle.stack_lf.specs.declared.tried.Tried.{Tried}
use Rattle.stack_lf.specs.declared.tried.Tried.TheVariants as tried
use Rattle.stack_lf.specs.Tries.{Try, Walk, IsWalk, Short, Reserved, notes, notes_of, elements, link_note, stores, IsWonCut, IsWonPush, IsSpent, IsGet, IsPut, Raised, Counted, IsRaise, IsLower, OfferFailed, Offered, TakeFailed, Taken}
use Rattle.step_core.specs.World.{every_part}

-- the seat after these tries, with this view
abbrev pub tried_to : Seated → List Try → View → Seated
tried_to s ts v = after s (notes_of ts) v

-- the view but for what it saw of the head
abbrev pub seen_as : View → Option Look → ℕ → View
seen_as v look seen = record v { look = look; seen = seen }

-- the seat is the only one of its pool: it has every part of it, so that no other takes a step
abbrev pub IsAlone : Seated → Type 0
IsAlone s = s.known.view.part ≡ every_part s.known.limits

-- ---- a walk

-- a look at a head from which nothing is walked
abbrev pub start : Head → Look
start h = record { head = h; front = []; next = h.top }

-- the view of a seat that has walked these links from this head, up to this value
abbrev pub walking : View → Head → Walk → ℕ → View
walking v h ps next =
    record v { look = Some (record { head = h; front = elements ps; next = next }) }

abbrev pub Walked : Head → Walk → ℕ → Seated → Seated → Type 0
Walked h ps next s t =
    IsWalk h.top ps next × (t ≡ after s (map link_note ps) (walking s.known.view h ps next))

-- ---- the links of a list

-- the chain of a list whose links are stored, down to this value
abbrev pub chain_of : ℕ → List ℕ → Option Chain
chain_of top [] = None
chain_of top (x ∷ xs) = Some (record { items = reverse (x ∷ xs); end = top })

-- the seat has stored the links of a list
abbrev pub Stored : ℕ → List ℕ → Seated → Seated → Type 0
Stored top xs s t =
    t ≡ after s (stores top xs) (record s.known.view { chain = chain_of top xs })

-- ---- tries, and a loop of them

-- the seat has made this many tries, which all lost, and is as before but for what it saw of the
-- head
abbrev pub HasLost : (Try → Type 0) → ℕ → Seated → Seated → Type 0
HasLost P k s t = (ts : List Try) × (look : Option Look) × (seen : ℕ) × (length ts ≡ k) × All P ts
    × (t ≡ tried_to s ts (seen_as s.known.view look seen))

-- what an answer says of the seat before and after
abbrev pub Ending : Type 1
Ending = Result (Unit {0}) Refusal → Seated → Seated → Type 0

-- one try: it won or was refused, for another cause than lost tries, and ended so; or it lost
abbrev pub IsOneTry : (Try → Type 0) → Ending → Tried → Seated → Seated → Type 0
IsOneTry P Ends tried.Won s t = Ends (Ok tt) s t
IsOneTry P Ends tried.Lost s t = HasLost P 1 s t
IsOneTry P Ends (tried.Refused cause) s t = (cause ≢ Contended) × Ends (Err cause) s t

-- fewer lost tries than are allowed, and one that ended so
abbrev pub EndsAfter : ℕ → (Try → Type 0) → (Seated → Seated → Type 0) → Seated → Seated → Type 0
EndsAfter tries P End s t =
    (k : ℕ) × (u : Seated) × (k < tries) × HasLost P k s u × End u t

-- a loop of tries, by its answer: one of them ended so, or all that are allowed lost
abbrev pub Repeats : ℕ → (Try → Type 0) → Ending → Ending
Repeats tries P Ends (Ok met) s t = EndsAfter tries P (Ends (Ok met)) s t
Repeats tries P Ends (Err Contended) s t = HasLost P tries s t
Repeats tries P Ends (Err cause) s t = EndsAfter tries P (Ends (Err cause)) s t

-- ---- how a try ends that didn't lose

-- a try to reserve n: a length of as many at least was read and is n less now, or one below n was
-- read
abbrev pub EndsReserve : ℕ → Ending
EndsReserve n (Ok _) s t =
    (v : ℕ) × (n ≤ v) × KnowsLength s.known v
    × (t ≡ after s (notes (Reserved n v)) (record s.known.view { credit = s.known.view.credit + n }))
EndsReserve n (Err NoEntries) s t =
    (v : ℕ) × (v < n) × KnowsLength s.known v × (t ≡ after s (notes (Short v)) s.known.view)
EndsReserve n (Err _) s t = ⊥

-- a try to cut n off: these came into the hand, or the head was spent
abbrev pub cut_as : List ℕ → View → Option Look → ℕ → View
cut_as xs v look seen =
    record (seen_as v look seen) { hand = v.hand ++ xs; credit = v.credit - length xs }

abbrev pub EndsCut : ℕ → List ℕ → Ending
EndsCut n xs (Ok _) s t =
    (x : Try) × (look : Option Look) × (seen : ℕ) × (length xs ≡ n) × IsWonCut xs x
    × (t ≡ after s (notes x) (cut_as xs s.known.view look seen))
EndsCut n xs (Err HeadSpent) s t =
    (x : Try) × (look : Option Look) × (seen : ℕ) × IsSpent x
    × (t ≡ after s (notes x) (seen_as s.known.view look seen)) × KnowsChanges s.known spent
EndsCut n xs (Err _) s t = ⊥

-- a try to push a list: it has left the hand, or the head was spent
abbrev pub push_as : List ℕ → View → Option Look → ℕ → View
push_as xs v look seen = record (seen_as v look seen) {
  hand = minus v.hand (reverse xs);
  credit = v.credit + length xs;
}

abbrev pub EndsPush : List ℕ → Ending
EndsPush xs (Ok _) s t =
    (x : Try) × (look : Option Look) × (seen : ℕ) × IsWonPush xs x
    × (t ≡ after s (notes x) (push_as xs s.known.view look seen))
EndsPush xs (Err HeadSpent) s t =
    (x : Try) × (look : Option Look) × (seen : ℕ) × IsSpent x
    × (t ≡ after s (notes x) (seen_as s.known.view look seen)) × KnowsChanges s.known spent
EndsPush xs (Err _) s t = ⊥

-- a try to raise a count: one below the reference limit was read and is one more now, or it was at
-- the limit
abbrev pub EndsRaise : Limits → ℕ → Ending
EndsRaise l i (Ok _) s t =
    (c : ℕ) × (c < l.ref_limit) × KnowsCount s.known i c
    × (t ≡ after s (notes (Raised i c)) (raised s.known.view i))
EndsRaise l i (Err RefSpent) s t =
    KnowsCount s.known i l.ref_limit
    × (t ≡ after s (notes (Counted i l.ref_limit)) s.known.view)
EndsRaise l i (Err _) s t = ⊥

-- ---- a whole call, by its answer

-- a get: its elements come into the hand
abbrev pub GetsOnWords : ℕ → ℕ → List ℕ → Result (Unit {0}) Refusal → Seated → Seated → Type 0
GetsOnWords tries n xs (Ok _) s t =
    (ts : List Try) × (look : Option Look) × (seen : ℕ) × IsGet tries n (Ok xs) ts
    × (t ≡ tried_to s ts (record (seen_as s.known.view look seen) {
      hand =
          s.known.view.hand ++ xs;
    }))
GetsOnWords tries n xs (Err cause) s t =
    (ts : List Try) × (look : Option Look) × (seen : ℕ) × IsGet tries n (Err cause) ts
    × (t ≡ tried_to s ts (seen_as s.known.view look seen))

-- the view of a put that succeeded: the elements have left the hand
abbrev pub put_as : List ℕ → View → Option Look → ℕ → View
put_as xs v look seen = record (seen_as v look seen) { hand = minus v.hand (reverse xs) }

abbrev pub PutsOnWords : ℕ → List ℕ → Result (Unit {0}) Refusal → Seated → Seated → Type 0
PutsOnWords tries xs (Ok met) s t =
    (ts : List Try) × (look : Option Look) × (seen : ℕ) × IsPut tries xs (Ok met) ts
    × (t ≡ tried_to s ts (put_as xs s.known.view look seen))
PutsOnWords tries xs (Err cause) s t =
    (ts : List Try) × (look : Option Look) × (seen : ℕ) × IsPut tries xs (Err cause) ts
    × (t ≡ tried_to s ts (seen_as s.known.view look seen))

-- ---- the counts

-- a raise, by its answer
abbrev pub Raises : Limits → ℕ → Result (Unit {0}) Refusal → Seated → Seated → Type 0
Raises l i (Ok met) s t =
    (ts : List Try) × (look : Option Look) × (seen : ℕ) × IsRaise l i (Ok met) ts
    × (t ≡ tried_to s ts (raised (seen_as s.known.view look seen) i))
Raises l i (Err cause) s t =
    (ts : List Try) × (look : Option Look) × (seen : ℕ) × IsRaise l i (Err cause) ts
    × (t ≡ tried_to s ts (seen_as s.known.view look seen))

-- a lower, by its answer: where the hold was the last, the element is in the hand
abbrev pub lowered_as : ℕ → Answer → View → View
lowered_as i Last v = freed v i
lowered_as i Still v = hold_ended v i false

abbrev pub Lowers : ℕ → Answer → Seated → Seated → Type 0
Lowers i answer s t =
    (x : Try) × IsLower i answer x × (t ≡ after s (notes x) (lowered_as i answer s.known.view))

-- ---- the desks

-- the view once it gave a packet away over a desk, and once it took one from there
abbrev pub offered_as : List Seg → View → View
offered_as p v = working (opened v p) None

abbrev pub taken_as : List Seg → View → View
taken_as p v = working (seized v p) None

-- an offer, by its answer
abbrev pub OffersOnWords : ℕ → List Seg → Result (Unit {0}) Refusal → Seated → Seated → Type 0
OffersOnWords d p (Ok _) s t =
    (d < s.known.limits.desks) × (t ≡ laid d (Some p) (after s (notes (Offered d p)) (offered_as p s.known.view)))
    × KnowsEmpty d s.known
OffersOnWords d p (Err NoSuchDesk) s t = (s.known.limits.desks ≤ d) × (t ≡ s)
OffersOnWords d p (Err DeskTaken) s t =
    (found : ℕ) × (d < s.known.limits.desks) × (found ≢ 0)
    × (t ≡ after s (notes (OfferFailed d found)) s.known.view) × KnowsFull d s.known
OffersOnWords d p (Err _) s t = ⊥

-- a take, by its answer
abbrev pub TakesOnWords : ℕ → Result (List Seg) Refusal → Seated → Seated → Type 0
TakesOnWords d (Ok p) s t =
    (d < s.known.limits.desks) × (t ≡ laid d None (after s (notes (Taken d p)) (taken_as p s.known.view)))
    × KnowsThere d p s.known
TakesOnWords d (Err NoSuchDesk) s t = (s.known.limits.desks ≤ d) × (t ≡ s)
TakesOnWords d (Err DeskEmpty) s t =
    (found : ℕ) × (d < s.known.limits.desks) × (found ≢ 2)
    × (t ≡ after s (notes (TakeFailed d found)) s.known.view) × KnowsEmpty d s.known
TakesOnWords d (Err _) s t = ⊥
