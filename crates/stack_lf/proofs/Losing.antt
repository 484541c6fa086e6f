-- An exchange that lost found another value than the try had read.
use Rattle.std.proofs.Common.{◌≡◌, ℕ, ◌<◌, ◌≤◌, ⊎_elim, List, [], ◌∷◌, ◌++◌, length, All, sym, subst, arith}
use Rattle.std.specs.Prelude.{Result, Ok, Err}
use Rattle.std.proofs.lemmas.List.Elements.{All-append, All-cons}
use Rattle.commons.specs.Calls.{Call, GetList, PutList, Claim, CountOf, Raise, Lower, Offer, Take, CommonCount}
use Rattle.commons.specs.declared.limits.Limits.{Limits}
use Rattle.commons.specs.declared.packet.Seg.{Seg}
use Rattle.commons.specs.declared.refusal.Refusal.{Refusal}
use Rattle.commons.specs.declared.refusal.Refusal.TheVariants.{NoEntries, Contended, HeadSpent, RefSpent, NoSuchDesk, DeskTaken, DeskEmpty}
use Rattle.commons.specs.declared.refusal.Lowered.{Lowered as Answer}
use Rattle.commons.specs.declared.refusal.Lowered.TheVariants.{Last, Still}
use Rattle.step_core.specs.declared.view.Head.{Head}
use Rattle.stack_lf.specs.Tries.{Try, Walk, IsWalk, Short, ReserveFailed, Reserved, Stopped, Ended, PopFailed, Popped, PushFailed, Pushed, Added, Claimed, Counted, RaiseFailed, Raised, Freed, Lowered, LoweredToLast, IsLostRaise, IsRaise, IsLower, IsLostReserve, IsLostCut, IsWonCut, IsLostPush, IsWonPush, IsSpent, IsGet, IsPut, OfferFailed, Offered, TakeFailed, Taken, IsOffer, IsTake, IsOfCall}
use Rattle.stack_lf.specs.Notes.{LostToAnother}

by_eq : (x y : Try) → x ≡ y → LostToAnother y → LostToAnother x
by_eq x y e h = subst LostToAnother (sym e) h

-- what is so of each of some tries is so of all of them
each : (P : Try → Type 0) (ts : List Try) → ((x : Try) → P x → LostToAnother x) → All P ts →
    All LostToAnother ts
each P ts f h = λ k d l. f _ (h k d l)

of_miss : (n : ℕ) (x : Try) → IsLostReserve n x → LostToAnother x
of_miss n x h = by_eq x (ReserveFailed n h.0 h.1) h.4 h.3

-- a cut that lost ended its walk early, without an exchange, or found a later head
of_lost_cut : (n : ℕ) (x : Try) → IsLostCut n x → LostToAnother x
of_lost_cut n x h = ⊎_elim
    (λ (a : (k : Head) × (ps : Walk) × (length ps < n) × IsWalk k.top ps 0 × (x ≡ Ended k ps)).
    by_eq x (Ended a.0 a.1) a.4 tt)
    (λ (b : (k found : Head) × (ps : Walk) × (u : ℕ) × (length ps ≡ n)
    × (k.count < found.count) × IsWalk k.top ps u × (x ≡ PopFailed k ps found)).
    by_eq x (PopFailed b.0 b.2 b.1) b.7 b.5)
    h

of_won_cut : (xs : List ℕ) (x : Try) → IsWonCut xs x → LostToAnother x
of_won_cut xs x h = by_eq x (Popped h.0 h.1) h.6 tt

of_lost_push : (xs : List ℕ) (x : Try) → IsLostPush xs x → LostToAnother x
of_lost_push xs x h = by_eq x (PushFailed h.0 xs h.1) h.3 h.2

of_won_push : (xs : List ℕ) (x : Try) → IsWonPush xs x → LostToAnother x
of_won_push xs x h = by_eq x (Pushed h.0 xs) h.2 tt

of_spent : (x : Try) → IsSpent x → LostToAnother x
of_spent x h = by_eq x (Stopped h.0) h.2 tt

none : All LostToAnother []
none = λ k d l. absurd (omega arith)

-- tries, one more, and others
with_one : (front back : List Try) (x : Try) → All LostToAnother front → LostToAnother x →
    All LostToAnother back → All LostToAnother (front ++ x ∷ back)
with_one front back x h one more =
    All-append LostToAnother front (x ∷ back) h (All-cons LostToAnother x back one more)

of_all : (ts us : List Try) → ts ≡ us → All LostToAnother us → All LostToAnother ts
of_all ts us e h = subst (λ (l : List Try). All LostToAnother l) (sym e) h

-- of a get's tries, by its answer, those that lost are reservations and cuts
get_lost : (tries n : ℕ) (answer : Result (List ℕ) Refusal) (ts : List Try) →
    IsGet tries n answer ts → All LostToAnother ts
get_lost tries n (Ok xs) ts d =
    let misses : List Try = d.0 in
    let cuts : List Try = d.1 in
    let x : Try = d.3 in
    of_all ts (misses ++ Reserved n d.2 ∷ (cuts ++ x ∷ [])) d.11
    (with_one misses (cuts ++ x ∷ []) (Reserved n d.2) (each (IsLostReserve n) misses (of_miss n) d.5) tt
    (with_one cuts [] x (each (IsLostCut n) cuts (of_lost_cut n) d.8) (of_won_cut xs x d.10) none))
get_lost tries n (Err NoEntries) ts d =
    let misses : List Try = d.0 in
    of_all ts (misses ++ Short d.1 ∷ []) d.5
    (with_one misses [] (Short d.1) (each (IsLostReserve n) misses (of_miss n) d.3) tt none)
get_lost tries n (Err HeadSpent) ts d =
    let misses : List Try = d.0 in
    let cuts : List Try = d.1 in
    let x : Try = d.3 in
    of_all ts (misses ++ Reserved n d.2 ∷ (cuts ++ x ∷ Added n ∷ [])) d.10
    (with_one misses (cuts ++ x ∷ Added n ∷ []) (Reserved n d.2)
    (each (IsLostReserve n) misses (of_miss n) d.5) tt
    (with_one cuts (Added n ∷ []) x (each (IsLostCut n) cuts (of_lost_cut n) d.8)
    (of_spent x d.9) (with_one [] [] (Added n) none tt none)))
get_lost tries n (Err Contended) ts d = ⊎_elim
    (λ (a : (length ts ≡ tries) × All (IsLostReserve n) ts). each (IsLostReserve n) ts (of_miss n) a.1)
    (λ (b : (misses cuts : List Try) × (v : ℕ)
    × (length misses < tries) × All (IsLostReserve n) misses × (n ≤ v)
    × (length cuts ≡ tries) × All (IsLostCut n) cuts
    × (ts ≡ misses ++ Reserved n v ∷ (cuts ++ Added n ∷ []))).
    let misses : List Try = b.0 in
    let cuts : List Try = b.1 in
    of_all ts (misses ++ Reserved n b.2 ∷ (cuts ++ Added n ∷ [])) b.8
    (with_one misses (cuts ++ Added n ∷ []) (Reserved n b.2)
    (each (IsLostReserve n) misses (of_miss n) b.4) tt
    (with_one cuts [] (Added n) (each (IsLostCut n) cuts (of_lost_cut n) b.7) tt none)))
    d
get_lost tries n (Err _) ts d = absurd d

-- of a put's, pushes
put_lost : (tries : ℕ) (xs : List ℕ) (answer : Result (Unit {0}) Refusal) (ts : List Try) →
    IsPut tries xs answer ts → All LostToAnother ts
put_lost tries xs (Ok _) ts d =
    of_all ts (d.0 ++ d.1 ∷ Added (length xs) ∷ []) d.5
    (with_one d.0 (Added (length xs) ∷ []) d.1 (each (IsLostPush xs) d.0 (of_lost_push xs) d.3)
    (of_won_push xs d.1 d.4) (with_one [] [] (Added (length xs)) none tt none))
put_lost tries xs (Err HeadSpent) ts d =
    of_all ts (d.0 ++ d.1 ∷ []) d.5
    (with_one d.0 [] d.1 (each (IsLostPush xs) d.0 (of_lost_push xs) d.3) (of_spent d.1 d.4) none)
put_lost tries xs (Err Contended) ts d = each (IsLostPush xs) ts (of_lost_push xs) d.1
put_lost tries xs (Err _) ts d = absurd d

of_lost_raise : (l : Limits) (i : ℕ) (x : Try) → IsLostRaise l i x → LostToAnother x
of_lost_raise l i x h = by_eq x (RaiseFailed i h.0 h.1) h.4 h.3

alone : (x : Try) → LostToAnother x → All LostToAnother (x ∷ [])
alone x h = with_one [] [] x none h none

-- of a raise's, raises of the count
raise_lost : (l : Limits) (i : ℕ) (answer : Result (Unit {0}) Refusal) (ts : List Try) →
    IsRaise l i answer ts → All LostToAnother ts
raise_lost l i (Ok _) ts d =
    of_all ts (d.0 ++ Raised i d.1 ∷ []) d.5
    (with_one d.0 [] (Raised i d.1) (each (IsLostRaise l i) d.0 (of_lost_raise l i) d.3) tt none)
raise_lost l i (Err RefSpent) ts d =
    of_all ts (d.0 ++ Counted i l.ref_limit ∷ []) d.3
    (with_one d.0 [] (Counted i l.ref_limit) (each (IsLostRaise l i) d.0 (of_lost_raise l i) d.2) tt none)
raise_lost l i (Err Contended) ts d = each (IsLostRaise l i) ts (of_lost_raise l i) d.1
raise_lost l i (Err _) ts d = absurd d

-- the one try of a lower loses nothing
of_lower : (i : ℕ) (answer : Answer) (x : Try) → IsLower i answer x → LostToAnother x
of_lower i Last x d = ⊎_elim
    (λ (a : x ≡ Freed i). by_eq x (Freed i) a tt)
    (λ (b : (c : ℕ) × (1 < c) × (x ≡ LoweredToLast i c)). by_eq x (LoweredToLast i b.0) b.2 tt) d
of_lower i Still x d = by_eq x (Lowered i d.0 d.1) d.4 tt

-- nor does that of an offer
of_offer : (l : Limits) (d : ℕ) (p : List Seg) (answer : Result (Unit {0}) Refusal) (ts : List Try) →
    IsOffer l d p answer ts → All LostToAnother ts
of_offer l d p (Ok _) ts h = of_all ts (Offered d p ∷ []) h.1 (alone (Offered d p) tt)
of_offer l d p (Err NoSuchDesk) ts h = of_all ts [] h.1 none
of_offer l d p (Err DeskTaken) ts h = of_all ts (OfferFailed d h.0 ∷ []) h.3 (alone (OfferFailed d h.0) tt)
of_offer l d p (Err _) ts h = absurd h

-- nor that of a take
of_take : (l : Limits) (d : ℕ) (answer : Result (List Seg) Refusal) (ts : List Try) →
    IsTake l d answer ts → All LostToAnother ts
of_take l d (Ok p) ts h = of_all ts (Taken d p ∷ []) h.1 (alone (Taken d p) tt)
of_take l d (Err NoSuchDesk) ts h = of_all ts [] h.1 none
of_take l d (Err DeskEmpty) ts h = of_all ts (TakeFailed d h.0 ∷ []) h.3 (alone (TakeFailed d h.0) tt)
of_take l d (Err _) ts h = absurd h

-- of no call has a try lost to the value that it had read
pub changes : (l : Limits) (call : Call) (ts : List Try) → IsOfCall l call ts →
    All LostToAnother ts
changes l (GetList n answer) ts d = get_lost l.tries n answer ts d
changes l (PutList xs answer) ts d = put_lost l.tries xs answer ts d
changes l (Claim i) ts d = of_all ts (Claimed i ∷ []) d (alone (Claimed i) tt)
changes l (CountOf i n) ts d = of_all ts (Counted i n ∷ []) d (alone (Counted i n) tt)
changes l (Raise i answer) ts d = raise_lost l i answer ts d
changes l (Lower i answer) ts d =
    of_all ts (d.0 ∷ []) d.2 (alone d.0 (of_lower i answer d.0 d.1))
changes l (Offer e packet answer) ts d = of_offer l e packet answer ts d
changes l (Take e answer) ts d = of_take l e answer ts d
changes l (CommonCount n) ts d = of_all ts (Short n ∷ []) d (alone (Short n) tt)
