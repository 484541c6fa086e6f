-- What the tries of a call read is the cause of its answer.
use Rattle.std.proofs.Common.{◌≡◌, ◌≢◌, ℕ, suc, ◌+◌, ◌<◌, ◌≤◌, ⊎_elim, cond, List, [], ◌∷◌, ◌++◌, length, All, refl, sym, ap, ◌∙◌, subst, arith, append_assoc}
use Rattle.std.specs.Prelude.{Result, Ok, Err, Option, Some, None, count_by, ◌==◌}
use Rattle.std.proofs.lemmas.Bool.{cond-true, eq-eqb}
use Rattle.std.proofs.lemmas.List.Concat.{flat_map-append}
use Rattle.std.proofs.lemmas.List.Sums.{sum_by-append}
use Rattle.commons.specs.Calls.{Reading, is_lost, HasCause, later, last_in, length_in, head_in, count_in, desk_in, last_length, last_head, last_count, last_desk, IsBelow, IsAbove, IsOther, Count, Desk, Call, GetList, PutList, Claim, CountOf, Raise, Lower, Offer, Take, CommonCount, spent}
use Rattle.commons.specs.declared.limits.Limits.{Limits}
use Rattle.commons.specs.declared.refusal.Refusal.{Refusal}
use Rattle.commons.specs.declared.refusal.Refusal.TheVariants.{NoEntries, Contended, HeadSpent, RefSpent, NoSuchDesk, DeskTaken, DeskEmpty}
use Rattle.commons.specs.declared.refusal.Lowered.{Lowered as Answer}
use Rattle.commons.specs.declared.refusal.Lowered.TheVariants.{Last, Still}
use Rattle.commons.specs.declared.packet.Seg.{Seg}
use Rattle.step_core.specs.declared.view.Head.{Head}
use Rattle.stack_lf.specs.Tries.{Try, Short, Reserved, Added, Counted, Raised, Freed, Lowered, LoweredToLast, IsLostRaise, IsRaise, IsLower, reads, readings_of, Walk, IsWalk, Ended, PopFailed, IsLostReserve, IsLostCut, IsWonCut, IsLostPush, IsWonPush, IsSpent, IsGet, IsPut, OfferFailed, Offered, TakeFailed, Taken, IsOffer, IsTake, IsOfCall}

-- the losses of readings one after another are those of both
losses-append : (xs ys : List Reading) →
    count_by is_lost (xs ++ ys) ≡ count_by is_lost xs + count_by is_lost ys
losses-append xs ys = sum_by-append (λ r. cond (is_lost r) 1 0) xs ys

pub all_tail : (P : Try → Type 0) (x : Try) (ts : List Try) → All P (x ∷ ts) → All P ts
all_tail P x ts h = λ k d l. h (suc k) d (omega arith)

-- where each try reads a loss, there are as many losses as tries
each_lost : (P : Try → Type 0) (ts : List Try) →
    ((x : Try) → P x → 1 ≤ count_by is_lost (reads x)) → All P ts →
    length ts ≤ count_by is_lost (readings_of ts)
each_lost P [] f h = omega arith
each_lost P (x ∷ ts) f h =
    let one = f x (h 0 x (omega arith)) in
    let more = each_lost P ts f (all_tail P x ts h) in
    omega (arith, losses-append (reads x) (readings_of ts))

-- a loss within
losses_within : (front bs : List Try) →
    count_by is_lost (readings_of bs) ≤ count_by is_lost (readings_of (front ++ bs))
losses_within front bs =
    let e = ap (λ (l : List Reading). count_by is_lost l) (flat_map-append reads front bs) in
    omega (arith, losses-append (readings_of front) (readings_of bs))

-- and a loss before others
losses_before : (front bs : List Try) →
    count_by is_lost (readings_of front) ≤ count_by is_lost (readings_of (front ++ bs))
losses_before front bs =
    let e = ap (λ (l : List Reading). count_by is_lost l) (flat_map-append reads front bs) in
    omega (arith, losses-append (readings_of front) (readings_of bs))

-- a try that is another has a loss where that has one
one_loss : (x y : Try) → x ≡ y → 1 ≤ count_by is_lost (reads y) →
    1 ≤ count_by is_lost (reads x)
one_loss x y e h = subst (λ (t : Try). 1 ≤ count_by is_lost (reads t)) (sym e) h

miss_lost : (n : ℕ) (x : Try) → IsLostReserve n x → 1 ≤ count_by is_lost (reads x)
miss_lost n x h = one_loss x _ h.4 (omega arith)

-- a cut that lost reads a loss, whether its walk ended early or its exchange lost
cut_lost_read : (n : ℕ) (x : Try) → IsLostCut n x → 1 ≤ count_by is_lost (reads x)
cut_lost_read n x h = ⊎_elim
    (λ (a : (k : Head) × (ps : Walk) × (length ps < n) × IsWalk k.top ps 0 × (x ≡ Ended k ps)).
    one_loss x _ a.4 (omega arith))
    (λ (b : (k found : Head) × (ps : Walk) × (u : ℕ) × (length ps ≡ n)
    × (k.count < found.count) × IsWalk k.top ps u × (x ≡ PopFailed k ps found)).
    one_loss x _ b.7 (omega arith))
    h

push_lost_read : (xs : List ℕ) (x : Try) → IsLostPush xs x → 1 ≤ count_by is_lost (reads x)
push_lost_read xs x h = one_loss x _ h.3 (omega arith)

-- what was read last by the end of a list was read last by the whole
kind_after : (f : Reading → Option ℕ) (n : ℕ) (xs ys : List Reading) →
    last_in f ys ≡ Some n → last_in f (xs ++ ys) ≡ Some n
kind_after f n [] ys h = h
kind_after f n (x ∷ xs) ys h =
    ap (λ (o : Option ℕ). later (f x) o) (kind_after f n xs ys h)

-- and so by the tries
kind_of : (f : Reading → Option ℕ) (n : ℕ) (ts front back : List Try) → ts ≡ front ++ back →
    last_in f (readings_of back) ≡ Some n → last_in f (readings_of ts) ≡ Some n
kind_of f n ts front back e h =
    subst (λ (l : List Try). last_in f (readings_of l) ≡ Some n) (sym e)
    (subst (λ (l : List Reading). last_in f l ≡ Some n) (sym (flat_map-append reads front back))
    (kind_after f n (readings_of front) (readings_of back) h))

-- the head that a try read last, before tries that read none
head_read : (h : Head) (x y : Try) (back : List Try) → x ≡ y →
    last_head (readings_of (y ∷ back)) ≡ Some h.count →
    last_head (readings_of (x ∷ back)) ≡ Some h.count
head_read h x y back e d =
    subst (λ (t : Try). last_head (readings_of (t ∷ back)) ≡ Some h.count) (sym e) d

-- a value that was read, and is below another
below : (n c : ℕ) (o : Option ℕ) → o ≡ Some c → c < n → IsBelow n o
below n c o e h = subst (λ (z : Option ℕ). IsBelow n z) (sym e) h

-- A get: the head of its won cut was not spent; a length below n was read; the spent count was
-- read; or as many tries lost as are allowed.
pub cause_get : (l : Limits) (n : ℕ) (answer : Result (List ℕ) Refusal) (ts : List Try) →
    IsGet l.tries n answer ts → HasCause l (GetList n answer) (readings_of ts)
cause_get l n (Ok xs) ts d =
    let misses : List Try = d.0 in
    let cuts : List Try = d.1 in
    let x : Try = d.3 in
    let won : IsWonCut xs x = d.10 in
    let all : ts ≡ (misses ++ Reserved n d.2 ∷ cuts) ++ x ∷ [] =
    d.11 ∙ sym (append_assoc misses (Reserved n d.2 ∷ cuts) (x ∷ [])) in (
      d.9,
      below spent won.0.count (last_head (readings_of ts))
          (kind_of head_in won.0.count ts (misses ++ Reserved n d.2 ∷ cuts) (x ∷ []) all
          (head_read won.0 x _ [] won.6 refl))
          won.4,
    )
cause_get l n (Err NoEntries) ts d =
    below n d.1 (last_length (readings_of ts))
    (kind_of length_in d.1 ts d.0 (Short d.1 ∷ []) d.5 refl) d.4
cause_get l n (Err HeadSpent) ts d =
    let misses : List Try = d.0 in
    let cuts : List Try = d.1 in
    let x : Try = d.3 in
    let stop : IsSpent x = d.9 in
    let all : ts ≡ (misses ++ Reserved n d.2 ∷ cuts) ++ x ∷ Added n ∷ [] =
    d.10 ∙ sym (append_assoc misses (Reserved n d.2 ∷ cuts) (x ∷ Added n ∷ [])) in
    kind_of head_in spent ts (misses ++ Reserved n d.2 ∷ cuts) (x ∷ Added n ∷ []) all
    (head_read stop.0 x _ (Added n ∷ []) stop.2 refl ∙ ap Some stop.1)
cause_get l n (Err Contended) ts d = ⊎_elim
    (λ (a : (length ts ≡ l.tries) × All (IsLostReserve n) ts).
    let more = each_lost (IsLostReserve n) ts (miss_lost n) a.1 in
    let len = a.0 in
    omega arith)
    (λ (b : (misses cuts : List Try) × (v : ℕ)
    × (length misses < l.tries) × All (IsLostReserve n) misses × (n ≤ v)
    × (length cuts ≡ l.tries) × All (IsLostCut n) cuts
    × (ts ≡ misses ++ Reserved n v ∷ (cuts ++ Added n ∷ []))).
    let misses : List Try = b.0 in
    let cuts : List Try = b.1 in
    let more = each_lost (IsLostCut n) cuts (cut_lost_read n) b.7 in
    let len = b.6 in
    let all : ts ≡ (misses ++ Reserved n b.2 ∷ []) ++ (cuts ++ Added n ∷ []) =
    b.8 ∙ sym (append_assoc misses (Reserved n b.2 ∷ []) (cuts ++ Added n ∷ [])) in
    let e = ap (λ (z : List Try). count_by is_lost (readings_of z)) all in
    omega (
      arith,
      losses_within (misses ++ Reserved n b.2 ∷ []) (cuts ++ Added n ∷ []),
      losses_before cuts (Added n ∷ []),
    ))
    d
cause_get l n (Err _) ts d = d

-- a put: the head of its won push was not spent, the spent count was read, or all its tries lost
pub cause_put : (l : Limits) (xs : List ℕ) (answer : Result (Unit {0}) Refusal) (ts : List Try) →
    IsPut l.tries xs answer ts → HasCause l (PutList xs answer) (readings_of ts)
cause_put l xs (Ok _) ts d =
    let won : IsWonPush xs d.1 = d.4 in
    below spent won.0.count (last_head (readings_of ts))
    (kind_of head_in won.0.count ts d.0 (d.1 ∷ Added (length xs) ∷ []) d.5
    (head_read won.0 d.1 _ (Added (length xs) ∷ []) won.2 refl))
    won.1
cause_put l xs (Err HeadSpent) ts d =
    let stop : IsSpent d.1 = d.4 in
    kind_of head_in spent ts d.0 (d.1 ∷ []) d.5
    (head_read stop.0 d.1 _ [] stop.2 refl ∙ ap Some stop.1)
cause_put l xs (Err Contended) ts d =
    let more = each_lost (IsLostPush xs) ts (push_lost_read xs) d.1 in
    let len = d.0 in
    omega arith
cause_put l xs (Err _) ts d = d

-- ---- the counts

raise_lost_read : (l : Limits) (i : ℕ) (x : Try) → IsLostRaise l i x → 1 ≤ count_by is_lost (reads x)
raise_lost_read l i x h = one_loss x _ h.4 (omega arith)

-- a count that was read is found among the readings
count_read : (i n : ℕ) → last_in (count_in i) (Count i n ∷ []) ≡ Some n
count_read i n = cond-true (i == i) (Some n) None (eq-eqb i i refl)

-- what one try read last
by_try : (i n : ℕ) (x y : Try) → x ≡ y → last_in (count_in i) (readings_of (y ∷ [])) ≡ Some n →
    last_in (count_in i) (readings_of (x ∷ [])) ≡ Some n
by_try i n x y e h = subst (λ (t : Try). last_in (count_in i) (readings_of (t ∷ [])) ≡ Some n) (sym e) h

-- a raise: a count below the limit was read last, the limit itself, or all its tries lost
pub cause_raise : (l : Limits) (i : ℕ) (answer : Result (Unit {0}) Refusal) (ts : List Try) →
    IsRaise l i answer ts → HasCause l (Raise i answer) (readings_of ts)
cause_raise l i (Ok _) ts d =
    below l.ref_limit d.1 (last_count i (readings_of ts))
    (kind_of (count_in i) d.1 ts d.0 (Raised i d.1 ∷ []) d.5 (count_read i d.1)) d.4
cause_raise l i (Err RefSpent) ts d =
    kind_of (count_in i) l.ref_limit ts d.0 (Counted i l.ref_limit ∷ []) d.3 (count_read i l.ref_limit)
cause_raise l i (Err Contended) ts d =
    let more = each_lost (IsLostRaise l i) ts (raise_lost_read l i) d.1 in
    let len = d.0 in
    omega arith
cause_raise l i (Err _) ts d = d

above : (n c : ℕ) (o : Option ℕ) → o ≡ Some c → n < c → IsAbove n o
above n c o e h = subst (λ (z : Option ℕ). IsAbove n z) (sym e) h

-- a lower: the last count that was read is 1, or above it
pub cause_lower : (l : Limits) (i : ℕ) (answer : Answer) (x : Try) → IsLower i answer x →
    HasCause l (Lower i answer) (readings_of (x ∷ []))
cause_lower l i Last x d = ⊎_elim
    (λ (a : x ≡ Freed i). by_try i 1 x (Freed i) a (count_read i 1))
    (λ (b : (c : ℕ) × (1 < c) × (x ≡ LoweredToLast i c)).
    by_try i 1 x (LoweredToLast i b.0) b.2
    (kind_after (count_in i) 1 (Count i b.0 ∷ []) (Count i 1 ∷ []) (count_read i 1)))
    d
cause_lower l i Still x d =
    above 1 d.1 (last_count i (readings_of (x ∷ [])))
    (by_try i d.1 x (Lowered i d.0 d.1) d.4
    (kind_after (count_in i) d.1 (Count i d.0 ∷ []) (Count i d.1 ∷ []) (count_read i d.1))) d.3

-- a desk's word that was read is found among the readings
desk_read : (d n : ℕ) → last_in (desk_in d) (Desk d n ∷ []) ≡ Some n
desk_read d n = cond-true (d == d) (Some n) None (eq-eqb d d refl)

another : (n found : ℕ) (o : Option ℕ) → o ≡ Some found → found ≢ n → IsOther n o
another n found o e h = subst (λ (z : Option ℕ). IsOther n z) (sym e) h

-- an offer: the pool has no such desk, or the desk's word was read, which was 0 or another
cause_offer : (l : Limits) (d : ℕ) (p : List Seg) (answer : Result (Unit {0}) Refusal) (ts : List Try) →
    IsOffer l d p answer ts → HasCause l (Offer d p answer) (readings_of ts)
cause_offer l d p (Ok _) ts h =
    (h.0, kind_of (desk_in d) 0 ts [] (Offered d p ∷ []) h.1 (desk_read d 0))
cause_offer l d p (Err NoSuchDesk) ts h = h.0
cause_offer l d p (Err DeskTaken) ts h = (
  h.1,
  another 0 h.0 (last_desk d (readings_of ts))
      (kind_of (desk_in d) h.0 ts [] (OfferFailed d h.0 ∷ []) h.3 (desk_read d h.0)) h.2,
)
cause_offer l d p (Err _) ts h = absurd h

-- a take: the pool has no such desk, or the desk's word was read, which was 2 or another
cause_take : (l : Limits) (d : ℕ) (answer : Result (List Seg) Refusal) (ts : List Try) →
    IsTake l d answer ts → HasCause l (Take d answer) (readings_of ts)
cause_take l d (Ok p) ts h =
    (h.0, kind_of (desk_in d) 2 ts [] (Taken d p ∷ []) h.1 (desk_read d 2))
cause_take l d (Err NoSuchDesk) ts h = h.0
cause_take l d (Err DeskEmpty) ts h = (
  h.1,
  another 2 h.0 (last_desk d (readings_of ts))
      (kind_of (desk_in d) h.0 ts [] (TakeFailed d h.0 ∷ []) h.3 (desk_read d h.0)) h.2,
)
cause_take l d (Err _) ts h = absurd h

-- of each call, what its tries read last of its kind is the cause of its answer
pub causes : (l : Limits) (call : Call) (ts : List Try) → IsOfCall l call ts →
    HasCause l call (readings_of ts)
causes l (GetList n answer) ts d = cause_get l n answer ts d
causes l (PutList xs answer) ts d = cause_put l xs answer ts d
causes l (Claim i) ts d = tt
causes l (CountOf i n) ts d = kind_of (count_in i) n ts [] (Counted i n ∷ []) d (count_read i n)
causes l (Raise i answer) ts d = cause_raise l i answer ts d
causes l (Lower i answer) ts d =
    subst (λ (z : List Try). HasCause l (Lower i answer) (readings_of z)) (sym d.2)
    (cause_lower l i answer d.0 d.1)
causes l (Offer e packet answer) ts d = cause_offer l e packet answer ts d
causes l (Take e answer) ts d = cause_take l e answer ts d
causes l (CommonCount n) ts d = kind_of length_in n ts [] (Short n ∷ []) d refl
