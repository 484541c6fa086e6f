-- The number of steps of a call.
use Rattle.std.proofs.Common.{◌≡◌, ℕ, zero, suc, ◌+◌, ◌*◌, ◌<◌, ◌≤◌, ⊎_elim, List, [], ◌∷◌, ◌++◌, length, map, All, refl, sym, ap, ◌∙◌, subst, arith}
use Rattle.std.specs.Prelude.{Result, Ok, Err}
use Rattle.std.proofs.lemmas.List.{length-append, length-map}
use Rattle.std.proofs.Math.Nat.{mul-le-mul_right, suc-mul}
use Rattle.commons.specs.Calls.{Call, GetList, PutList, Claim, CountOf, Raise, Lower, Offer, Take, CommonCount}
use Rattle.commons.specs.declared.limits.Limits.{Limits}
use Rattle.commons.specs.declared.packet.Seg.{Seg}
use Rattle.commons.specs.declared.refusal.Refusal.{Refusal}
use Rattle.commons.specs.declared.refusal.Refusal.TheVariants.{NoEntries, Contended, HeadSpent, RefSpent, NoSuchDesk, DeskTaken, DeskEmpty}
use Rattle.commons.specs.declared.refusal.Lowered.{Lowered as Answer}
use Rattle.commons.specs.declared.refusal.Lowered.TheVariants.{Last, Still}
use Rattle.step_core.specs.declared.view.Head.{Head}
use Rattle.step_core.specs.declared.step.Step.TheVariants.{Cut as CutStep, Push as PushStep}
use Rattle.step_core.specs.declared.step.Outcome.TheVariants.{LostTo, Won, Got}
use Rattle.ground.specs.Seats.{Note}
use Rattle.stack_lf.specs.Tries.{Try, Walk, IsWalk, Claimed, Counted, Raised, Freed, Lowered, LoweredToLast, IsLostRaise, IsRaise, IsLower, Short, Reserved, Added, Ended, PopFailed, link_note, elements, element_in, stores, notes, notes_of, IsLostReserve, IsLostCut, IsWonCut, IsLostPush, IsWonPush, IsSpent, IsGet, IsPut, OfferFailed, Offered, TakeFailed, Taken, IsOffer, IsTake, IsOfCall}
use Rattle.stack_lf.specs.Bounds.{most_steps}
use Rattle.stack_lf.proofs.Composing.{notes_of-append}
use Rattle.stack_lf.proofs.Reading.{all_tail}

-- the steps of tries one after another are those of both
steps-append : (xs ys : List Try) → length (notes_of (xs ++ ys))
    ≡ length (notes_of xs) + length (notes_of ys)
steps-append xs ys = ap (λ (l : List Note). length l) (notes_of-append xs ys)
    ∙ length-append (notes_of xs) (notes_of ys)

-- and of one try before others
steps-cons : (x : Try) (ys : List Try) →
    length (notes_of (x ∷ ys)) ≡ length (notes x) + length (notes_of ys)
steps-cons x ys = length-append (notes x) (notes_of ys)

-- this many tries of this many steps each
each_bounded : (P : Try → Type 0) (m : ℕ) (ts : List Try) →
    ((x : Try) → P x → length (notes x) ≤ m) → All P ts → length (notes_of ts) ≤ length ts * m
each_bounded P m [] f h = omega arith
each_bounded P m (x ∷ ts) f h =
    let one = f x (h 0 x (omega arith)) in
    let more = each_bounded P m ts f (all_tail P x ts h) in
    let e : length (x ∷ ts) ≡ suc (length ts) = refl in
    let p : length (x ∷ ts) * m ≡ length ts * m + m = suc-mul (length ts) m in
    omega (arith, steps-cons x ts)

-- fewer tries than there may be, with one more
times_less : (k tries m : ℕ) → k < tries → k * m + m ≤ tries * m
times_less k tries m h = let a : suc k * m ≤ tries * m = mul-le-mul_right m h in
    omega (arith, suc-mul k m)

by_eq : (x y : Try) (m : ℕ) → x ≡ y → length (notes y) ≤ m → length (notes x) ≤ m
by_eq x y m e h = subst (λ (t : Try). length (notes t) ≤ m) (sym e) h

miss_steps : (n : ℕ) (x : Try) → IsLostReserve n x → length (notes x) ≤ 2
miss_steps n x h = by_eq x _ 2 h.4 (omega arith)

one_end : (l : List Note) (x : Note) → length (l ++ x ∷ []) ≡ length l + 1
one_end l x = length-append l (x ∷ [])

links : (ps : Walk) → length (map link_note ps) ≡ length ps
links ps = length-map ps link_note

-- a cut that lost reads the head and n links at most, and exchanges the head once at most
lost_cut_steps : (n : ℕ) (x : Try) → IsLostCut n x → length (notes x) ≤ n + 2
lost_cut_steps n x h = ⊎_elim
    (λ (a : (k : Head) × (ps : Walk) × (length ps < n) × IsWalk k.top ps 0 × (x ≡ Ended k ps)).
    by_eq x _ (n + 2) a.4 (let len = a.2 in omega (arith, links a.1)))
    (λ (b : (k found : Head) × (ps : Walk) × (u : ℕ) × (length ps ≡ n) × (k.count < found.count)
    × IsWalk k.top ps u × (x ≡ PopFailed k ps found)).
    by_eq x _ (n + 2) b.7 (let len = b.4 in
    omega (arith, links b.2, one_end (map link_note b.2) (CutStep, LostTo b.1))))
    h

-- a list has as many links to store as it has elements
stored : (v : ℕ) (xs : List ℕ) → length (stores v xs) ≡ length xs
stored v [] = refl
stored v (x ∷ xs) = ap suc (stored (suc x) xs)

-- a cut that won reads the head and a link for each element, and exchanges the head once
won_cut_steps : (xs : List ℕ) (x : Try) → IsWonCut xs x → length (notes x) ≤ length xs + 2
won_cut_steps xs x h = by_eq x _ (length xs + 2) h.6 (let e = ap (λ (l : List ℕ). length l) h.3 in
    omega (
      arith,
      e,
      length-map h.1 element_in,
      links h.1,
      one_end (map link_note h.1)
          (CutStep, Got (elements h.1)),
    ))

-- a push that lost reads the head, stores a link for each element, and exchanges the head once
lost_push_steps : (xs : List ℕ) (x : Try) → IsLostPush xs x → length (notes x) ≤ length xs + 2
lost_push_steps xs x h = by_eq x _ (length xs + 2) h.3 (let k = h.0 in
    omega (arith, stored k.top xs, one_end (stores k.top xs) (PushStep, LostTo h.1)))

-- and so does one that won
won_push_steps : (xs : List ℕ) (x : Try) → IsWonPush xs x → length (notes x) ≤ length xs + 2
won_push_steps xs x h = by_eq x _ (length xs + 2) h.2 (let k = h.0 in
    omega (arith, stored k.top xs, one_end (stores k.top xs) (PushStep, Won)))

spent_steps : (x : Try) → IsSpent x → length (notes x) ≤ 1
spent_steps x h = by_eq x _ 1 h.2 (omega arith)

-- tries of n + 4 steps are as many of n + 2 and of two
split_times : (t n : ℕ) → t * (n + 4) ≡ t * (n + 2) + t * 2
split_times zero n = omega arith
split_times (suc t) n = omega (arith, split_times t n, suc-mul t (n + 4), suc-mul t (n + 2))

size : List Try → ℕ
size ts = length (notes_of ts)

-- A get: its reservations take two steps each, its cuts n + 2, and what it gives back one. By its
-- answer it has fewer of either than are allowed, and a last one, or as many.
get_bounded : (l : Limits) (n : ℕ) (answer : Result (List ℕ) Refusal) (ts : List Try) →
    IsGet l.tries n answer ts → length (notes_of ts) ≤ l.tries * (n + 4) + 1
get_bounded l n (Ok xs) ts d =
    let misses : List Try = d.0 in
    let cuts : List Try = d.1 in
    let x : Try = d.3 in
    let less = d.4 in let less' = d.7 in
    let all = ap (λ (z : List Try). length (notes_of z)) d.11 in
    let a = each_bounded (IsLostReserve n) 2 misses (miss_steps n) d.5 in
    let b = each_bounded (IsLostCut n) (n + 2) cuts (lost_cut_steps n) d.8 in
    let c = won_cut_steps xs x d.10 in
    let len = d.9 in
    omega (
      arith,
      steps-append misses (Reserved n d.2 ∷ (cuts ++ x ∷ [])),
      steps-append cuts
          (x ∷ []),
      steps-cons x [],
      split_times l.tries n,
      times_less (length cuts) l.tries (n + 2) d.7,
    )
get_bounded l n (Err NoEntries) ts d =
    let misses : List Try = d.0 in
    let less = d.2 in
    let all = ap (λ (z : List Try). length (notes_of z)) d.5 in
    let a = each_bounded (IsLostReserve n) 2 misses (miss_steps n) d.3 in
    omega (arith, steps-append misses (Short d.1 ∷ []), split_times l.tries n)
get_bounded l n (Err HeadSpent) ts d =
    let misses : List Try = d.0 in
    let cuts : List Try = d.1 in
    let x : Try = d.3 in
    let less = d.4 in let less' = d.7 in
    let all = ap (λ (z : List Try). length (notes_of z)) d.10 in
    let a = each_bounded (IsLostReserve n) 2 misses (miss_steps n) d.5 in
    let b = each_bounded (IsLostCut n) (n + 2) cuts (lost_cut_steps n) d.8 in
    let c = spent_steps x d.9 in
    omega (
      arith,
      steps-append misses (Reserved n d.2 ∷ (cuts ++ x ∷ Added n ∷ [])),
      steps-append
          cuts (x ∷ Added n ∷ []),
      steps-cons x (Added n ∷ []),
      split_times l.tries n,
      times_less
          (length cuts) l.tries (n + 2) d.7,
    )
get_bounded l n (Err Contended) ts d = ⊎_elim
    (λ (h : (length ts ≡ l.tries) × All (IsLostReserve n) ts). let a =
    each_bounded (IsLostReserve n) 2 ts (miss_steps n) h.1 in let len = h.0 in
    omega (arith, split_times l.tries n))
    (λ (h : (misses cuts : List Try) × (v : ℕ) × (length misses < l.tries) × All (IsLostReserve n) misses
    × (n ≤ v) × (length cuts ≡ l.tries) × All (IsLostCut n) cuts
    × (ts ≡ misses ++ Reserved n v ∷ (cuts ++ Added n ∷ []))).
    let misses : List Try = h.0 in
    let cuts : List Try = h.1 in
    let less = h.3 in let len = h.6 in
    let all = ap (λ (z : List Try). length (notes_of z)) h.8 in
    let a = each_bounded (IsLostReserve n) 2 misses (miss_steps n) h.4 in
    let b = each_bounded (IsLostCut n) (n + 2) cuts (lost_cut_steps n) h.7 in
    let c = mul-le-mul_right (n + 2) (let e : length cuts ≤ l.tries = omega arith in e) in
    omega (
      arith,
      steps-append misses (Reserved n h.2 ∷ (cuts ++ Added n ∷ [])),
      steps-append cuts
          (Added n ∷ []),
      split_times l.tries n,
    ))
    d
get_bounded l n (Err _) ts d = absurd d

-- a put: its pushes take as many steps as the list is long and two, and the addition one
put_bounded : (l : Limits) (xs : List ℕ) (answer : Result (Unit {0}) Refusal) (ts : List Try) →
    IsPut l.tries xs answer ts → length (notes_of ts) ≤ l.tries * (length xs + 2) + 1
put_bounded l xs (Ok _) ts d =
    let pushes : List Try = d.0 in
    let x : Try = d.1 in
    let all = ap (λ (z : List Try). length (notes_of z)) d.5 in
    let b = each_bounded (IsLostPush xs) (length xs + 2) pushes (lost_push_steps xs) d.3 in
    let c = won_push_steps xs x d.4 in
    omega (
      arith,
      steps-append pushes (x ∷ Added (length xs) ∷ []),
      steps-cons x
          (Added (length xs) ∷ []),
      times_less (length pushes) l.tries (length xs + 2) d.2,
    )
put_bounded l xs (Err HeadSpent) ts d =
    let pushes : List Try = d.0 in
    let x : Try = d.1 in
    let all = ap (λ (z : List Try). length (notes_of z)) d.5 in
    let b = each_bounded (IsLostPush xs) (length xs + 2) pushes (lost_push_steps xs) d.3 in
    let c = spent_steps x d.4 in
    omega (
      arith,
      steps-append pushes (x ∷ []),
      steps-cons x [],
      times_less (length pushes) l.tries
          (length xs + 2) d.2,
    )
put_bounded l xs (Err Contended) ts d =
    let b = each_bounded (IsLostPush xs) (length xs + 2) ts (lost_push_steps xs) d.1 in
    let c = mul-le-mul_right (length xs + 2) (let len = d.0 in let e : length ts ≤ l.tries =
    omega arith in e) in
    omega arith
put_bounded l xs (Err _) ts d = absurd d

-- tries that are the same have as many steps
same_steps : (ts us : List Try) (m : ℕ) → ts ≡ us → length (notes_of us) ≤ m →
    length (notes_of ts) ≤ m
same_steps ts us m e h = subst (λ (z : List Try). length (notes_of z) ≤ m) (sym e) h

lost_raise_steps : (l : Limits) (i : ℕ) (x : Try) → IsLostRaise l i x → length (notes x) ≤ 2
lost_raise_steps l i x h = by_eq x _ 2 h.4 (omega arith)

-- a raise: its tries take two steps each
raise_bounded : (l : Limits) (i : ℕ) (answer : Result (Unit {0}) Refusal) (ts : List Try) →
    IsRaise l i answer ts → length (notes_of ts) ≤ 2 * l.tries
raise_bounded l i (Ok _) ts d =
    let all = ap (λ (z : List Try). length (notes_of z)) d.5 in
    let b = each_bounded (IsLostRaise l i) 2 d.0 (lost_raise_steps l i) d.3 in
    let less = d.2 in
    omega (arith, steps-append d.0 (Raised i d.1 ∷ []), steps-cons (Raised i d.1) [])
raise_bounded l i (Err RefSpent) ts d =
    let all = ap (λ (z : List Try). length (notes_of z)) d.3 in
    let b = each_bounded (IsLostRaise l i) 2 d.0 (lost_raise_steps l i) d.2 in
    let less = d.1 in
    omega (arith, steps-append d.0 (Counted i l.ref_limit ∷ []), steps-cons (Counted i l.ref_limit) [])
raise_bounded l i (Err Contended) ts d =
    let b = each_bounded (IsLostRaise l i) 2 ts (lost_raise_steps l i) d.1 in
    let len = d.0 in
    omega arith
raise_bounded l i (Err _) ts d = absurd d

-- a lower: it loads the count, lowers it, and sets it to 1 again where that read 1
lower_steps : (i : ℕ) (answer : Answer) (x : Try) → IsLower i answer x → length (notes x) ≤ 3
lower_steps i Last x d = ⊎_elim
    (λ (a : x ≡ Freed i). by_eq x (Freed i) 3 a (omega arith))
    (λ (b : (c : ℕ) × (1 < c) × (x ≡ LoweredToLast i c)). by_eq x (LoweredToLast i b.0) 3 b.2 (omega arith)) d
lower_steps i Still x d = by_eq x (Lowered i d.0 d.1) 3 d.4 (omega arith)

-- an offer: it holds the desk and opens it, or finds it taken
offer_bounded : (l : Limits) (d : ℕ) (p : List Seg) (answer : Result (Unit {0}) Refusal) (ts : List Try) →
    IsOffer l d p answer ts → length (notes_of ts) ≤ most_steps l (Offer d p answer)
offer_bounded l d p (Ok _) ts h = same_steps ts (Offered d p ∷ []) 2 h.1 (omega arith)
offer_bounded l d p (Err NoSuchDesk) ts h = same_steps ts [] 1 h.1 (omega arith)
offer_bounded l d p (Err DeskTaken) ts h = same_steps ts (OfferFailed d h.0 ∷ []) 1 h.3 (omega arith)
offer_bounded l d p (Err _) ts h = absurd h

-- a take: it seizes the desk and clears it, or finds it empty
take_bounded : (l : Limits) (d : ℕ) (answer : Result (List Seg) Refusal) (ts : List Try) →
    IsTake l d answer ts → length (notes_of ts) ≤ most_steps l (Take d answer)
take_bounded l d (Ok p) ts h = same_steps ts (Taken d p ∷ []) 2 h.1 (omega arith)
take_bounded l d (Err NoSuchDesk) ts h = same_steps ts [] 1 h.1 (omega arith)
take_bounded l d (Err DeskEmpty) ts h = same_steps ts (TakeFailed d h.0 ∷ []) 1 h.3 (omega arith)
take_bounded l d (Err _) ts h = absurd h

-- each call takes as many steps at most as its list and the limits allow
pub bounded : (l : Limits) (call : Call) (ts : List Try) → IsOfCall l call ts →
    length (notes_of ts) ≤ most_steps l call
bounded l (GetList n answer) ts d = get_bounded l n answer ts d
bounded l (PutList xs answer) ts d = put_bounded l xs answer ts d
bounded l (Claim i) ts d = same_steps ts (Claimed i ∷ []) 1 d (omega arith)
bounded l (CountOf i n) ts d = same_steps ts (Counted i n ∷ []) 1 d (omega arith)
bounded l (Raise i answer) ts d = raise_bounded l i answer ts d
bounded l (Lower i answer) ts d =
    same_steps ts (d.0 ∷ []) 3 d.2
    (let one = lower_steps i answer d.0 d.1 in omega (arith, steps-cons d.0 []))
bounded l (Offer e packet answer) ts d = offer_bounded l e packet answer ts d
bounded l (Take e answer) ts d = take_bounded l e answer ts d
bounded l (CommonCount n) ts d = same_steps ts (Short n ∷ []) 1 d (omega arith)
