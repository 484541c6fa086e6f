-- What each call leaves, in the trait's words.
use Rattle.std.proofs.Common.{◌≡◌, ◌≢◌, ◌==◌, ℕ, ◌+◌, ◌-◌, ◌<◌, ◌≤◌, Bool, false, filter, append-nil, ⊎_elim, List, [], ◌∷◌, ◌++◌, reverse, refl, sym, ap, ◌∙◌, subst, arith}
use Rattle.std.specs.Prelude.{Result, Ok, Err, IfOk, if◌then◌else◌}
use Rattle.std.proofs.lemmas.Bool.{cond_both, cond-false, ne_eqb, cases_eq, true≢false}
use Rattle.commons.specs.Bag.{bag, one}
use Rattle.commons.proofs.Bags.{bag-append, bag-reverse, bag-nil, bag-cons, bag-single, one-same}
use Rattle.commons.specs.Calls.{Call, GetList, PutList, Claim, CountOf, Raise, Lower, CommonCount, HasEffect, Did, with_list, back, spent}
use Rattle.commons.specs.declared.limits.Limits.{Limits}
use Rattle.commons.specs.declared.refusal.Lowered.{Lowered as Answer}
use Rattle.commons.specs.declared.refusal.Lowered.TheVariants.{Last, Still}
use Rattle.commons.specs.declared.refusal.Refusal.TheVariants.{NoEntries, Contended, HeadSpent, RefSpent}
use Rattle.commons.specs.declared.refusal.Refusal.{Refusal}
use Rattle.step_core.specs.declared.view.View.{View}
use Rattle.step_core.specs.Bags.{has, without, still_held}
use Rattle.step_core.specs.Views.{claimed}
use Rattle.step_core.proofs.Bags.{times-without}
use Rattle.step_core.specs.declared.step.Step.TheVariants.{LoadLength, Sole, Claim as ClaimStep}
use Rattle.step_core.specs.declared.step.Outcome.TheVariants.{Value}
use Rattle.ground.specs.Changing.{KnowsChanges}
use Rattle.ground.specs.Seats.{Seated, Note, after, Steps, KnowsLength, KnowsCount}
use Rattle.stack_lf.specs.Sides.{side_of}
use Rattle.stack_lf.specs.Tries.{Try, Short, Claimed, Counted, notes, readings_of, IsOfCall, IsContended}
use Rattle.stack_lf.specs.Tries.{KnowsShort, KnowsEnough, KnowsSpent, KnowsRaised, KnowsLowered, IsTold, lying_after, KeepsOrder, DidOnWords}
use Rattle.stack_lf.specs.Effects.{IsAlone, tried_to, GetsOnWords, PutsOnWords, Raises, Lowers, lowered_as}
use Rattle.stack_lf.proofs.Storing.{bag-minus}
use Rattle.stack_lf.proofs.Reading.{causes}

-- the seat with what is known to lie on the desks after the call
abbrev pub lain : Call → Seated → Seated
lain call s = record s { known = record s.known { lying = lying_after call s.known.lying } }

-- what a call did, from the tries that it made, and their effect
pub doing : (s : Seated) (call : Call) (t : Seated) (ts : List Try) (v : View) →
    IsOfCall s.known.limits call ts → HasEffect call (side_of s) (side_of t) →
    t ≡ lain call (tried_to s ts v) → v.part ≡ s.known.view.part → (IsAlone s → IsContended call → ⊥) →
    IsTold s call → KeepsOrder call s.known.view.hand v.hand → Did DidOnWords side_of s call t
doing s call t ts v made effect e part alone told order = record {
  readings = readings_of ts;
  step = record {
    led = record {
      table = ap (λ (x : Seated). x.table) e;
      seat = ap (λ (x : Seated). x.id) e;
      limits = ap (λ (x : Seated). x.known.limits) e;
      part = ap (λ (x : Seated). x.known.view.part) e ∙ part;
      slots = ap (λ (x : Seated). x.slots) e;
      tries = ts;
      made = made;
      steps = ap (λ (x : Seated). x.known.steps) e;
      joined = ap (λ (x : Seated). x.known.joined) e;
      lying = ap (λ (x : Seated). x.known.lying) e;
      order =
          subst (λ (x : Seated). KeepsOrder call s.known.view.hand x.known.view.hand) (sym e) order;
      read = refl;
      alone = alone;
      told = told;
    };
    cause = causes s.known.limits call ts made;
    effect = effect;
  };
}

-- the holds and the headers are those of the view
pub holds_as : (s t : Seated) (a : List Note) (v : View) → t ≡ after s a v →
    ◌≡◌ {A = ℕ → ℕ} (bag t.known.view.holds) (bag v.holds)
holds_as s t a v e = ap {B = ℕ → ℕ} (λ (x : Seated). bag x.known.view.holds) e

-- and so the headers
pub headers_as : (s t : Seated) (a : List Note) (v : View) → t ≡ after s a v →
    ◌≡◌ {A = ℕ → ℕ} (bag t.known.view.headers) (bag v.headers)
headers_as s t a v e = ap {B = ℕ → ℕ} (λ (x : Seated). bag x.known.view.headers) e

-- ---- a get

-- a get that succeeds brings its elements into the hand, and a refused one leaves all as it was
get_effect : (tries n : ℕ) (xs : List ℕ) (r : Result (Unit {0}) Refusal) (s t : Seated) →
    GetsOnWords tries n xs r s t → HasEffect (GetList n (with_list r xs)) (side_of s) (side_of t)
get_effect tries n xs (Ok _) s t g = record {
  limits = ap (λ (x : Seated). x.known.limits) g.4;
  hand = λ i.
      ap (λ (x : Seated). bag x.known.view.hand i) g.4 ∙ bag-append s.known.view.hand xs i;
  holds = holds_as s t _ _ g.4;
  headers = headers_as s t _ _ g.4;
}
get_effect tries n xs (Err e) s t g = ap side_of g.4

-- a refusal after as many lost tries as the pool allows is called so
get_contended : (n : ℕ) (e : Refusal) → IsContended (GetList n (Err e)) → e ≡ Contended
get_contended n Contended c = refl
get_contended n _ c = absurd c

-- what a refused get tells
get_told : (s : Seated) (n : ℕ) (e : Refusal) →
    (◌≡◌ {A = Result (Unit {0}) Refusal} (Err e) (Err NoEntries) → KnowsShort n s) →
    (◌≡◌ {A = Result (Unit {0}) Refusal} (Err e) (Err HeadSpent) → KnowsChanges s.known spent) →
    IsTold s (GetList n (Err e))
get_told s n NoEntries short ended = short refl
get_told s n HeadSpent short ended = ended refl
get_told s n _ short ended = tt

-- and a refused put
put_told : (s : Seated) (xs : List ℕ) (e : Refusal) →
    (◌≡◌ {A = Result (Unit {0}) Refusal} (Err e) (Err HeadSpent) → KnowsChanges s.known spent) →
    IsTold s (PutList xs (Err e))
put_told s xs HeadSpent ended = ended refl
put_told s xs _ ended = tt

-- and a refused raise of a count at the limit
raise_told : (s : Seated) (i : ℕ) (e : Refusal) →
    (◌≡◌ {A = Result (Unit {0}) Refusal} (Err e) (Err RefSpent) → KnowsSpent i s) →
    IsTold s (Raise i (Err e))
raise_told s i RefSpent told = told refl
raise_told s i _ told = tt

-- so it is of a put
put_contended : (xs : List ℕ) (e : Refusal) → IsContended (PutList xs (Err e)) → e ≡ Contended
put_contended xs Contended c = refl
put_contended xs _ c = absurd c

-- and of a raise
raise_contended : (i : ℕ) (e : Refusal) → IsContended (Raise i (Err e)) → e ≡ Contended
raise_contended i Contended c = refl
raise_contended i _ c = absurd c

-- what a get did, from what it leaves of the seat
pub get_did : (n : ℕ) (xs : List ℕ) (r : Result (Unit {0}) Refusal) (s t : Seated) →
    GetsOnWords s.known.limits.tries n xs r s t → (IsAlone s → r ≢ Err Contended) →
    (r ≡ Err NoEntries → KnowsShort n s) → (r ≡ Err HeadSpent → KnowsChanges s.known spent) →
    IfOk r (λ _. KnowsEnough n s) → Did DidOnWords side_of s (GetList n (with_list r xs)) t
get_did n xs (Ok m) s t g alone short ended enough =
    doing s (GetList n (Ok xs)) t g.0 _ g.3
    (get_effect s.known.limits.tries n xs (Ok m) s t g) g.4 refl (λ whole c. c) enough refl
get_did n xs (Err e) s t g alone short ended enough =
    doing s (GetList n (Err e)) t g.0 _ g.3
    (get_effect s.known.limits.tries n xs (Err e) s t g) g.4 refl
    (λ whole c. alone whole (ap Err (get_contended n e c))) (get_told s n e short ended) refl

-- ---- a put

-- a put that succeeds takes its elements out of the hand, and a refused one leaves all as it was
put_effect : (tries : ℕ) (xs : List ℕ) (r : Result (Unit {0}) Refusal) (s t : Seated) →
    ((i : ℕ) → bag xs i ≤ bag s.known.view.hand i) → PutsOnWords tries xs r s t →
    HasEffect (PutList xs r) (side_of s) (side_of t)
put_effect tries xs (Ok _) s t h g = record {
  limits = ap (λ (x : Seated). x.known.limits) g.4;
  hand = λ i.
      let e = ap (λ (x : Seated). bag x.known.view.hand i) g.4 in
      let m = h i in
      omega (arith, bag-minus s.known.view.hand (reverse xs) i, bag-reverse xs i);
  holds = holds_as s t _ _ g.4;
  headers = headers_as s t _ _ g.4;
}
put_effect tries xs (Err e) s t h g = ap side_of g.4

-- what a put did, from what it leaves of the seat
pub put_did : (xs : List ℕ) (r : Result (Unit {0}) Refusal) (s t : Seated) →
    ((i : ℕ) → bag xs i ≤ bag s.known.view.hand i) → PutsOnWords s.known.limits.tries xs r s t →
    (IsAlone s → r ≢ Err Contended) → (r ≡ Err HeadSpent → KnowsChanges s.known spent) →
    Did DidOnWords side_of s (PutList xs r) t
put_did xs (Ok m) s t h g alone ended =
    doing s (PutList xs (Ok m)) t g.0 _ g.3
    (put_effect s.known.limits.tries xs (Ok m) s t h g) g.4 refl (λ whole c. c) tt tt
put_did xs (Err e) s t h g alone ended =
    doing s (PutList xs (Err e)) t g.0 _ g.3
    (put_effect s.known.limits.tries xs (Err e) s t h g) g.4 refl
    (λ whole c. alone whole (ap Err (put_contended xs e c))) (put_told s xs e ended) refl

-- ---- a count

-- what a load of the length did, which is one step
pub length_did : (n : ℕ) (s t : Seated) → Steps LoadLength (Value n) s t →
    KnowsLength s.known n → Did DidOnWords side_of s (CommonCount n) t
length_did n s t g known =
    doing s (CommonCount n) t (Short n ∷ []) s.known.view refl (ap side_of g) g refl (λ whole c. c) known tt

-- ---- the counts

-- of one element at least as many are there
one_below : (e : ℕ) (xs : List ℕ) (i : ℕ) → 0 < bag xs e → one e i ≤ bag xs i
one_below e xs i h = ⊎_elim
    (λ (same : e ≡ i). subst (λ (k : ℕ). one e k ≤ bag xs k) same (omega (arith, one-same e)))
    (λ (n : e ≢ i). let z : one e i ≡ 0 = cond-false (e == i) 1 0 (ne_eqb e i n) in omega arith)
    (cases_eq e i)

bag-less : (x : ℕ) (xs : List ℕ) (i : ℕ) → bag (without x xs) i ≡ bag xs i - one x i
bag-less x xs i = omega (arith, times-without i x xs, bag-single x i)

bag-more : (x : ℕ) (xs : List ℕ) (i : ℕ) → bag (xs ++ x ∷ []) i ≡ bag xs i + one x i
bag-more x xs i = omega (arith, bag-append xs (x ∷ []) i, bag-single x i)

-- what a filter leaves of a list
pub kept : (p : ℕ → Bool) (xs : List ℕ) (i : ℕ) → bag (filter p xs) i ≡ (if p i then bag xs i else 0)
kept p [] i = cond_both (p i) (bag [] i) 0 (λ n. bag [] i ≡ n) (λ e. refl) (λ e. bag-nil i)
kept p (x ∷ xs) i =
    let rest = kept p xs i in
    cond_both (p x) (x ∷ filter p xs) (filter p xs)
    (λ ys. bag ys i ≡ (if p i then bag (x ∷ xs) i else 0))
    (λ e. cond_both (p i) (bag (x ∷ xs) i) 0 (λ n. bag (x ∷ filter p xs) i ≡ n)
    (λ f. let same : bag (filter p xs) i ≡ bag xs i =
    rest ∙ ap (λ (b : Bool). if b then bag xs i else 0) f in
    omega (arith, bag-cons x xs i, bag-cons x (filter p xs) i))
    (λ f. let none : bag (filter p xs) i ≡ 0 =
    rest ∙ ap (λ (b : Bool). if b then bag xs i else 0) f in
    let other : x ≢ i = λ same. true≢false (sym e ∙ (ap p same ∙ f)) in
    let z : one x i ≡ 0 = cond-false (x == i) 1 0 (ne_eqb x i other) in
    omega (arith, bag-cons x (filter p xs) i)))
    (λ e. cond_both (p i) (bag (x ∷ xs) i) 0 (λ n. bag (filter p xs) i ≡ n)
    (λ f. let same : bag (filter p xs) i ≡ bag xs i =
    rest ∙ ap (λ (b : Bool). if b then bag xs i else 0) f in
    let other : x ≢ i = λ same_one. true≢false (sym f ∙ (sym (ap p same_one) ∙ e)) in
    let z : one x i ≡ 0 = cond-false (x == i) 1 0 (ne_eqb x i other) in
    omega (arith, bag-cons x xs i))
    (λ f. rest ∙ ap (λ (b : Bool). if b then bag xs i else 0) f))

-- a claim takes the element out of the hand, and makes it a hold and a header
claim_effect : (e : ℕ) (s t : Seated) → 0 < bag s.known.view.hand e →
    Steps (ClaimStep e) (Value 1) s t → HasEffect (Claim e) (side_of s) (side_of t)
claim_effect e s t here g = record {
  limits = ap (λ (x : Seated). x.known.limits) g;
  hand = λ i.
      let h = ap (λ (x : Seated). bag x.known.view.hand i) g in
      let m = one_below e s.known.view.hand i here in
      omega (arith, bag-less e s.known.view.hand i);
  holds = λ i. ap (λ (x : Seated). bag x.known.view.holds i) g ∙ bag-more e s.known.view.holds i;
  headers = λ i.
      ap (λ (x : Seated). bag x.known.view.headers i) g ∙ bag-more e s.known.view.headers i;
}

-- what a claim did, which is one step
pub claim_did : (e : ℕ) (s t : Seated) → 0 < bag s.known.view.hand e →
    Steps (ClaimStep e) (Value 1) s t → Did DidOnWords side_of s (Claim e) t
claim_did e s t here g =
    doing s (Claim e) t (Claimed e ∷ []) (claimed s.known.view e) refl (claim_effect e s t here g) g
    refl (λ whole c. c) tt tt

-- what a load of a count did, which is one step
pub count_did : (e n : ℕ) (s t : Seated) → Steps (Sole e false) (Value n) s t →
    bag s.known.view.holds e ≤ n → n ≤ s.known.limits.ref_limit →
    KnowsCount s.known e n → Did DidOnWords side_of s (CountOf e n) t
count_did e n s t g low high known =
    doing s (CountOf e n) t (Counted e n ∷ []) s.known.view refl
    (record { same = ap side_of g; own = low; limited = high }) g refl (λ whole c. c) known tt

-- a raise that succeeds makes one more hold, and a refused one leaves all as it was
raise_effect : (l : Limits) (e : ℕ) (r : Result (Unit {0}) Refusal) (s t : Seated) →
    0 < bag s.known.view.holds e → Raises l e r s t →
    HasEffect (Raise e r) (side_of s) (side_of t)
raise_effect l e (Ok _) s t held g = record {
  held = held;
  limits = ap (λ (x : Seated). x.known.limits) g.4;
  hand = λ i. ap (λ (x : Seated). bag x.known.view.hand i) g.4;
  holds = λ i. ap (λ (x : Seated). bag x.known.view.holds i) g.4 ∙ bag-more e s.known.view.holds i;
  headers = headers_as s t _ _ g.4;
}
raise_effect l e (Err _) s t held g = ap side_of g.4

-- what a raise did, from what it leaves of the seat
pub raise_did : (e : ℕ) (r : Result (Unit {0}) Refusal) (s t : Seated) →
    0 < bag s.known.view.holds e → Raises s.known.limits e r s t →
    (IsAlone s → r ≢ Err Contended) → (r ≡ Err RefSpent → KnowsSpent e s) → IfOk r (λ _. KnowsRaised e s) →
    Did DidOnWords side_of s (Raise e r) t
raise_did e (Ok m) s t held g alone told below =
    doing s (Raise e (Ok m)) t g.0 _ g.3 (raise_effect s.known.limits e (Ok m) s t held g) g.4 refl
    (λ whole c. c) below tt
raise_did e (Err cause) s t held g alone told below =
    doing s (Raise e (Err cause)) t g.0 _ g.3
    (raise_effect s.known.limits e (Err cause) s t held g) g.4 refl
    (λ whole c. alone whole (ap Err (raise_contended e cause c))) (raise_told s e cause told) tt

-- the last hold that ends brings the element into the hand, and no other does
lower_hand : (e : ℕ) (answer : Answer) (s t : Seated) → Lowers e answer s t → (i : ℕ) →
    bag t.known.view.hand i ≡ bag s.known.view.hand i + back answer e i
lower_hand e Last s t g i =
    ap (λ (x : Seated). bag x.known.view.hand i) g.2 ∙ bag-more e s.known.view.hand i
lower_hand e Still s t g i =
    let h = ap (λ (x : Seated). bag x.known.view.hand i) g.2 in omega arith

-- either way the seat has one hold less
lowered_holds : (e : ℕ) (answer : Answer) (s t : Seated) → Lowers e answer s t →
    t.known.view.holds ≡ without e s.known.view.holds
lowered_holds e Last s t g = ap (λ (x : Seated). x.known.view.holds) g.2
lowered_holds e Still s t g = ap (λ (x : Seated). x.known.view.holds) g.2

-- and keeps those headers alone that it still holds
lowered_headers : (e : ℕ) (answer : Answer) (s t : Seated) → Lowers e answer s t →
    t.known.view.headers ≡ still_held s.known.view.headers (without e s.known.view.holds)
lowered_headers e Last s t g = ap (λ (x : Seated). x.known.view.headers) g.2
lowered_headers e Still s t g = ap (λ (x : Seated). x.known.view.headers) g.2

-- what a lower does to hand, holds and headers
lower_effect : (e : ℕ) (answer : Answer) (s t : Seated) → 0 < bag s.known.view.holds e →
    Lowers e answer s t → HasEffect (Lower e answer) (side_of s) (side_of t)
lower_effect e answer s t held g = record {
  limits = lower_limits answer g;
  hand = lower_hand e answer s t g;
  holds = λ i.
      let h = ap (λ (l : List ℕ). bag l i) (lowered_holds e answer s t g) in
      let m = one_below e s.known.view.holds i held in
      omega (arith, bag-less e s.known.view.holds i);
  headers = λ i.
      ap (λ (l : List ℕ). bag l i) (lowered_headers e answer s t g)
      ∙ (kept (has (without e s.known.view.holds)) s.known.view.headers i
      ∙ ap (λ (l : List ℕ). if has l i then bag s.known.view.headers i else 0)
      (sym (lowered_holds e answer s t g)));
}
  where
    lower_limits : (a : Answer) → Lowers e a s t → t.known.limits ≡ s.known.limits
    lower_limits Last g = ap (λ (x : Seated). x.known.limits) g.2
    lower_limits Still g = ap (λ (x : Seated). x.known.limits) g.2

-- a lower leaves the part
part_lowered : (e : ℕ) (answer : Answer) (v : View) → (lowered_as e answer v).part ≡ v.part
part_lowered e Last v = refl
part_lowered e Still v = refl

-- what a lower did, from what it leaves of the seat
pub lower_did : (e : ℕ) (answer : Answer) (s t : Seated) → 0 < bag s.known.view.holds e →
    Lowers e answer s t → KnowsLowered e answer s → Did DidOnWords side_of s (Lower e answer) t
lower_did e answer s t held g told =
    doing s (Lower e answer) t (g.0 ∷ []) (lowered_as e answer s.known.view) (g.0, g.1, refl)
    (lower_effect e answer s t held g)
    (g.2 ∙ ap (λ (l : List Note). after s l (lowered_as e answer s.known.view))
    (sym (append-nil (notes g.0))))
    (part_lowered e answer s.known.view) (λ whole c. c) told tt

-- the seat with no step more
pub same_seat : (s : Seated) → s ≡ tried_to s [] s.known.view
same_seat s =
    ap (λ (l : List Note). record s { known = record s.known { steps = l } })
    (sym (append-nil s.known.steps))
