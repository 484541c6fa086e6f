-- How the changes of all seats add up, and what the only seat of a pool knows of them.
use Rattle.std.proofs.Common.{◌≡◌, ◌≢◌, ℕ, zero, suc, ◌+◌, ◌<◌, ◌≤◌, List, [], ◌∷◌, ◌++◌, length, set, get_or, refl, sym, ap, ◌∙◌, subst, ⊎_elim, arith}
use Rattle.std.specs.Prelude.{sum_by}
use Rattle.std.proofs.lemmas.Bool.{cases_eq}
use Rattle.std.proofs.lemmas.List.Sums.{sum_by-cons, sum_by-append, sum_by_push, sum_by-set}
use mathlib.Core.Option.{some, some-ne-none, some-injective}
use lib.ListN.{get_elem?}
use Rattle.step_core.specs.declared.step.Step.{Step}
use Rattle.step_core.specs.declared.step.Outcome.{Outcome}
use Rattle.ground.specs.declared.known.Known.{Known}
use Rattle.ground.specs.Changing.{changes_by, changes_in, changes_of, IsUnmoved}
use Rattle.ground.specs.Parting.{both, spent_seat}
use Rattle.ground.specs.Rule.{AreUnmoved}

-- what a list of seats has at an index
pub known_there : (ns : List Known) (i : ℕ) (n : Known) → get_elem? ns i ≡ some n →
    (i < length ns) × (get_or ns i spent_seat ≡ n)
known_there [] i n e = absurd (some-ne-none n (sym e))
known_there (x ∷ xs) zero n e = (omega arith, some-injective x n e)
known_there (x ∷ xs) (suc i) n e =
    let m = known_there xs i n e in
    let h : i < length xs = m.0 in
    (omega arith, m.1)

-- one step more
pub one_step : (n m : Known) (st : Step) (o : Outcome) → m.steps ≡ n.steps ++ (st, o) ∷ [] →
    m.joined ≡ n.joined → changes_of m ≡ changes_of n + changes_by st o
one_step n m st o steps joined =
    let a = ap changes_in steps in
    let b = ap changes_in joined in
    omega (arith, sum_by_push (λ (note : Step × Outcome). changes_by note.0 note.1) n.steps (st, o))

-- the sum of all, once one seat is another
pub sum_set : (ns : List Known) (id : ℕ) (n m : Known) → get_elem? ns id ≡ some n →
    sum_by changes_of (set ns id m) + changes_of n ≡ sum_by changes_of ns + changes_of m
sum_set ns id n m at =
    let there = known_there ns id n at in
    let same = ap changes_of there.1 in
    let all = sum_by-set changes_of ns id m spent_seat there.0 in
    omega arith

-- a seat has done at most what all have
pub one_of_all : (ns : List Known) (id : ℕ) (n : Known) → get_elem? ns id ≡ some n →
    changes_of n ≤ sum_by changes_of ns
one_of_all ns id n at =
    let all = sum_set ns id n spent_seat at in
    omega arith

-- where no other seat has done anything, the changes of this one are all
pub one_alone : (ns : List Known) (id : ℕ) (n : Known) → get_elem? ns id ≡ some n →
    ((j : ℕ) (o : Known) → j ≢ id → get_elem? ns j ≡ some o → IsUnmoved o) →
    sum_by changes_of ns ≡ changes_of n
one_alone [] id n at others = absurd (some-ne-none n (sym at))
one_alone (x ∷ xs) zero n at others =
    let same = ap changes_of (some-injective x n at) in
    let rest = none_done xs (λ j o e. others (suc j) o (λ z. absurd (omega arith)) e) in
    omega (arith, sum_by-cons changes_of x xs)
  where
    none_done : (ys : List Known) → ((j : ℕ) (o : Known) → get_elem? ys j ≡ some o → IsUnmoved o) →
        sum_by changes_of ys ≡ 0
    none_done [] h = refl
    none_done (y ∷ ys) h =
        let a = h 0 y refl in
        let b = none_done ys (λ j o e. h (suc j) o e) in
        let c = ap changes_in a.steps in
        let d = ap changes_in a.joined in
        omega (arith, sum_by-cons changes_of y ys)
one_alone (x ∷ xs) (suc id) n at others =
    let a = others 0 x (λ z. absurd (omega arith)) refl in
    let b = one_alone xs id n at (λ j o ne e. others (suc j) o (λ z. ne (omega arith)) e) in
    let c = ap changes_in a.steps in
    let d = ap changes_in a.joined in
    omega (arith, sum_by-cons changes_of x xs)

-- a seat that is cut in two, of which the new one has done nothing, changes nothing of the sum
pub sum_cut : (ns : List Known) (id : ℕ) (n left right : Known) → get_elem? ns id ≡ some n →
    changes_of left ≡ changes_of n → changes_of right ≡ 0 →
    sum_by changes_of (set ns id left ++ right ∷ []) ≡ sum_by changes_of ns
sum_cut ns id n left right at same none =
    let all = sum_set ns id n left at in
    omega (arith, sum_by_push changes_of (set ns id left) right)

-- a join changes nothing of the sum
pub sum_join : (ns : List Known) (id : ℕ) (n : Known) (other : ℕ) (o : Known) → get_elem? ns id ≡ some n →
    get_elem? (set ns id (both n o)) other ≡ some o →
    sum_by changes_of (set (set ns id (both n o)) other spent_seat) ≡ sum_by changes_of ns
sum_join ns id n other o at there =
    let by = λ (note : Step × Outcome). changes_by note.0 note.1 in
    let first = sum_set ns id n (both n o) at in
    let second = sum_set (set ns id (both n o)) other o spent_seat there in
    omega (arith, sum_by-append by n.joined (o.steps ++ o.joined), sum_by-append by o.steps o.joined)

-- ---- seats that have done nothing

-- a seat that has taken a step has done something
some_step : {A : Type 0} (xs : List A) (x : A) → xs ++ x ∷ [] ≡ [] → ⊥
some_step [] x e = absurd (cc e)
some_step (y ∷ ys) x e = absurd (cc e)

pub not_unmoved : (n m : Known) (note : Step × Outcome) → m.steps ≡ n.steps ++ note ∷ [] → IsUnmoved m → ⊥
not_unmoved n m note steps h = some_step n.steps note (sym steps ∙ h.steps)

set_there : (ns : List Known) (id : ℕ) (n m : Known) → get_elem? ns id ≡ some n →
    get_elem? (set ns id m) id ≡ some m
set_there [] id n m at = absurd (some-ne-none n (sym at))
set_there (x ∷ xs) zero n m at = refl
set_there (x ∷ xs) (suc id) n m at = set_there xs id n m at

-- once a seat has noted a step, not all seats are unmoved
pub none_unmoved : (ns : List Known) (id : ℕ) (n m : Known) (note : Step × Outcome) → get_elem? ns id ≡ some n →
    m.steps ≡ n.steps ++ note ∷ [] → AreUnmoved (set ns id m) → ⊥
none_unmoved ns id n m note at steps all = not_unmoved n m note steps (all id m (set_there ns id n m at))

set_other : (ns : List Known) (id j : ℕ) (m o : Known) → j ≢ id → get_elem? ns j ≡ some o →
    get_elem? (set ns id m) j ≡ some o
set_other [] id j m o ne at = absurd (some-ne-none o (sym at))
set_other (x ∷ xs) zero zero m o ne at = absurd (ne refl)
set_other (x ∷ xs) zero (suc j) m o ne at = at
set_other (x ∷ xs) (suc id) zero m o ne at = at
set_other (x ∷ xs) (suc id) (suc j) m o ne at = set_other xs id j m o (λ e. ne (ap suc e)) at

push_there : (ns : List Known) (j : ℕ) (m o : Known) → get_elem? ns j ≡ some o →
    get_elem? (ns ++ m ∷ []) j ≡ some o
push_there [] j m o at = absurd (some-ne-none o (sym at))
push_there (x ∷ xs) zero m o at = at
push_there (x ∷ xs) (suc j) m o at = push_there xs j m o at

-- all were unmoved, where all are with one that is unmoved just where it was
pub unmoved_set : (ns : List Known) (id : ℕ) (n m : Known) → get_elem? ns id ≡ some n →
    (IsUnmoved m → IsUnmoved n) → AreUnmoved (set ns id m) → AreUnmoved ns
unmoved_set ns id n m at back all j o e =
    ⊎_elim
    (λ (same : j ≡ id).
    subst IsUnmoved
    (some-injective n o (sym at ∙ (ap (λ (k : ℕ). get_elem? ns k) (sym same) ∙ e)))
    (back (all id m (set_there ns id n m at))))
    (λ (ne : j ≢ id). all j o (set_other ns id j m o ne e))
    (cases_eq j id)

pub unmoved_cut : (ns : List Known) (id : ℕ) (n left right : Known) → get_elem? ns id ≡ some n →
    (IsUnmoved left → IsUnmoved n) → AreUnmoved (set ns id left ++ right ∷ []) → AreUnmoved ns
unmoved_cut ns id n left right at back all =
    unmoved_set ns id n left at back (λ j o e. all j o (push_there (set ns id left) j right o e))

none_left : {A : Type 0} (xs ys : List A) → xs ++ ys ≡ [] → (xs ≡ []) × (ys ≡ [])
none_left [] ys e = (refl, e)
none_left (x ∷ xs) ys e = absurd (cc e)

pub unmoved_join : (ns : List Known) (id : ℕ) (n : Known) (other : ℕ) (o : Known) → get_elem? ns id ≡ some n →
    other ≢ id → get_elem? ns other ≡ some o →
    AreUnmoved (set (set ns id (both n o)) other spent_seat) → AreUnmoved ns
unmoved_join ns id n other o at apart there all =
    let b : Known = both n o in
    let left = all id b
    (set_other (set ns id b) other id spent_seat b (λ e. apart (sym e)) (set_there ns id n b at)) in
    let first = none_left n.joined (o.steps ++ o.joined) left.joined in
    let second = none_left o.steps o.joined first.1 in
    unmoved_set ns id n b at (λ h. record { steps = h.steps; joined = first.0 })
    (unmoved_set (set ns id b) other o spent_seat (set_other ns id other b o apart there)
    (λ h. record { steps = second.0; joined = second.1 }) all)
