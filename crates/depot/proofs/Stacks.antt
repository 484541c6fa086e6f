-- Where magazines stand, once one has been taken off a stack or put on it.
use Rattle.std.proofs.Common.{◌≡◌, ℕ, suc, ◌+◌, ◌≤◌, List, [], ◌∷◌, length, refl, ap, subst, arith}
use Rattle.commons.specs.Bag.{bag}
use Rattle.depot.specs.declared.view.Stack.{Stack}
use Rattle.depot.specs.declared.view.Stack.TheVariants.{Full, Partial, Empty}
use Rattle.depot.specs.Layout.{link_in}
use Rattle.depot.specs.Rule.{Linked}
use Rattle.depot.proofs.Links.{Apart}

-- the stacks, of which this one is another list now
abbrev pub put : Stack → List ℕ → (Stack → List ℕ) → Stack → List ℕ
put Full ms f Full = ms
put Full ms f Partial = f Partial
put Full ms f Empty = f Empty
put Partial ms f Full = f Full
put Partial ms f Partial = ms
put Partial ms f Empty = f Empty
put Empty ms f Full = f Full
put Empty ms f Partial = f Partial
put Empty ms f Empty = ms

pub put-here : (k : Stack) (ms : List ℕ) (f : Stack → List ℕ) → put k ms f k ≡ ms
put-here Full ms f = refl
put-here Partial ms f = refl
put-here Empty ms f = refl

pub put-other : (k j : Stack) (ms : List ℕ) (f : Stack → List ℕ) → Apart j k → put k ms f j ≡ f j
put-other Full Full ms f apart = absurd (apart refl)
put-other Full Partial ms f apart = refl
put-other Full Empty ms f apart = refl
put-other Partial Full ms f apart = refl
put-other Partial Partial ms f apart = absurd (apart refl)
put-other Partial Empty ms f apart = refl
put-other Empty Full ms f apart = refl
put-other Empty Partial ms f apart = refl
put-other Empty Empty ms f apart = absurd (apart refl)

-- how often a magazine stands on the three stacks
abbrev pub on_all : (Stack → List ℕ) → ℕ → ℕ
on_all f i = bag (f Full) i + bag (f Partial) i + bag (f Empty) i

pub put-all : (k : Stack) (ms : List ℕ) (f : Stack → List ℕ) (i : ℕ) →
    on_all (put k ms f) i + bag (f k) i ≡ on_all f i + bag ms i
put-all Full ms f i = omega arith
put-all Partial ms f i = omega arith
put-all Empty ms f i = omega arith

-- at most one is on the stack of partial ones still, where that is so of what is put there
pub put-lone : (k : Stack) (ms : List ℕ) (f : Stack → List ℕ) → length (f Partial) ≤ 1 →
    (k ≡ Partial → length ms ≤ 1) → length (put k ms f Partial) ≤ 1
put-lone Full ms f few here = few
put-lone Partial ms f few here = here refl
put-lone Empty ms f few here = few

-- where none is on any of the stacks none is on one
pub none_on : (f : Stack → List ℕ) (i : ℕ) → on_all f i ≡ 0 → (j : Stack) → bag (f j) i ≡ 0
none_on f i e Full = omega arith
none_on f i e Partial = omega arith
none_on f i e Empty = omega arith

-- what is linked from 0 on is nothing
pub linked-none : (words : List ℕ) (top : ℕ) (ms : List ℕ) → Linked words top ms → top ≡ 0 → ms ≡ []
linked-none words top [] is e = refl
linked-none words top (m ∷ ms) is e = absurd (let first = is.0 in omega arith)

-- what is linked from a top on begins with it
pub linked-first : (words : List ℕ) (top m : ℕ) (ms : List ℕ) → Linked words top ms → top ≡ suc m →
    (rest : List ℕ) × (ms ≡ m ∷ rest) × Linked words (link_in words m) rest
linked-first words top m [] is e = absurd (omega arith)
linked-first words top m (x ∷ ms) is e =
    let same : x ≡ m = let first = is.0 in omega arith in
    (ms, ap (λ (y : ℕ). y ∷ ms) same, subst (λ (y : ℕ). Linked words (link_in words y) ms) same is.1)
