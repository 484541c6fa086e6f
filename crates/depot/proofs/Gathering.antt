-- A rack that has as many magazines as the depot has them all.
use Rattle.std.proofs.Common.{◌≡◌, ℕ, ◌<◌, ◌≤◌, List, ◌∷◌, length, ap, ◌∙◌, arith, ⊎_elim}
use Rattle.std.proofs.lemmas.Bool.{cases_lt}
use Rattle.atomic_table.specs.declared.shared.Seat.{Seat}
use Rattle.commons.specs.Bag.{bag}
use Rattle.commons.proofs.Bags.{bag-cons, length-le}
use Rattle.depot.specs.declared.rack.Rack.{Rack}
use Rattle.depot.specs.declared.view.View.{View}
use Rattle.depot.specs.Answers.{noting, IsOwned}
use Rattle.depot.specs.Bags.{below}
use Rattle.depot.specs.Racks.{Racked, AreAll}
use Rattle.depot.specs.Rule.{Sat}
use Rattle.depot.specs.Seats.{Site, names}
use Rattle.depot.proofs.Bags.{one-cases, below-at, below-past, below-le}
use Rattle.depot.proofs.Turns.{names-size}

-- A number below n that isn't in a list of n such numbers, each once, would be one too many in it.
missing : (n : ℕ) (xs : List ℕ) → ((i : ℕ) → bag xs i ≤ below n i) → length xs ≡ n → (m : ℕ) → m < n → 0 < bag xs m
missing n xs few size m inside =
    ⊎_elim (λ some. some)
    (λ none.
    let most = length-le n (m ∷ xs)
    (λ i. let both = bag-cons m xs i in let at_most = few i in let once = below-le n i in
    ⊎_elim (λ it. let is_m = it.1 in
    let same : bag xs m ≡ bag xs i = ap (λ (k : ℕ). bag xs k) it.0 in omega arith)
    (λ other. let not_m = other.1 in omega arith) (one-cases m i))
    (λ i past. let both = bag-cons m xs i in let at_most = few i in let never = below-past n i past in
    ⊎_elim (λ it. let is_m = it.0 in absurd (omega arith)) (λ other. let not_m = other.1 in omega arith)
    (one-cases m i)) in
    absurd (omega arith))
    (cases_lt 0 (bag xs m))

-- n numbers below n, each once, are all of them
each-is : (n : ℕ) (xs : List ℕ) → ((i : ℕ) → bag xs i ≤ below n i) → length xs ≡ n → (m : ℕ) → bag xs m ≡ below n m
each-is n xs few size m =
    let at_most = few m in
    ⊎_elim (λ inside. let some = missing n xs few size m inside in let one = below-at n m inside in omega arith)
    (λ past. let none = below-past n m past in omega arith) (cases_lt m n)

-- a seat that notes what it has, and finds as many magazines as the depot has
pub all-are : (g : Site) (w : Rack) (t : Seat (List ℕ) View) → Racked g w → IsOwned g.table.slots w.seat.me.0 →
    t.me ≡ (noting w.seat.me.0 w.seat.me.1, w.seat.me.1) → length t.me.1 ≡ g.table.slots → AreAll g t.me.1
all-are g w t r owned noted size =
    let same : names t.me.1 ≡ names w.seat.me.1 = ap (λ (s : Sat). names s.1) noted in
    each-is g.table.slots (names t.me.1)
    (λ i.
    let now = ap (λ (ms : List ℕ). bag ms i) same in
    let out = r.sound.out i in
    let once = owned.magazines i in
    omega arith)
    (names-size t.me.1 ∙ size)
