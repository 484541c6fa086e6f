-- Laws of the rows of holds, and of headers.
use Rattle.std.proofs.Common.{ℕ, zero, suc, ◌≡◌, ◌≢◌, ◌+◌, ◌<◌, ◌≤◌, ◌==◌, inl, inr, Bool, true, false, cond, List, [], length, get_or, set, length-set, get_or-set_same, get_or-set_other, Option, Some, None, refl, sym, ◌∙◌, arith}
use Rattle.std.specs.Prelude.{sum_by}
use Rattle.std.proofs.lemmas.List.Sums.{sum_by-set}
use Rattle.std.proofs.lemmas.Bool.Decides.{nat_tests}
use Rattle.std.proofs.lemmas.Option.{none-some}
use Rattle.commons.specs.Lists.{Lists, IsTable, is_owner, owners, disowned, owner_left}
use Rattle.commons.proofs.Places.{apart_or_same}
use Rattle.commons.proofs.Sames.{some-is}

-- a row holds an element at most as often as all rows do
pub hold_le : (holds : List (List ℕ)) (k i : ℕ) → k < length holds →
    get_or (get_or holds k []) i 0 ≤ sum_by (λ row. get_or row i 0) holds
hold_le holds k i l = omega (arith, sum_by-set (λ (row : List ℕ). get_or row i 0) holds k [] [] l)

-- where one row changes, the sum changes as that row does
pub holds_changed : (holds : List (List ℕ)) (k i n j : ℕ) → k < length holds →
    sum_by (λ row. get_or row j 0) (set holds k (set (get_or holds k []) i n)) + get_or (get_or holds k []) j 0
    ≡ sum_by (λ row. get_or row j 0) holds + get_or (set (get_or holds k []) i n) j 0
holds_changed holds k i n j l = sum_by-set (λ (row : List ℕ). get_or row j 0) holds k (set (get_or holds k []) i n) [] l

-- at another element than the one that is written the sum of holds stays
pub sum-elsewhere : (holds : List (List ℕ)) (k i n j : ℕ) → k < length holds → j ≢ i →
    sum_by (λ row. get_or row j 0) (set holds k (set (get_or holds k []) i n)) ≡ sum_by (λ row. get_or row j 0) holds
sum-elsewhere holds k i n j l h =
    omega (arith, holds_changed holds k i n j l, get_or-set_other (get_or holds k []) i j n 0 h)

-- at that element the row's old number is replaced
pub sum-there : (holds : List (List ℕ)) (k i n : ℕ) → k < length holds → i < length (get_or holds k []) →
    sum_by (λ row. get_or row i 0) (set holds k (set (get_or holds k []) i n)) + get_or (get_or holds k []) i 0
    ≡ sum_by (λ row. get_or row i 0) holds + n
sum-there holds k i n l m = omega (arith, holds_changed holds k i n i l, get_or-set_same (get_or holds k []) i n 0 m)

-- the rows keep their lengths
pub length-row : (holds : List (List ℕ)) (k i n v size : ℕ) → k < length holds →
    length (get_or holds k []) ≡ size → length (get_or holds v []) ≡ size →
    length (get_or (set holds k (set (get_or holds k []) i n)) v []) ≡ size
length-row holds k i n v size l a b =
    elim (apart_or_same k v) [
      | inl e ↦ rw (e, get_or-set_same holds k (set (get_or holds k []) i n) [] l, length-set (get_or holds k []) i n) a
      | inr e ↦ rw (get_or-set_other holds k v (set (get_or holds k []) i n) [] e) b
    ]

-- the row that changed, there and elsewhere, and another row
pub row-there : (holds : List (List ℕ)) (k i n : ℕ) → k < length holds → i < length (get_or holds k []) →
    get_or (get_or (set holds k (set (get_or holds k []) i n)) k []) i 0 ≡ n
row-there holds k i n l m =
    rw (get_or-set_same holds k (set (get_or holds k []) i n) [] l)
    (get_or-set_same (get_or holds k []) i n 0 m)

-- in the row that changed, another element's number is as before
pub row-elsewhere : (holds : List (List ℕ)) (k i n j : ℕ) → k < length holds → j ≢ i →
    get_or (get_or (set holds k (set (get_or holds k []) i n)) k []) j 0 ≡ get_or (get_or holds k []) j 0
row-elsewhere holds k i n j l h =
    rw (get_or-set_same holds k (set (get_or holds k []) i n) [] l)
    (get_or-set_other (get_or holds k []) i j n 0 h)

-- another worker's row is as before at each element
pub row-other : (holds : List (List ℕ)) (k i n v j : ℕ) → v ≢ k →
    get_or (get_or (set holds k (set (get_or holds k []) i n)) v []) j 0 ≡ get_or (get_or holds v []) j 0
row-other holds k i n v j h = rw (get_or-set_other holds k v (set (get_or holds k []) i n) [] h) refl

-- a header that one worker gives up was no other worker's
disown_other : (b : Bool) (v u : ℕ) → (b ≡ true → u ≢ v) →
    ◌≡◌ {A = ℕ} (is_owner v (cond b None (Some u))) (cond (u == v) 1 0)
disown_other true v u h = let e : u ≢ v = h refl in grind (arith, nat_tests)
disown_other false v u h = refl

-- after the test whether the header is worker w's, it is not
disown_same : (b : Bool) (w u : ℕ) → (b ≡ false → u ≢ w) → ◌≡◌ {A = ℕ} (is_owner w (cond b None (Some u))) 0
disown_same true w u h = refl
disown_same false w u h = let e : u ≢ w = h refl in grind (arith, nat_tests)

-- what one worker gives up changes no header of another
pub disowned-other : (v w : ℕ) (owner : Option ℕ) → v ≢ w → is_owner v (disowned w owner) ≡ is_owner v owner
disowned-other v w None h = refl
disowned-other v w (Some u) h =
    disown_other (u == w) v u (λ e. let k : u ≡ w = grind (arith, nat_tests) in λ m. h (sym m ∙ k))

-- who gave a header up doesn't own it
pub disowned-same : (w : ℕ) (owner : Option ℕ) → is_owner w (disowned w owner) ≡ 0
disowned-same w None = refl
disowned-same w (Some u) = disown_same (u == w) w u (λ e. grind (arith, nat_tests))

-- how many holds one worker has left changes no header of another
pub owner_left-other : (v w left : ℕ) (owner : Option ℕ) → v ≢ w →
    is_owner v (owner_left w left owner) ≡ is_owner v owner
owner_left-other v w zero owner h = disowned-other v w owner h
owner_left-other v w (suc left) owner h = refl

-- a header that is given up, or kept, has one owner at most
disown_le : (b : Bool) (u : ℕ) → owners (cond b None (Some u)) ≤ 1
disown_le true u = omega arith
disown_le false u = omega arith

-- the end of a hold brings no owner where there was none
pub owner_left-le : (w left : ℕ) (owner : Option ℕ) → owners (owner_left w left owner) ≤ owners owner
owner_left-le w zero None = omega arith
owner_left-le w zero (Some u) = disown_le (u == w) u
owner_left-le w (suc left) owner = omega arith

pub owner_is : (v w : ℕ) → 0 < is_owner v (Some w) → w ≡ v
owner_is v w h = grind (arith, nat_tests)

-- who owns a header is a worker of a pool of this many workers
abbrev pub IsWorker : ℕ → Option ℕ → Type 0
IsWorker workers None = Unit {0}
IsWorker workers (Some v) = (1 ≤ v) × (v ≤ workers)

-- an owner's bounds, asked of the owner that stands there
worker_of : (workers : ℕ) (owner : Option ℕ) →
    ((w : ℕ) → owner ≡ Some w → (1 ≤ w) × (w ≤ workers)) → IsWorker workers owner
worker_of workers None h = tt
worker_of workers (Some v) h = h v refl

-- the bounds read off again, for the worker that stands there as owner
worker_is : (workers w : ℕ) (owner : Option ℕ) → IsWorker workers owner → owner ≡ Some w → (1 ≤ w) × (w ≤ workers)
worker_is workers w None h e = absurd (none-some w e)
worker_is workers w (Some v) h e = let f : v ≡ w = some-is v w e in (omega (arith, h.0), omega (arith, h.1))

-- each owner is a worker of the pool, by the table, and for it
pub owned_at : (s : Lists) → IsTable s → (i : ℕ) → IsWorker s.limits.workers (get_or s.headers i None)
owned_at s t i = worker_of s.limits.workers (get_or s.headers i None) (λ w e. t.owned w i e)

-- each header's owner is a worker of the pool where each place of the list says so
pub owned_by_all : (workers : ℕ) (headers : List (Option ℕ)) →
    ((i : ℕ) → IsWorker workers (get_or headers i None)) → (w i : ℕ) →
    get_or headers i None ≡ Some w → (1 ≤ w) × (w ≤ workers)
owned_by_all workers headers h w i e = worker_is workers w (get_or headers i None) (h i) e

-- an owner that is left is the one that was
disown_worker : (b : Bool) (workers u : ℕ) → IsWorker workers (Some u) → IsWorker workers (cond b None (Some u))
disown_worker true workers u h = tt
disown_worker false workers u h = h

-- the end of a hold leaves the same owner or none, so a worker of the pool
pub owner_left-worker : (workers w left : ℕ) (owner : Option ℕ) → IsWorker workers owner →
    IsWorker workers (owner_left w left owner)
owner_left-worker workers w zero None h = tt
owner_left-worker workers w zero (Some u) h = disown_worker (u == w) workers u h
owner_left-worker workers w (suc left) owner h = h

-- a worker whose header it is, is numbered from 1
pub owner_low : (workers v : ℕ) (owner : Option ℕ) → IsWorker workers owner → 0 < is_owner v owner → 1 ≤ v
owner_low workers v None h p = absurd (omega arith)
owner_low workers v (Some u) h p = let e : u ≡ v = owner_is v u p in omega (arith, h.0)

pub owner-same : (w : ℕ) → is_owner w (Some w) ≡ 1
owner-same w = grind (arith, nat_tests)

pub owner-other : (v w : ℕ) → v ≢ w → is_owner v (Some w) ≡ 0
owner-other v w h = grind (arith, nat_tests)
