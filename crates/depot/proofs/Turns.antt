-- What is in magazines, once the one in front is another, or has other elements.
use Rattle.std.proofs.Common.{◌≡◌, ℕ, zero, suc, ◌+◌, ◌-◌, ◌*◌, ◌<◌, ◌≤◌, List, [], ◌∷◌, ◌++◌, length, refl, ap, ◌∙◌, arith}
use Rattle.std.proofs.lemmas.List.{map-append, length-append, length-map}
use Rattle.std.proofs.lemmas.List.Concat.{flat_map-cons, flat_map-append}
use Rattle.atomic_table.specs.Table.{rest, turned}
use Rattle.commons.specs.Bag.{bag}
use Rattle.commons.proofs.Bags.{bag-nil, bag-append}
use Rattle.depot.specs.Answers.{contents}
use Rattle.depot.specs.Racks.{Rows, front_of, with_front, IsFront, stock, room, Fit}
use Rattle.depot.specs.Seats.{names}

pub contents-cons : (x : ℕ × List ℕ) (xs : Rows) → contents (x ∷ xs) ≡ x.1 ++ contents xs
contents-cons x xs = flat_map-cons (λ (y : ℕ × List ℕ). y.1) x xs

-- the bag of what is in magazines
pub held-cons : (x : ℕ × List ℕ) (xs : Rows) (i : ℕ) → bag (contents (x ∷ xs)) i ≡ bag x.1 i + bag (contents xs) i
held-cons x xs i = ap (λ ys. bag ys i) (contents-cons x xs) ∙ bag-append x.1 (contents xs) i

pub held-append : (xs ys : Rows) (i : ℕ) → bag (contents (xs ++ ys)) i ≡ bag (contents xs) i + bag (contents ys) i
held-append xs ys i =
    ap (λ zs. bag zs i) (flat_map-append (λ (y : ℕ × List ℕ). y.1) xs ys) ∙ bag-append (contents xs) (contents ys) i

pub held-turned : (xs : Rows) (i : ℕ) → bag (contents (turned xs)) i ≡ bag (contents xs) i
held-turned [] i = refl
held-turned (x ∷ xs) i =
    let a = held-append xs (x ∷ []) i in
    let b = held-cons x xs i in
    let c = held-cons x [] i in
    let d = bag-nil i in
    omega arith

pub held-front : (m : ℕ) (ms : Rows) (xs : List ℕ) (i : ℕ) → IsFront m ms →
    bag (contents (with_front ms xs)) i + bag (front_of ms) i ≡ bag (contents ms) i + bag xs i
held-front m [] xs i is = let e = ap (λ (r : Rows). length r) is in absurd (omega arith)
held-front m (y ∷ ys) xs i is =
    let a = held-cons (y.0, xs) ys i in
    let b = held-cons y ys i in
    omega arith

-- the magazines' names
pub names-turned : (m : ℕ) (ms : List ℕ) (xs : Rows) → names xs ≡ m ∷ ms → names (turned xs) ≡ ms ++ m ∷ []
names-turned m ms [] is = let e = ap (λ (r : List ℕ). length r) is in absurd (omega arith)
names-turned m ms (x ∷ xs) is =
    map-append (λ (y : ℕ × List ℕ). y.0) xs (x ∷ [])
    ∙ ap (λ (r : List ℕ). tail_of r ++ head_of r ∷ []) is
  where
    tail_of : List ℕ → List ℕ
    tail_of [] = []
    tail_of (y ∷ ys) = ys

    head_of : List ℕ → ℕ
    head_of [] = 0
    head_of (y ∷ ys) = y

pub names-front : (ms : Rows) (xs : List ℕ) → names (with_front ms xs) ≡ names ms
names-front [] xs = refl
names-front (y ∷ ys) xs = refl

pub names-rest : (m : ℕ) (ms : List ℕ) (xs : Rows) → names xs ≡ m ∷ ms → names (rest xs) ≡ ms
names-rest m ms [] is = let e = ap (λ (l : List ℕ). length l) is in absurd (omega arith)
names-rest m ms (y ∷ ys) is = ap tail_of is
  where
    tail_of : List ℕ → List ℕ
    tail_of [] = []
    tail_of (z ∷ zs) = zs

-- there are as many names as magazines
pub names-size : (ms : Rows) → length (names ms) ≡ length ms
names-size ms = length-map ms (λ (y : ℕ × List ℕ). y.0)

-- where magazines are named so, this one stands in front
pub front-is : (front : ℕ) (others : List ℕ) (ms : Rows) → names ms ≡ front ∷ others → IsFront front ms
front-is front others [] is = let e = ap (λ (r : List ℕ). length r) is in absurd (omega arith)
front-is front others (x ∷ xs) is = ap (λ (r : List ℕ). (head_of r, x.1) ∷ xs) is
  where
    head_of : List ℕ → ℕ
    head_of [] = 0
    head_of (y ∷ ys) = y

-- how many elements there are, and how many more have room
pub stock-contents : (ms : Rows) → length (contents ms) ≡ stock ms
stock-contents [] = refl
stock-contents (x ∷ xs) =
    let a = stock-contents xs in
    let b : length (contents (x ∷ xs)) ≡ length x.1 + length (contents xs) =
    ap (λ (ys : List ℕ). length ys) (contents-cons x xs) ∙ length-append x.1 (contents xs) in
    omega arith

pub stock-append : (xs ys : Rows) → stock (xs ++ ys) ≡ stock xs + stock ys
stock-append [] ys = omega arith
stock-append (x ∷ xs) ys = let e = stock-append xs ys in omega arith

pub room-append : (rounds : ℕ) (xs ys : Rows) → room rounds (xs ++ ys) ≡ room rounds xs + room rounds ys
room-append rounds [] ys = omega arith
room-append rounds (x ∷ xs) ys = let e = room-append rounds xs ys in omega arith

pub fit-append : (rounds : ℕ) (xs ys : Rows) → Fit rounds xs → Fit rounds ys → Fit rounds (xs ++ ys)
fit-append rounds [] ys a b = b
fit-append rounds (x ∷ xs) ys a b = (a.0, fit-append rounds xs ys a.1 b)

pub stock-turned : (ms : Rows) → stock (turned ms) ≡ stock ms
stock-turned [] = refl
stock-turned (x ∷ xs) = let e = stock-append xs (x ∷ []) in omega arith

pub room-turned : (rounds : ℕ) (ms : Rows) → room rounds (turned ms) ≡ room rounds ms
room-turned rounds [] = refl
room-turned rounds (x ∷ xs) = let e = room-append rounds xs (x ∷ []) in omega arith

pub size-turned : (ms : Rows) → length (turned ms) ≡ length ms
size-turned [] = refl
size-turned (x ∷ xs) = let e = length-append xs (x ∷ []) in omega arith

pub fit-turned : (rounds : ℕ) (ms : Rows) → Fit rounds ms → Fit rounds (turned ms)
fit-turned rounds [] a = a
fit-turned rounds (x ∷ xs) a = fit-append rounds xs (x ∷ []) a.1 (a.0, tt)

pub stock-front : (m : ℕ) (ms : Rows) (xs : List ℕ) → IsFront m ms →
    stock (with_front ms xs) + length (front_of ms) ≡ stock ms + length xs
stock-front m [] xs is = let e = ap (λ (r : Rows). length r) is in absurd (omega arith)
stock-front m (y ∷ ys) xs is = omega arith

pub room-front : (rounds m : ℕ) (ms : Rows) (xs : List ℕ) → IsFront m ms →
    room rounds (with_front ms xs) + (rounds - length (front_of ms)) ≡ room rounds ms + (rounds - length xs)
room-front rounds m [] xs is = let e = ap (λ (r : Rows). length r) is in absurd (omega arith)
room-front rounds m (y ∷ ys) xs is = omega arith

pub size-front : (ms : Rows) (xs : List ℕ) → length (with_front ms xs) ≡ length ms
size-front [] xs = refl
size-front (y ∷ ys) xs = refl

pub front-front : (m : ℕ) (ms : Rows) (xs : List ℕ) → IsFront m ms → front_of (with_front ms xs) ≡ xs
front-front m [] xs is = let e = ap (λ (r : Rows). length r) is in absurd (omega arith)
front-front m (y ∷ ys) xs is = refl

pub fit-front : (rounds : ℕ) (ms : Rows) (xs : List ℕ) → Fit rounds ms → length xs ≤ rounds → Fit rounds (with_front ms xs)
fit-front rounds [] xs a b = a
fit-front rounds (y ∷ ys) xs a b = (b, a.1)

pub fit-rest : (rounds : ℕ) (ms : Rows) → Fit rounds ms → Fit rounds (rest ms)
fit-rest rounds [] a = a
fit-rest rounds (y ∷ ys) a = a.1

pub front-most : (rounds : ℕ) (ms : Rows) → Fit rounds ms → length (front_of ms) ≤ rounds
front-most rounds [] a = omega arith
front-most rounds (y ∷ ys) a = a.0

pub stock-most : (rounds : ℕ) (ms : Rows) → Fit rounds ms → rounds ≤ 128 → stock ms ≤ 128 * length ms
stock-most rounds [] a few = omega arith
stock-most rounds (y ∷ ys) a few = let e = stock-most rounds ys a.1 few in let f = a.0 in omega arith

pub room-most : (rounds : ℕ) (ms : Rows) → rounds ≤ 128 → room rounds ms ≤ 128 * length ms
room-most rounds [] few = omega arith
room-most rounds (y ∷ ys) few = let e = room-most rounds ys few in omega arith

-- where the magazine in front goes
pub stock-rest : (m : ℕ) (ms : Rows) → IsFront m ms → length (front_of ms) + stock (rest ms) ≡ stock ms
stock-rest m [] is = let e = ap (λ (r : Rows). length r) is in absurd (omega arith)
stock-rest m (y ∷ ys) is = refl

pub size-rest : (m : ℕ) (ms : Rows) → IsFront m ms → length (rest ms) + 1 ≡ length ms
size-rest m [] is = let e = ap (λ (r : Rows). length r) is in absurd (omega arith)
size-rest m (y ∷ ys) is = omega arith

-- how many magazines stand before the first one of some weight
abbrev pub past : ℕ → ℕ → ℕ
past zero n = suc n
past (suc k) n = 0

past-same : (k a b : ℕ) → (k ≡ 0 → a ≡ b) → past k a ≡ past k b
past-same zero a b h = ap suc (h refl)
past-same (suc k) a b h = refl

past-zero : (k n : ℕ) → k ≡ 0 → past k n ≡ suc n
past-zero zero n h = refl
past-zero (suc k) n h = absurd (omega arith)

-- before the first one with elements
abbrev pub empties : Rows → ℕ
empties [] = 0
empties (x ∷ xs) = past (length x.1) (empties xs)

empties-append : (xs ys : Rows) → 0 < stock xs → empties (xs ++ ys) ≡ empties xs
empties-append [] ys h = absurd (omega arith)
empties-append (x ∷ xs) ys h = past-same (length x.1) _ _ (λ e. empties-append xs ys (omega arith))

pub empties-turned : (ms : Rows) → length (front_of ms) ≡ 0 → 0 < stock ms → empties (turned ms) < empties ms
empties-turned [] none h = absurd (omega arith)
empties-turned (x ∷ xs) none h =
    let a = empties-append xs (x ∷ []) (omega arith) in
    let b = past-zero (length x.1) (empties xs) none in
    omega arith

-- before the first one with room
abbrev pub fulls : ℕ → Rows → ℕ
fulls rounds [] = 0
fulls rounds (x ∷ xs) = past (rounds - length x.1) (fulls rounds xs)

fulls-append : (rounds : ℕ) (xs ys : Rows) → 0 < room rounds xs → fulls rounds (xs ++ ys) ≡ fulls rounds xs
fulls-append rounds [] ys h = absurd (omega arith)
fulls-append rounds (x ∷ xs) ys h = past-same (rounds - length x.1) _ _ (λ e. fulls-append rounds xs ys (omega arith))

pub fulls-turned : (rounds : ℕ) (ms : Rows) → rounds - length (front_of ms) ≡ 0 → 0 < room rounds ms →
    fulls rounds (turned ms) < fulls rounds ms
fulls-turned rounds [] none h = absurd (omega arith)
fulls-turned rounds (x ∷ xs) none h =
    let a = fulls-append rounds xs (x ∷ []) (omega arith) in
    let b = past-zero (rounds - length x.1) (fulls rounds xs) none in
    omega arith

-- A walk that has turned some magazines, of which it knows the elements and the room: those to come,
-- and those that were passed.
pub record Walk (rounds count turns some more : ℕ) (ms : Rows) : Type 0 where
  pub ahead : Rows
  pub passed : Rows
  pub rows : ms ≡ ahead ++ passed
  pub size : length ahead + turns ≡ count
  pub sum : stock passed ≡ some
  pub space : room rounds passed ≡ more

pub walk-starts : (rounds : ℕ) (ms : Rows) (count : ℕ) → count ≡ length ms → Walk rounds count 0 0 0 ms
walk-starts rounds ms count is = record {
  ahead = ms;
  passed = [];
  rows = refl' ms;
  size = omega arith;
  sum = refl;
  space = refl;
}
  where
    refl' : (xs : Rows) → xs ≡ xs ++ []
    refl' [] = refl
    refl' (x ∷ xs) = ap (λ ys. x ∷ ys) (refl' xs)

assoc-cons : (xs ys : Rows) (x : ℕ × List ℕ) → (xs ++ ys) ++ x ∷ [] ≡ xs ++ (ys ++ x ∷ [])
assoc-cons [] ys x = refl
assoc-cons (z ∷ zs) ys x = ap (λ (r : Rows). z ∷ r) (assoc-cons zs ys x)

turn-walk : (ahead passed : Rows) (count turns : ℕ) → length ahead + turns ≡ count → turns < count →
    (x : ℕ × List ℕ) × (xs : Rows) × (ahead ≡ x ∷ xs)
turn-walk [] passed count turns size more = absurd (omega arith)
turn-walk (x ∷ xs) passed count turns size more = (x, xs, refl)

-- one more is turned
pub walk-on : (rounds count turns sum space n : ℕ) (ms ns : Rows) → Walk rounds count turns sum space ms → turns < count →
    n ≡ length (front_of ms) → ns ≡ turned ms → Walk rounds count (turns + 1) (sum + n) (space + (rounds - n)) ns
walk-on rounds count turns sum space n ms ns w more len is = go w.ahead w.passed w.rows w.size w.sum w.space
  where
    go : (ahead passed : Rows) → ms ≡ ahead ++ passed → length ahead + turns ≡ count → stock passed ≡ sum →
        room rounds passed ≡ space → Walk rounds count (turns + 1) (sum + n) (space + (rounds - n)) ns
    go [] passed rows size s r = absurd (omega arith)
    go (x ∷ xs) passed rows size s r = record {
      ahead = xs;
      passed = passed ++ x ∷ [];
      rows = is ∙ ap (λ (m : Rows). turned m) rows ∙ assoc-cons xs passed x;
      size = omega arith;
      sum =
          let a = stock-append passed (x ∷ []) in
          let b : length (front_of ms) ≡ length x.1 = ap (λ (m : Rows). length (front_of m)) rows in
          omega arith;
      space =
          let a = room-append rounds passed (x ∷ []) in
          let b : length (front_of ms) ≡ length x.1 = ap (λ (m : Rows). length (front_of m)) rows in
          omega arith;
    }

-- all are
pub walk-ends : (rounds count sum space : ℕ) (ms : Rows) → Walk rounds count count sum space ms →
    (stock ms ≡ sum) × (room rounds ms ≡ space)
walk-ends rounds count sum space ms w = go w.ahead w.rows w.size
  where
    go : (ahead : Rows) → ms ≡ ahead ++ w.passed → length ahead + count ≡ count → (stock ms ≡ sum) × (room rounds ms ≡ space)
    go [] rows size = (ap stock rows ∙ w.sum, ap (λ (m : Rows). room rounds m) rows ∙ w.space)
    go (x ∷ xs) rows size = absurd (omega arith)
