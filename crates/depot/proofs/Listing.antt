-- A list of which part after part is taken out or put in.
use Rattle.std.proofs.Common.{◌≡◌, ℕ, ◌+◌, ◌-◌, ◌≤◌, List, ◌++◌, length, take, drop, sym, ap, ◌∙◌, subst, arith}
use Rattle.std.proofs.lemmas.List.{append_assoc, length-append, length-take, length-take-le, length-drop, take-append-drop, take-take, take_at, drop-take}
use borrow.Rule.Slice.PartMut.{put_mid, post_of}
use Rattle.commons.specs.Bag.{bag}
use Rattle.commons.proofs.Bags.{bag-append, bag-take-le}
use Rattle.depot.specs.Racks.{Keeps, Lets}
use Rattle.depot.specs.Rule.{Sat}
use Rattle.depot.specs.Seats.{lent}
use Rattle.depot.proofs.Racking.{lets-on, lets-keep, keep-lets}

-- the part that follows
abbrev pub part_of : ℕ → ℕ → List ℕ → List ℕ
part_of a m xs = take ((a + m) - a) (drop a xs)

pub part-length : (a m : ℕ) (xs : List ℕ) → a + m ≤ length xs → length (part_of a m xs) ≡ m
part-length a m xs h =
    let p = length-take ((a + m) - a) (drop a xs) in let q = length-drop a xs in omega arith

pub take-split : (a m : ℕ) (xs : List ℕ) → take (a + m) xs ≡ take a xs ++ part_of a m xs
take-split a m xs =
    let same : m ≡ (a + m) - a = omega arith in
    sym (take-append-drop a (take (a + m) xs))
    ∙ ap (λ (l : List ℕ). l ++ drop a (take (a + m) xs)) (take-take a (a + m) xs (omega arith))
    ∙ ap (λ (l : List ℕ). take a xs ++ l) (drop-take a m xs ∙ ap (λ (k : ℕ). take k (drop a xs)) same)

-- a list whose part was written
pub take-put : (a k m : ℕ) (xs ys : List ℕ) → a ≤ length xs → length ys ≡ m → take (a + m) (put_mid a k xs ys) ≡ take a xs ++ ys
take-put a k m xs ys h e =
    let size = length-append (take a xs) ys in
    let first = length-take-le a xs h in
    ap (λ (l : List ℕ). take (a + m) l) (sym (append_assoc (take a xs) ys (post_of a k xs)))
    ∙ take_at (take a xs ++ ys) (post_of a k xs) (a + m) (omega arith)

-- one part more is taken out
pub lets-more : (rounds a k m : ℕ) (xs ys : List ℕ) (s t u v : Sat) → a ≤ length xs → length ys ≡ m →
    Lets rounds (take a xs) s t → Keeps rounds t u → Lets rounds ys u v → Lets rounds (take (a + m) (put_mid a k xs ys)) s v
lets-more rounds a k m xs ys s t u v h e x y z =
    subst (λ (l : List ℕ). Lets rounds l s v) (sym (take-put a k m xs ys h e))
    (lets-on rounds (take a xs) ys s u v (lets-keep rounds (take a xs) s t u x y) z)

lets-swap : (rounds : ℕ) (xs ys : List ℕ) (a b : Sat) → Lets rounds (xs ++ ys) a b → Lets rounds (ys ++ xs) a b
lets-swap rounds xs ys a b x = record {
  size = x.size;
  stock = let p = x.stock in let q = length-append xs ys in let r = length-append ys xs in omega arith;
  room = let p = x.room in let q = length-append xs ys in let r = length-append ys xs in omega arith;
  lent = λ i. let p = x.lent i in let q = bag-append xs ys i in let r = bag-append ys xs i in omega arith;
}

-- one part more is put in
pub lays-more : (rounds a m : ℕ) (xs : List ℕ) (s t u v : Sat) → Lets rounds (take a xs) t s → Keeps rounds t u →
    Lets rounds (part_of a m xs) v u → Lets rounds (take (a + m) xs) v s
lays-more rounds a m xs s t u v x y z =
    subst (λ (l : List ℕ). Lets rounds l v s) (sym (take-split a m xs))
    (lets-swap rounds (part_of a m xs) (take a xs) v s
    (lets-on rounds (part_of a m xs) (take a xs) v u s z (keep-lets rounds (take a xs) t u s y x)))

-- it was lent
pub part-lent : (rounds a m : ℕ) (xs : List ℕ) (s t u : Sat) (i : ℕ) → bag xs i ≤ lent s i → Lets rounds (take a xs) t s →
    Keeps rounds t u → bag (part_of a m xs) i ≤ lent u i
part-lent rounds a m xs s t u i all x y =
    let whole = bag-take-le (a + m) xs i in
    let split : bag (take (a + m) xs) i ≡ bag (take a xs ++ part_of a m xs) i = ap (λ (l : List ℕ). bag l i) (take-split a m xs) in
    let two = bag-append (take a xs) (part_of a m xs) i in
    let before = x.lent i in
    let same = y.lent i in
    omega arith
