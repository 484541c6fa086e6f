-- Lists of elements that are searched and shortened.
use Rattle.std.proofs.Common.{◌≡◌, ◌≢◌, ℕ, zero, suc, ◌+◌, ◌-◌, ◌<◌, ◌≤◌, ◌==◌, true, false, List, [], ◌∷◌, ◌++◌, length, get_or, take, remove, refl, sym, ap, ◌∙◌, subst, arith, ⊎_elim}
use Rattle.std.proofs.lemmas.List.{map-append, take_more}
use Rattle.step_core.specs.Links.{last_value}
use Rattle.std.proofs.lemmas.Bool.{cases_eq, lt-ltb, le-ltb, cond-true, cond-false, eq-eqb, ne_eqb}
use Rattle.commons.specs.Bag.{bag}
use Rattle.commons.specs.Packets.{holds_of_packet, holds_of_seg, own_of_packet}
use Rattle.commons.specs.declared.packet.Seg.{Seg}
use Rattle.commons.proofs.PacketBags.{holds-suc}
use Rattle.step_core.specs.Bags.{has, without, minus}
use Rattle.step_core.proofs.Bags.{times-nil, times-cons, times-head, times-last, times-but_last, one_if-cases}

-- an element that stands at an index stands in the list
pub stands_at : (xs : List ℕ) (i : ℕ) → i < length xs → 0 < bag xs (get_or xs i 0)
stands_at [] i h = absurd (omega arith)
stands_at (x ∷ xs) zero h = omega (arith, times-head x xs)
stands_at (x ∷ xs) (suc i) h = omega (arith, stands_at xs i (omega arith), times-cons (get_or xs i 0) x xs)

pub has_at : (xs : List ℕ) (i x : ℕ) → i < length xs → get_or xs i 0 ≡ x → has xs x ≡ true
has_at xs i x h e = lt-ltb 0 (bag xs x) (subst (λ (y : ℕ). 0 < bag xs y) e (stands_at xs i h))

pub has_none : (xs : List ℕ) (x : ℕ) → bag xs x ≡ 0 → has xs x ≡ false
has_none xs x e = le-ltb 0 (bag xs x) (omega arith)

-- the list so far has none, with one more that isn't it
pub none_so_far : (xs : List ℕ) (i x : ℕ) → i < length xs → bag (take i xs) x ≡ 0 →
    get_or xs i 0 ≢ x → bag (take (i + 1) xs) x ≡ 0
none_so_far xs i x h e n =
    let t : take (i + 1) xs ≡ take i xs ++ get_or xs i 0 ∷ [] = take_more xs i 0 h in
    ap (λ ys. bag ys x) t ∙ (times-but_last x (get_or xs i 0) (take i xs) n ∙ e)

pub take_none : (xs : List ℕ) (x : ℕ) → bag (take 0 xs) x ≡ 0
take_none xs x = times-nil x

-- the first that is x
pub without_at : (xs : List ℕ) (i x : ℕ) → i < length xs → bag (take i xs) x ≡ 0 →
    get_or xs i 0 ≡ x → remove xs i ≡ without x xs
unfolding without
without_at [] i x h none e = absurd (omega arith)
without_at (y ∷ ys) zero x h none e = sym (cond-true (y == x) ys (y ∷ without x ys) (eq-eqb y x e))
without_at (y ∷ ys) (suc i) x h none e =
    let c = times-cons x y (take i ys) in
    ⊎_elim
    (λ s. absurd (let t = s.1 in omega arith))
    (λ s. ap (λ zs. y ∷ zs) (without_at ys i x (omega arith) (let t = s.1 in omega arith) e)
    ∙ sym (cond-false (y == x) ys (y ∷ without x ys) (ne_eqb y x s.0)))
    (one_if-cases y x)

pub without_none : (xs : List ℕ) (x : ℕ) → bag xs x ≡ 0 → without x xs ≡ xs
unfolding without
without_none [] x none = refl
without_none (y ∷ ys) x none =
    let c = times-cons x y ys in
    ⊎_elim
    (λ s. absurd (let t = s.1 in omega arith))
    (λ s. cond-false (y == x) ys (y ∷ without x ys) (ne_eqb y x s.0)
    ∙ ap (λ zs. y ∷ zs) (without_none ys x (let t = s.1 in omega arith)))
    (one_if-cases y x)

minus_push : (xs ys : List ℕ) (y : ℕ) → minus xs (ys ++ y ∷ []) ≡ without y (minus xs ys)
unfolding minus
minus_push xs [] y = refl
minus_push xs (z ∷ zs) y = minus_push (without z xs) zs y

pub minus_nothing : (xs ys : List ℕ) → xs ≡ minus xs (take 0 ys)
unfolding minus
minus_nothing xs ys = refl

pub minus_suc : (xs ys now : List ℕ) (i x : ℕ) → i < length ys → get_or ys i 0 ≡ x →
    now ≡ minus xs (take i ys) → without x now ≡ minus xs (take (i + 1) ys)
minus_suc xs ys now i x h e is =
    let t : take (i + 1) ys ≡ take i ys ++ get_or ys i 0 ∷ [] = take_more ys i 0 h in
    ap (without x) is ∙ (ap (λ y. without y (minus xs (take i ys))) (sym e)
    ∙ (sym (minus_push xs (take i ys) (get_or ys i 0)) ∙ ap (minus xs) (sym t)))

-- an element that was read, with any default
pub read_at : (xs : List ℕ) (i y : ℕ) → i < length xs → y ≡ get_or xs i y → get_or xs i 0 ≡ y
read_at [] i y h e = absurd (omega arith)
read_at (x ∷ xs) zero y h e = sym e
read_at (x ∷ xs) (suc i) y h e = read_at xs i y (omega arith) e

-- an element that was read from a list that is this one
pub read_same : (xs ys : List ℕ) (i y : ℕ) → xs ≡ ys → i < length ys → y ≡ get_or xs i y → get_or ys i 0 ≡ y
read_same xs ys i y same h e = read_at ys i y h (e ∙ ap (λ (zs : List ℕ). get_or zs i y) same)

pub none_in_all : (xs : List ℕ) (n x : ℕ) → length xs ≤ n → bag (take n xs) x ≡ 0 → bag xs x ≡ 0
none_in_all [] n x h e = times-nil x
none_in_all (y ∷ ys) zero x h e = absurd (omega arith)
none_in_all (y ∷ ys) (suc n) x h e =
    let c = times-cons x y (take n ys) in
    let d = times-cons x y ys in
    let m = none_in_all ys n x (omega arith) (omega arith) in
    omega arith

-- the last of some elements
last_value_at : (xs : List ℕ) → 0 < length xs → last_value xs ≡ suc (get_or xs (length xs - 1) 0)
last_value_at [] h = absurd (omega arith)
last_value_at (y ∷ []) h = refl
last_value_at (y ∷ z ∷ zs) h =
    let e : suc (length (z ∷ zs) - 1) ≡ length (y ∷ z ∷ zs) - 1 = omega arith in
    last_value_at (z ∷ zs) (omega arith) ∙ ap (λ k. suc (get_or (y ∷ z ∷ zs) k 0)) e

pub last_is : (xs : List ℕ) (x e : ℕ) → 0 < length xs → x ≡ get_or xs (length xs - 1) 0 →
    (x == e) ≡ (last_value xs == suc e)
last_is xs x e h is =
    let l : last_value xs ≡ suc x = last_value_at xs h ∙ ap suc (sym is) in
    ⊎_elim
    (λ (s : x ≡ e). eq-eqb x e s ∙ sym (eq-eqb (last_value xs) (suc e) (l ∙ ap suc s)))
    (λ (n : x ≢ e). ne_eqb x e n ∙ sym (ne_eqb (last_value xs) (suc e) (λ t. n (omega arith))))
    (cases_eq x e)

-- how often an element stands in the list so far, with one more
pub count_more : (xs : List ℕ) (i x y n : ℕ) → i < length xs → y ≡ get_or xs i 0 →
    n ≡ bag (take i xs) x → y ≡ x → n + 1 ≡ bag (take (i + 1) xs) x
count_more xs i x y n h e is s =
    let t : take (i + 1) xs ≡ take i xs ++ get_or xs i 0 ∷ [] = take_more xs i 0 h in
    let a = ap (λ ys. bag ys x) t in
    let b : bag (take i xs ++ get_or xs i 0 ∷ []) x ≡ bag (take i xs ++ x ∷ []) x =
    ap (λ z. bag (take i xs ++ z ∷ []) x) (sym e ∙ s) in
    omega (arith, times-last x (take i xs))

pub count_same : (xs : List ℕ) (i x y n : ℕ) → i < length xs → y ≡ get_or xs i 0 →
    n ≡ bag (take i xs) x → y ≢ x → n ≡ bag (take (i + 1) xs) x
count_same xs i x y n h e is s =
    let t : take (i + 1) xs ≡ take i xs ++ get_or xs i 0 ∷ [] = take_more xs i 0 h in
    let a = ap (λ ys. bag ys x) t in
    omega (arith, times-but_last x (get_or xs i 0) (take i xs) (λ z. s (e ∙ z)))

-- two lists taken out, one after the other
pub minus_append : (xs ys zs : List ℕ) → minus xs (ys ++ zs) ≡ minus (minus xs ys) zs
unfolding minus
minus_append xs [] zs = refl
minus_append xs (y ∷ ys) zs = minus_append (without y xs) ys zs

-- the holds of one segment more taken out
pub minus_segs : (xs now : List ℕ) (segs : List Seg) (i : ℕ) (d : Seg) → i < length segs →
    now ≡ minus xs (holds_of_packet (take i segs)) →
    minus now (holds_of_seg (get_or segs i d)) ≡ minus xs (holds_of_packet (take (i + 1) segs))
minus_segs xs now segs i d h is =
    ap (λ ys. minus ys (holds_of_seg (get_or segs i d))) is
    ∙ (sym (minus_append xs (holds_of_packet (take i segs)) (holds_of_seg (get_or segs i d)))
    ∙ ap (minus xs) (sym (holds-suc segs i d h)))

pub minus_none : (xs : List ℕ) → xs ≡ minus xs []
unfolding minus
minus_none xs = refl

-- the own elements of one segment more
own_suc : (segs : List Seg) (i : ℕ) (d : Seg) → i < length segs →
    own_of_packet (take (i + 1) segs) ≡ own_of_packet (take i segs) ++ (get_or segs i d).elem ∷ []
own_suc segs i d h =
    let t : take (i + 1) segs ≡ take i segs ++ get_or segs i d ∷ [] = take_more segs i d h in
    ap own_of_packet t ∙ map-append (λ (s : Seg). s.elem) (take i segs) (get_or segs i d ∷ [])

-- the own element of one segment more taken out
pub minus_owns : (xs now : List ℕ) (segs : List Seg) (i : ℕ) (d : Seg) → i < length segs →
    now ≡ minus xs (own_of_packet (take i segs)) →
    without (get_or segs i d).elem now ≡ minus xs (own_of_packet (take (i + 1) segs))
minus_owns xs now segs i d h is =
    ap (without (get_or segs i d).elem) is
    ∙ (sym (minus_push xs (own_of_packet (take i segs)) (get_or segs i d).elem)
    ∙ ap (minus xs) (sym (own_suc segs i d h)))
