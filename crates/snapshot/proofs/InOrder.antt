-- Lists whose elements give the numbers from 1 on.
use Rattle.std.proofs.Common.{ℕ, zero, suc, ◌≡◌, ◌+◌, ◌<◌, List, [], ◌∷◌, ◌++◌, length, get_or, take, map, refl, sym, ap, ◌∙◌, arith}
use Rattle.std.specs.List.{range_with_len}
use Rattle.std.proofs.lemmas.List.{length-map, get_or-map, map_more, take_all}
use Rattle.std.proofs.lemmas.List.FromFn.{length-range_with_len, get_or-range_with_len}

-- the numbers from 1 on, and one more
range_more : (a n : ℕ) → range_with_len a (n + 1) ≡ range_with_len a n ++ (a + n) ∷ []
range_more a zero = let e : a + 0 ≡ a = omega arith in rw e refl
range_more a (suc n) =
    let next : suc n + 1 ≡ suc (n + 1) = omega arith in
    let last : a + 1 + n ≡ a + suc n = omega arith in
    rw (next, ← last) (ap (λ (xs : List ℕ). a ∷ xs) (range_more (a + 1) n))

-- one more element that gives its number
pub in_order_more : {X : Type 0} (f : X → ℕ) (xs : List X) (k : ℕ) (x : X) → k < length xs → x ≡ get_or xs k x →
    f x ≡ k + 1 → map f (take k xs) ≡ range_with_len 1 k → map f (take (k + 1) xs) ≡ range_with_len 1 (k + 1)
in_order_more f xs k x l is e h =
    let last : f (get_or xs k x) ≡ 1 + k = ap f (sym is) ∙ omega arith in
    rw (map_more f xs k x l, h, last) (sym (range_more 1 k))

-- all give theirs
pub in_order_all : {X : Type 0} (f : X → ℕ) (xs : List X) (k n : ℕ) → length xs ≡ k → length xs ≡ n →
    map f (take k xs) ≡ range_with_len 1 k → map f xs ≡ range_with_len 1 n
in_order_all f xs k n is len h =
    let all : take k xs ≡ xs = take_all k xs (omega arith) in
    let same : k ≡ n = omega arith in
    rw (all, same) at h

-- there are that many
pub in_order_length : {X : Type 0} (f : X → ℕ) (xs : List X) (n : ℕ) → map f xs ≡ range_with_len 1 n → length xs ≡ n
in_order_length f xs n h = sym (length-map xs f) ∙ ap length h ∙ length-range_with_len 1 n

-- each gives its own
pub in_order_each : {X : Type 0} (f : X → ℕ) (xs : List X) (n k : ℕ) (x : X) → map f xs ≡ range_with_len 1 n →
    k < length xs → x ≡ get_or xs k x → f x ≡ k + 1
in_order_each f xs n k x h l is =
    let len : k < n = omega (arith, in_order_length f xs n h) in
    let at_k : f (get_or xs k x) ≡ 1 + k =
    sym (get_or-map f xs k x 0 l) ∙ ap (λ (ys : List ℕ). get_or ys k 0) h ∙ get_or-range_with_len 1 n k 0 len in
    ap f is ∙ at_k ∙ omega arith
