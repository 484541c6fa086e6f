-- What rows of numbers count.
use Rattle.std.proofs.Common.{ℕ, ◌≡◌, ◌+◌, ◌<◌, ◌≤◌, List, [], ◌∷◌, take, get_or, length, refl, ◌∙◌, arith}
use Rattle.std.specs.Prelude.{sum_by}
use Rattle.std.proofs.lemmas.List.Sums.{sum_by-cons, sum_by_more}
use Rattle.commons.specs.Bag.{bag, one}
use Rattle.commons.specs.Packets.{own_of_packet}
use Rattle.commons.specs.declared.packet.Seg.{Seg}
use Rattle.commons.proofs.Bags.{bag-nil, bag-cons, bag-take-le, one-same}
use Rattle.snapshot.specs.inside.Tallies.{HasMet, IsRow}

-- nothing was met
pub met-none : (times : ℕ → ℕ) (row : List ℕ) → ((i : ℕ) → i < length row → get_or row i 0 ≤ 4294967295) →
    ((i : ℕ) → times i ≡ 0) → HasMet times row row
met-none times row fits none = record { len = refl; counts = λ i l. omega (arith, fits i l, none i) }

-- the same elements in other words
pub met-as : (these those : ℕ → ℕ) (old new : List ℕ) → HasMet these old new →
    ((i : ℕ) → those i ≡ these i) → HasMet those old new
met-as these those old new met same = record { len = met.len; counts = λ i l. omega (arith, met.counts i l, same i) }

-- these were met, and then those
pub met-then : (first then all : ℕ → ℕ) (old mid new : List ℕ) → HasMet first old mid → HasMet then mid new →
    ((i : ℕ) → all i ≡ first i + then i) → HasMet all old new
met-then first then all old mid new f t same = record {
  len = t.len ∙ f.len;
  counts = λ i l. let within : i < length mid = omega (arith, f.len) in
      omega (arith, t.counts i within, f.counts i l, same i);
}

-- a list with one element more
pub bag-suc : (xs : List ℕ) (k i : ℕ) → k < length xs →
    bag (take (k + 1) xs) i ≡ bag (take k xs) i + one (get_or xs k 0) i
unfolding bag
bag-suc xs k i l = sum_by_more (λ x. one x i) xs k 0 l

-- an element of a list is below what all its elements are below
pub element-below : (xs : List ℕ) (k size : ℕ) → k < length xs →
    ((e : ℕ) → 0 < bag xs e → e < size) → get_or xs k 0 < size
element-below xs k size l below =
    let e = get_or xs k 0 in
    below e (omega (arith, bag-suc xs k e l, bag-take-le (k + 1) xs e, one-same e))

-- the own elements of segments, one by one
own-sum : (segs : List Seg) (i : ℕ) → bag (own_of_packet segs) i ≡ sum_by (λ seg. one seg.elem i) segs
own-sum [] i = bag-nil i
own-sum (seg ∷ segs) i = omega (
  arith,
  bag-cons seg.elem (own_of_packet segs) i,
  own-sum segs i,
  sum_by-cons (λ (s : Seg). one s.elem i) seg segs,
)

-- one segment more adds its own element
pub own-suc : (segs : List Seg) (k i : ℕ) (d : Seg) → k < length segs →
    bag (own_of_packet (take (k + 1) segs)) i ≡ bag (own_of_packet (take k segs)) i + one (get_or segs k d).elem i
own-suc segs k i d l =
    omega (
      arith,
      own-sum (take (k + 1) segs) i,
      own-sum (take k segs) i,
      sum_by_more (λ (s : Seg). one s.elem i) segs k d l,
    )

-- where no number of a row is above 1, no element of it was met twice
pub row-once : (size : ℕ) (times : ℕ → ℕ) (row : List ℕ) → IsRow size times row →
    ((i : ℕ) → i < length row → get_or row i 0 ≤ 1) → (e : ℕ) → e < size → times e ≤ 1
row-once size times row is once e l = omega (arith, once e (omega (arith, is.len)), is.counts e l)
