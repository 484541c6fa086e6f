-- Words as flags: what a test, a change of one bit and a search of the lowest say of them.
use Rattle.std.proofs.Common.{◌≡◌, ◌≢◌, ℕ, zero, suc, ◌+◌, ◌*◌, ◌/◌, ◌%◌, ◌^◌, ◌<◌, Bool, true, false, List, length, length-set, get_or, set, get_or-set_same, get_or-set_other, Some, None, refl, sym, ap, ◌∙◌, arith, pow-suc, inl, inr}
use Rattle.std.specs.Prelude.{◌==◌, cond, count_by, count_ones, map, not, position, nat_lt, sum_by}
use Rattle.std.specs.List.{position_or_len, range_with_len}
use Rattle.std.specs.Int.{bit_at}
use Rattle.std.specs.Int.Count.{ones_step}
use Rattle.std.proofs.lemmas.Nat.{ones-le}
use Rattle.std.proofs.lemmas.Nat.Bits.{bit_at-zero, bit_at_lowest, bit_at-suc}
use Rattle.std.proofs.lemmas.Bool.{cases_eq, cases_lt, cond-true, cond-false, lt-ltb, le-ltb, eq-eqb}
use Rattle.std.proofs.lemmas.List.{ext_get_or}
use Rattle.std.proofs.lemmas.List.FromFn.{get_or-map-range_with_len, length-map-range_with_len}
use Rattle.std.proofs.lemmas.List.Sums.{prefix_len_is, sum_by-cons}
use Rattle.mbuf.specs.inside.Bits.{is_set, flags_of, IsLowestBit}

-- a slot's flag is its bit
pub flag_at : (words : List ℕ) (slot : ℕ) → slot < 256 → get_or (flags_of words) slot false ≡ is_set words slot
flag_at words slot h = get_or-map-range_with_len (is_set words) 0 256 slot slot false h (omega arith)

-- four words have 256 flags
pub length-flags : (words : List ℕ) → length (flags_of words) ≡ 256
length-flags words = length-map-range_with_len (is_set words) 0 256

-- one of the bits of a slot's word changes
flag_with : (words : List ℕ) (slot word : ℕ) (b : Bool) → length words ≡ 4 → slot < 256 →
    (bit_at word (slot % 64) == 1) ≡ b →
    ((k : ℕ) → k < 64 → k ≢ slot % 64 → bit_at word k ≡ bit_at (get_or words (slot / 64) 0) k) →
    (k : ℕ) → k < 256 → is_set (set words (slot / 64) word) k ≡ get_or (set (flags_of words) slot b) k false
flag_with words slot word b len below same others k within =
    let row : slot / 64 < length words = omega (arith, len, below) in
    elim (cases_eq k slot) [
      | inl e ↦
          rw (
            e,
            get_or-set_same words (slot / 64) word 0 row,
            get_or-set_same (flags_of words) slot b false
                (omega (arith, length-flags words, below)),
          ) same
      | inr e ↦ elim (cases_eq (k / 64) (slot / 64)) [
        | inl f ↦
            let apart : k % 64 ≢ slot % 64 = λ g. e (omega (arith, f, g)) in
            rw (
              get_or-set_other (flags_of words) slot k b false e,
              flag_at words k within,
              f,
              get_or-set_same words (slot / 64) word 0 row,
              others (k % 64) (omega arith) apart,
            )
            refl
        | inr f ↦
            rw (
              get_or-set_other (flags_of words) slot k b false e,
              flag_at words k within,
              get_or-set_other words (slot / 64) (k / 64) word 0 f,
            ) refl
      ]
    ]

-- A word of which one bit changes, and no other, changes the one flag.
pub flags-set : (words : List ℕ) (slot word : ℕ) (b : Bool) → length words ≡ 4 → slot < 256 →
    (bit_at word (slot % 64) == 1) ≡ b →
    ((k : ℕ) → k < 64 → k ≢ slot % 64 → bit_at word k ≡ bit_at (get_or words (slot / 64) 0) k) →
    flags_of (set words (slot / 64) word) ≡ set (flags_of words) slot b
flags-set words slot word b len below same others =
    let new = set words (slot / 64) word in
    ext_get_or false (flags_of new) (set (flags_of words) slot b)
    (length-flags new ∙ sym (length-set (flags_of words) slot b ∙ length-flags words))
    (λ k h. let within : k < 256 =
    omega (arith, h, length-flags new) in flag_at new k within
    ∙ flag_with words slot word b len below same others k within)

-- ---- the lowest

-- the place of the first flag that is up
first_up : (flags : List Bool) (k : ℕ) → k < length flags → get_or flags k false ≡ true →
    ((i : ℕ) → i < k → get_or flags i false ≡ false) → position (λ free. free) flags ≡ Some k
first_up flags k within up down =
    let p : Bool → Bool = λ free. free in
    let at : position_or_len p flags ≡ k =
    prefix_len_is not flags k false (omega arith) (λ i l. ap not (down i l)) (λ l. ap not up) in
    rw at (cond-true (nat_lt k (length flags)) (Some k) None (lt-ltb k (length flags) within))

-- a search finds nothing where no flag is up
none_up : (flags : List Bool) → ((i : ℕ) → i < length flags → get_or flags i false ≡ false) →
    position (λ free. free) flags ≡ None
none_up flags down =
    let p : Bool → Bool = λ free. free in
    let at : position_or_len p flags ≡ length flags =
    prefix_len_is not flags (length flags) false (omega arith) (λ i l. ap not (down i l))
    (λ l. absurd (omega arith)) in
    rw at (cond-false (nat_lt (length flags) (length flags)) (Some (length flags)) None
    (le-ltb (length flags) (length flags) (omega arith)))

-- a word's lowest bit is the lowest free slot, where the words before it have none
pub lowest_is : (words : List ℕ) (index bit : ℕ) → length words ≡ 4 → index < 4 →
    ((j : ℕ) → j < index → get_or words j 0 ≡ 0) →
    IsLowestBit (get_or words index 0) bit → position (λ free. free) (flags_of words) ≡ Some (64 * index + bit)
lowest_is words index bit len within before lowest =
    let low : bit < 64 = lowest.within in
    let slot = 64 * index + bit in
    let row : slot / 64 ≡ index = omega (arith, low) in
    let column : slot % 64 ≡ bit = omega (arith, low) in
    first_up (flags_of words) slot (omega (arith, length-flags words, low))
    (flag_at words slot (omega (arith, low))
    ∙ rw (row, column) (eq-eqb (bit_at (get_or words index 0) bit) 1 lowest.up))
    (λ i l. flag_at words i (omega (arith, low)) ∙ elim (cases_lt (i / 64) index) [
      | inl b ↦ rw (before (i / 64) b) (ap (λ (n : ℕ). n == 1) (bit_at-zero (i % 64)))
      | inr b ↦
          let same : i / 64 ≡ index = omega (arith, low, l) in
          rw same (ap (λ (n : ℕ). n == 1) (lowest.down (i % 64) (omega (arith, low, l, same))))
    ])

-- where no word has a bit, no slot is free
pub none_is : (words : List ℕ) → length words ≡ 4 → ((j : ℕ) → j < 4 → get_or words j 0 ≡ 0) →
    position (λ free. free) (flags_of words) ≡ None
none_is words len zeros =
    none_up (flags_of words) (λ i l.
    let within : i < 256 = omega (arith, l, length-flags words) in
    flag_at words i within ∙ rw (zeros (i / 64) (omega arith)) (ap (λ (n : ℕ). n == 1) (bit_at-zero (i % 64))))

-- ---- how many

-- a bit that is up counts 1, and one that is down counts 0
bit_counts : (bit : ℕ) → bit < 2 → cond (bit == 1) 1 0 ≡ bit
bit_counts zero h = refl
bit_counts (suc zero) h = refl
bit_counts (suc (suc bit)) h = absurd (omega (arith, h))

-- of flags that are the bits of a number, as many are up as the number has ones
ones_run : (k a n m : ℕ) (p : ℕ → Bool) → n < 2 ^ k →
    ((i : ℕ) → i < k → p (a + i) ≡ (bit_at n i == 1)) →
    count_by (λ free. free) (map p (range_with_len a (k + m)))
    ≡ count_ones n + count_by (λ free. free) (map p (range_with_len (a + k) m))
ones_run zero a n m p fits same =
    let here : a + 0 ≡ a = omega arith in
    let none : count_ones n ≡ 0 = omega (arith, ones-le 0 n fits) in
    let no_more : 0 + m ≡ m = omega arith in
    rw (here, none, no_more) (omega arith)
ones_run (suc k) a n m p fits same =
    let here : a + 0 ≡ a = omega arith in
    let on : a + suc k ≡ a + 1 + k = omega arith in
    let first = rw here at (same 0 (omega arith)) ∙ ap (λ (b : ℕ). b == 1) (bit_at_lowest n) in
    let one : cond (p a) 1 0 ≡ n % 2 = rw first (bit_counts (n % 2) (omega arith)) in
    let more : suc k + m ≡ suc (k + m) = omega arith in
    let rest =
    ones_run k (a + 1) (n / 2) m p (omega (arith, fits, pow-suc 2 k)) (λ i l.
    let next : a + 1 + i ≡ a + suc i = omega arith in
    rw next (same (suc i) (omega (arith, l)) ∙ ap (λ (b : ℕ). b == 1) (bit_at-suc n i))) in
    rw (on, more) (omega (
      arith,
      sum_by-cons (λ (free : Bool). cond free 1 0) (p a) (map p (range_with_len (a + 1) (k + m))),
      one,
      rest,
      ones_step n,
    ))

-- Of the flags of n words, from the word w on, as many are up as the words have ones.
ones_are : (words : List ℕ) → ((k : ℕ) → get_or words k 0 < 2 ^ 64) → (w n : ℕ) →
    count_by (λ free. free) (map (is_set words) (range_with_len (64 * w) (64 * n)))
    ≡ sum_by (λ k. count_ones (get_or words k 0)) (range_with_len w n)
ones_are words fits w zero = refl
ones_are words fits w (suc n) =
    let more : 64 * suc n ≡ 64 + 64 * n = omega arith in
    let next : 64 * w + 64 ≡ 64 * (w + 1) = omega arith in
    let first =
    ones_run 64 (64 * w) (get_or words w 0) (64 * n) (is_set words) (fits w) (λ i l.
    let row : (64 * w + i) / 64 ≡ w = omega (arith, l) in
    let column : (64 * w + i) % 64 ≡ i = omega (arith, l) in
    rw (row, column) refl) in
    rw more (first ∙ rw next (ap (λ (m : ℕ). count_ones (get_or words w 0) + m) (ones_are words fits (w + 1) n))
    ∙ sym (sum_by-cons (λ (k : ℕ). count_ones (get_or words k 0)) w (range_with_len (w + 1) n)))

-- four words have a one for each flag that is up
pub ones_of_four : (words : List ℕ) → ((k : ℕ) → get_or words k 0 < 2 ^ 64) →
    count_ones (get_or words 0 0) + count_ones (get_or words 1 0) + count_ones (get_or words 2 0)
    + count_ones (get_or words 3 0)
    ≡ count_by (λ free. free) (flags_of words)
ones_of_four words fits =
    let first : count_ones (get_or words 0 0) ≡ 0 + count_ones (get_or words 0 0) = omega arith in
    ap (λ (n : ℕ). n + count_ones (get_or words 1 0) + count_ones (get_or words 2 0) + count_ones (get_or words 3 0)) first
    ∙ sym (ones_are words fits 0 4)
