-- What a closed pool leaves is what the model says of it.
use Rattle.std.proofs.Common.{ℕ, ◌≡◌, ◌+◌, ◌<◌, List, [], ◌∷◌, length, map, refl, sym, ap, ◌∙◌, arith}
use Rattle.std.specs.Prelude.{max}
use Rattle.std.specs.List.{range_with_len}
use Rattle.std.proofs.lemmas.Grind.{same_number_lists}
use Rattle.std.proofs.lemmas.List.FromFn.{get_or-map-range_with_len, length-map-range_with_len}
use Rattle.commons.specs.Closing.{closed_of}
use Rattle.commons.specs.Lists.{Lists, IsTable, held_count, place_of}
use Rattle.mbuf.specs.Members.{Member}
use Rattle.pool_model.specs.Pool.{held_of}
use Rattle.pool_model.proofs.Numbered.{AreNumbered}
use Rattle.share_book.specs.inside.SitePool.{pool_with}
use Rattle.snapshot.specs.Closing.{closed_pool}
use Rattle.share_book.proofs.Counts.{AreMembers, counts_are_holds}

-- the counts of the lists are how often packets hold each element
counts_same : (s : Lists) (members : List Member) → IsTable s → length members ≡ s.limits.workers →
    AreMembers s members →
    map (λ i. max 1 (held_count (place_of s i))) (range_with_len 0 s.limits.population)
    ≡ map (λ i. max 1 (held_of members s.desks i)) (range_with_len 0 s.limits.population)
counts_same s members t l each =
    let n = s.limits.population in
    let kept = λ (i : ℕ). max 1 (held_count (place_of s i)) in
    let held = λ (i : ℕ). max 1 (held_of members s.desks i) in
    same_number_lists (map kept (range_with_len 0 n)) (map held (range_with_len 0 n))
    (length-map-range_with_len kept 0 n ∙ sym (length-map-range_with_len held 0 n))
    (λ k h.
    let within : k < n = omega (arith, h, length-map-range_with_len kept 0 n) in
    let same = ap (λ (count : ℕ). max 1 count) (counts_are_holds s members t l each k) in
    get_or-map-range_with_len kept 0 n k k 0 within (omega arith) ∙ same
    ∙ sym (get_or-map-range_with_len held 0 n k k 0 within (omega arith)))

-- so the lists leave what the pool leaves
pub closed_same : (s : Lists) (members : List Member) → IsTable s →
    length members ≡ s.limits.workers → AreMembers s members →
    closed_of s ≡ closed_pool (pool_with s members)
closed_same s members t l each =
    ap (λ (counts : List ℕ). record (closed_of s) { counts = counts })
    (counts_same s members t l each)

-- the numbers of workers in a row
pub row_of_numbers : (number : ℕ) (members : List Member) → AreNumbered number members →
    map (λ m. m.number) members ≡ range_with_len number (length members)
row_of_numbers number [] a = refl
row_of_numbers number (m ∷ members) a =
    rw a.0 (ap (λ (ns : List ℕ). number ∷ ns) (row_of_numbers (number + 1) members a.2))
