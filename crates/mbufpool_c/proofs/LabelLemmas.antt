-- The labels of a new worker's slots.
use Rattle.std.proofs.Common.{ℕ, ◌≡◌, ◌+◌, ◌<◌, List, arith, get_or, length, sym, subst, ◌∙◌}
use Rattle.std.proofs.lemmas.List.{ext_get_or}
use Rattle.std.proofs.lemmas.List.FromFn.{get_or-range_with_len, length-range_with_len}
use Rattle.mbufpool_c.specs.Labels.{AreLabels, first_labels}

-- each is its slot
first_at : (k d : ℕ) → k < 256 → get_or first_labels k d ≡ k
first_at k d low =
    let same : 0 + k ≡ k = omega arith in
    get_or-range_with_len 0 256 k d low ∙ same

-- a list in which each is its place
pub are_first : (of : List ℕ) → length of ≡ 256 → ((k d : ℕ) → k < 256 → get_or of k d ≡ k) → of ≡ first_labels
are_first of count each =
    ext_get_or 0 of first_labels (count ∙ sym (length-range_with_len 0 256)) (λ k low.
    let within : k < 256 = omega (arith, low, count) in
    each k 0 within ∙ sym (first_at k 0 within))

-- each ends with its slot
pub first_are : (of : List ℕ) → of ≡ first_labels → AreLabels of
first_are of is = subst AreLabels (sym is) (record {
  count = length-range_with_len 0 256;
  each = λ k d low.
      let same : get_or first_labels k d ≡ k = first_at k d low in
      omega (arith, same, low);
})
