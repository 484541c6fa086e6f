-- A depot that is filled by one run after another.
use Rattle.std.proofs.Common.{◌≡◌, ℕ, ◌+◌, ◌%◌, ◌^◌, List, length, refl, ap, ◌∙◌, arith}
use Rattle.std.specs.List.{range_with_len}
use Rattle.std.proofs.lemmas.List.FromFn.{length-range_with_len}
use Rattle.commons.specs.Bag.{bag}
use Rattle.depot.specs.declared.loans.Loans.{Loans}
use Rattle.depot.specs.declared.worker.Worker.{Worker}
use Rattle.depot.specs.Lending.{FillsTo, SameLoans, count_of, elements}
use Rattle.depot.proofs.Opens.{put-so-far, others-stay}

pub fills-none : (w : Worker) (x : Loans) → FillsTo 0 w x w x
fills-none w x = record { put = λ i h. absurd (omega arith); others = λ i h. refl; count = omega arith }

count-on : (c d e n m : ℕ) → d % 2 ^ 64 ≡ (c + n) % 2 ^ 64 → e ≡ (d + m) % 2 ^ 64 →
    e % 2 ^ 64 ≡ (c + (n + m)) % 2 ^ 64
count-on c d e n m had put = omega arith

-- one more run was put
pub fills-more : (a n : ℕ) (xs : List ℕ) (w : Worker) (x : Loans) (v : Worker) (y : Loans) (u : Worker) (z : Loans) →
    xs ≡ range_with_len a n → FillsTo a w x v y →
    ((i : ℕ) → bag (elements z) i + bag xs i ≡ bag (elements y) i) →
    count_of u ≡ (count_of v + length xs) % 2 ^ 64 → FillsTo (a + n) w x u z
fills-more a n xs w x v y u z is had put count = record {
  put = put-so-far a n xs (λ i. bag (elements y) i) (λ i. bag (elements z) i) (λ i. bag (elements x) i) is had.put had.others put;
  others = others-stay a n xs (λ i. bag (elements y) i) (λ i. bag (elements z) i) (λ i. bag (elements x) i) is had.others put;
  count = count-on (count_of w) (count_of v) (count_of u) a n had.count
      (count ∙ ap (λ (m : ℕ). (count_of v + m) % 2 ^ 64)
      (ap (λ (l : List ℕ). length l) is ∙ length-range_with_len a n));
}

-- and then one was refused
pub fills-still : (n : ℕ) (w : Worker) (x : Loans) (v : Worker) (y : Loans) (u : Worker) (z : Loans) → FillsTo n w x v y →
    SameLoans y z → count_of u ≡ count_of v → FillsTo n w x u z
fills-still n w x v y u z had same count = record {
  put = λ i h. let a = had.put i h in let b = same i in omega arith;
  others = λ i h. let a = had.others i h in let b = same i in omega arith;
  count = ap (λ (m : ℕ). m % 2 ^ 64) count ∙ had.count;
}
