-- What a new worker is, and how all elements of a new pool come to be out with it.
use Rattle.std.proofs.Common.{◌≡◌, ◌≢◌, ℕ, zero, suc, ◌+◌, ◌-◌, ◌%◌, ◌^◌, ◌<◌, ◌≤◌, Bool, false, List, [], ◌∷◌, length, get_or, replicate, refl, sym, ap, ◌∙◌, ⊎_elim, arith}
use Rattle.std.proofs.Math.Nat.{mod-add-mod, add-mod_left}
use Rattle.std.proofs.lemmas.Bool.{cases_eq, cases_lt, le-ltb}
use Rattle.std.proofs.lemmas.List.{length-replicate}
use Rattle.commons.specs.Bag.{bag, one}
use Rattle.commons.proofs.Bags.{bag-nil, bag-single, one-same}
use Rattle.depot.specs.declared.rack.Rack.{Rack}
use Rattle.depot.specs.Racks.{Racked}
use Rattle.depot.specs.Resting.{IsBare, IsNumber}
use Rattle.depot.specs.Seats.{Site, lent}
use Rattle.depot.proofs.Bags.{one-other}
use Rattle.guard.specs.declared.worker.GuardWorker.{GuardWorker}
use Rattle.guard.specs.Guards.{resting_of, IsGuard, IsGuarded, Counted}
use Rattle.guard.specs.Keeping.{Keep}
use Rattle.guard.specs.Between.{Body}
use Rattle.guard.proofs.Workers.{worker, body-of, body-again}

falses-at : (n i : ℕ) → get_or (replicate n false) i false ≡ false
falses-at zero i = refl
falses-at (suc n) zero = refl
falses-at (suc n) (suc i) = falses-at n i

-- a new worker
pub guard-new : (g : Site) (t : Rack) (number : ℕ) (k : Keep) (ms : List Bool) (st : List ℕ) → IsGuarded g → k.items ≡ [] →
    ms ≡ replicate g.places false → Racked g t → ((i : ℕ) → lent t.seat.me i ≡ 0) →
    IsBare t.seat.me.0.resting → IsNumber t.seat.me.0.resting number → 0 < number → IsGuard g (worker t number k ms st 0)
guard-new g t number k ms st guarded none_kept none_marked racked settled bare numbered some_number = record {
  guarded = guarded;
  racked = racked;
  settled = settled;
  number = numbered;
  some = some_number;
  listed = λ i. ap (λ (xs : List ℕ). bag xs i) none_kept ∙ sym (ap (λ (xs : List ℕ). bag xs i) bare.listed);
  within = λ i h. ap (λ (xs : List ℕ). bag xs i) none_kept ∙ bag-nil i;
  size = ap (λ (l : List Bool). length l) none_marked ∙ length-replicate g.places false ∙ guarded.places;
  marks = λ i h. ap (λ (l : List Bool). get_or l i false) none_marked ∙ falses-at g.places i
      ∙ sym (le-ltb 0 (bag t.seat.me.0.resting.marks i)
      (let e = ap (λ (xs : List ℕ). bag xs i) bare.marks in let n = bag-nil i in omega arith));
  counted = counted_is;
}
  where
    nothing : (xs : List ℕ) → xs ≡ [] → length xs ≡ 0
    nothing xs is = ap (λ (l : List ℕ). length l) is

    counted_is : Counted 0 t.seat.me.0.resting
    counted_is =
        ap (λ (n : ℕ). n % 2 ^ 64)
        (let a = nothing t.seat.me.0.resting.gets bare.gets in let b = nothing t.seat.me.0.resting.stale bare.stale in
        let c = nothing t.seat.me.0.resting.puts bare.puts in let d = nothing t.seat.me.0.resting.strays bare.strays in
        let goal : 0 + length t.seat.me.0.resting.gets + length t.seat.me.0.resting.stale
        ≡ length t.seat.me.0.resting.puts + length t.seat.me.0.resting.strays = omega arith in goal)

-- what a worker is that has taken all loans of its pool in
pub body-taken : (g : Site) (w : GuardWorker) → IsGuard g w → (t : Rack) → Racked g t →
    t.seat.me.0.resting ≡ resting_of w → Body g (worker t w.number w.kept w.marks w.stale w.count)
body-taken g w is t racked rest =
    body-again g w (body-of g w is) t racked (resting_of w) rest refl refl w.kept is.listed is.within w.marks refl is.marks
    w.stale w.count is.counted

-- one more is out, of all that are to be
module _ (n p : ℕ) (inside : n < p) (had has : ℕ → ℕ) (left : (i : ℕ) → had i ≡ has i + bag (n ∷ []) i)
    (before : (i : ℕ) → i < n → had i ≡ 0) (behind : (i : ℕ) → n ≤ i → i < p → had i ≡ 1)
    (past : (i : ℕ) → p ≤ i → had i ≡ 0) where
  pub out-before : (i : ℕ) → i < n + 1 → has i ≡ 0
  out-before i h = ⊎_elim
      (λ (is : i ≡ n).
      let a = left i in let b = behind i (omega arith) (omega arith) in let single = bag-single n i in
      let once : one n i ≡ 1 = ap (λ (x : ℕ). one n x) is ∙ one-same n in omega arith)
      (λ (not : i ≢ n). let a = left i in let b = before i (below-it i not h) in omega arith) (cases_eq i n)
    where
      below-it : (i : ℕ) → i ≢ n → i < n + 1 → i < n
      below-it i not h = ⊎_elim (λ (x : i < n). x) (λ (y : n ≤ i). absurd (not (omega arith))) (cases_lt i n)

  pub out-behind : (i : ℕ) → n + 1 ≤ i → i < p → has i ≡ 1
  out-behind i h k =
      let a = left i in let b = behind i (omega arith) k in let single = bag-single n i in
      let none = one-other i n (λ (is : i ≡ n). absurd (omega arith)) in omega arith

  pub out-past : (i : ℕ) → p ≤ i → has i ≡ 0
  out-past i h = let a = left i in let b = past i h in omega arith

-- and all that are out are marked
pub out-marked : (n : ℕ) (had has : ℕ → ℕ) → ((i : ℕ) → has i ≡ had i + bag (n ∷ []) i) →
    ((i : ℕ) → i < n → 0 < had i) → (i : ℕ) → i < n + 1 → 0 < has i
out-marked n had has more before i h = ⊎_elim
    (λ (is : i ≡ n).
    let a = more i in let single = bag-single n i in
    let once : one n i ≡ 1 = ap (λ (x : ℕ). one n x) is ∙ one-same n in omega arith)
    (λ (not : i ≢ n). let a = more i in let b = before i (below-it i not h) in omega arith) (cases_eq i n)
  where
    below-it : (i : ℕ) → i ≢ n → i < n + 1 → i < n
    below-it i not h = ⊎_elim (λ (x : i < n). x) (λ (y : n ≤ i). absurd (not (omega arith))) (cases_lt i n)

-- and one less is counted
pub one-less : (c d n : ℕ) → d ≡ (c + (2 ^ 64 - 1)) % 2 ^ 64 → (c + n) % 2 ^ 64 ≡ 0 → (d + (n + 1)) % 2 ^ 64 ≡ 0
one-less c d n off was =
    ap (λ (x : ℕ). (x + (n + 1)) % 2 ^ 64) off
    ∙ mod-add-mod (c + (2 ^ 64 - 1)) (2 ^ 64) (n + 1)
    ∙ ap (λ (x : ℕ). x % 2 ^ 64) (let e : c + (2 ^ 64 - 1) + (n + 1) ≡ 2 ^ 64 + (c + n) = omega arith in e)
    ∙ add-mod_left (2 ^ 64) (c + n)
    ∙ was
