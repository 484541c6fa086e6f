-- The counts of the lists are how often packets hold each element.
use Rattle.std.proofs.Common.{ℕ, suc, ◌≡◌, ◌+◌, ◌-◌, ◌<◌, List, [], ◌∷◌, length, get_or, refl, sym, ◌∙◌, arith}
use Rattle.std.specs.Prelude.{sum_by}
use Rattle.std.proofs.lemmas.List.Sums.{sum_by-cons}
use Rattle.commons.specs.Lists.{Lists, IsTable, held_count, place_of}
use Rattle.commons.specs.Packets.{held_in}
use Rattle.mbuf.specs.Members.{Member}
use Rattle.pool_model.specs.Pool.{held_of, nobody}
use Rattle.share_book.specs.inside.SitePool.{IsMember}

-- each worker owns its part of the lists
abbrev pub AreMembers : Lists → List Member → Type 0
AreMembers s members = (n : ℕ) → n < s.limits.workers → IsMember s n (get_or members n (nobody s.limits))

-- two sums whose terms agree at each index
pub sums_agree : {X Y : Type 0} (f : X → ℕ) (g : Y → ℕ) (xs : List X) (ys : List Y) (c : X) (d : Y) →
    length xs ≡ length ys →
    ((k : ℕ) → k < length ys → f (get_or xs k c) ≡ g (get_or ys k d)) → sum_by f xs ≡ sum_by g ys
sums_agree f g [] [] c d l h = refl
sums_agree f g [] (y ∷ ys) c d l h = absurd (omega arith)
sums_agree f g (x ∷ xs) [] c d l h = absurd (omega arith)
sums_agree f g (x ∷ xs) (y ∷ ys) c d l h =
    let first : f x ≡ g y = h 0 (omega arith) in
    let rest = sums_agree f g xs ys c d (omega arith) (λ k m. h (suc k) (omega arith)) in
    sum_by-cons f x xs ∙ omega (arith, first, rest) ∙ sym (sum_by-cons g y ys)

-- a worker's row of the lists shows how often its packets hold an element
row_of : (s : Lists) (k i : ℕ) (m : Member) → IsMember s k m → get_or (get_or s.holds k []) i 0 ≡ held_in m.table i
row_of s k i m is = let same : k + 1 - 1 ≡ k = omega arith in
    let held = rw same at (is.own.share.held i) in omega (arith, held)

-- the count of an element is how often the packets of the members and those on desks hold it
pub counts_are_holds : (s : Lists) (members : List Member) → IsTable s → length members ≡ s.limits.workers →
    AreMembers s members → (i : ℕ) → held_count (place_of s i) ≡ held_of members s.desks i
counts_are_holds s members t l each i =
    let workers =
    sums_agree (λ row. get_or row i 0) (λ (m : Member). held_in m.table i) s.holds members []
    (nobody s.limits) (t.workers ∙ sym l)
    (λ k b. row_of s k i (get_or members k (nobody s.limits)) (each k (omega arith))) in
    omega (arith, t.counted i, workers)
