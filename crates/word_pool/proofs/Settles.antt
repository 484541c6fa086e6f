-- What a seat at rest left is a whole pool at rest, with the shares of that seat.
use Rattle.std.proofs.Common.{ℕ, suc, ◌≡◌, ◌+◌, ◌-◌, ◌<◌, List, [], ◌∷◌, Option, Some, None, length, map, refl, ap, ◌∙◌, subst, arith}
use Rattle.std.specs.Prelude.{slice_index_or}
use Rattle.std.specs.List.{range_with_len}
use Rattle.commons.specs.Bounds.{IsPool}
use Rattle.commons.specs.declared.closed.Closed.{Closed}
use Rattle.commons.specs.declared.limits.Limits.{Limits}
use Rattle.mbuf.specs.Members.{Member}
use Rattle.book.specs.Books.{shares_in}
use Rattle.book.specs.Left.{AreLeftWhole, IsLawfulByTypes, IsLeftWhole}
use Rattle.book.specs.Places.{Places}
use Rattle.book.specs.Settling.{snapshot_with}
use Rattle.book.specs.TwinBooks.{AreTwinPools}
use Rattle.book.specs.declared.closed_twin.ClosedTwin.{ClosedTwin}
use Rattle.step_core.specs.declared.view.View.{View}
use Rattle.word_pool.specs.Leaving.{HasAllShares, IsLeftAtRest}
use Rattle.word_pool.specs.Shares.{AreSharesOf}
use Rattle.word_pool.specs.TwinShares.{AreTwinShares}
use Rattle.word_pool.proofs.TwinLeft.{firsts, seconds, first_left, second_left}
use Rattle.word_pool.proofs.WholeLeft.{AreNumbered, left_lawful}

pub whole_settles : (l : Limits) (c : Closed) (v : View) (members : List Member) → IsPool l → IsLeftAtRest l c v →
    AreSharesOf members v → AreNumbered l.workers members → IsLeftWhole l c members
whole_settles l c v members pool left shares numbers =
    record { range = pool; numbers = numbers; lawful = left_lawful l c v members left shares numbers }

-- the shares of a book that has all are numbered as its places are
numbered : (n : ℕ) (places : List (Option Member)) →
    ((k : ℕ) (m : Member) → slice_index_or places k None ≡ Some m → m.number ≡ n + k) →
    ((k : ℕ) → k < length places → slice_index_or places k None ≡ None → ⊥)
    → map (λ (m : Member). m.number) (shares_in places) ≡ range_with_len n (length places)
numbered n [] each full = refl
numbered n (None ∷ places) each full = absurd (full 0 (omega arith) refl)
numbered n (Some m ∷ places) each full =
    let rest = numbered (n + 1) places (λ k s e. let h = each (suc k) s e in omega arith)
    (λ k inside e. full (suc k) (omega arith) e) in
    let here : m.number ≡ n = (let h = each 0 m refl in omega arith) in
    ap (λ (x : ℕ). x ∷ map (λ (s : Member). s.number) (shares_in places)) here ∙ ap (λ (xs : List ℕ). n ∷ xs) rest

pub book_settles : (b : Places) (c : Closed) (v : View) → HasAllShares b → IsLeftAtRest b.limits c v →
    AreSharesOf (shares_in b.places) v → IsLawfulByTypes (snapshot_with b c)
book_settles b c v all left shares =
    left_lawful b.limits c v (shares_in b.places) left shares
    (numbered 1 b.places (λ k m e. let h = (all.each k m e).number in omega arith)
    (λ k inside e.
    all.full (suc k)
    (record {
      first = omega arith;
      last = (let n = all.workers in omega arith);
      empty = subst (λ (n : ℕ). slice_index_or b.places n None ≡ None) (let s : k ≡ suc k - 1 = omega arith in s) e;
    }))
    ∙ ap (range_with_len 1) all.workers)

pub twins_settle : (c : ClosedTwin) (v u : View) → AreTwinPools c.first_limits c.second_limits →
    IsLeftAtRest c.first_limits c.first v → IsLeftAtRest c.second_limits c.second u → AreTwinShares c.shares.items v u →
    AreNumbered c.first_limits.workers (firsts c.shares.items) →
    AreNumbered c.second_limits.workers (seconds c.shares.items) → AreLeftWhole c
twins_settle c v u pools left others shares one two =
    record {
      pools = pools.twins;
      first_numbers = one;
      second_numbers = two;
      first_lawful =
          first_left c.first_limits c.first v c.shares.items left shares.first one
          (two ∙ ap (range_with_len 1) pools.twins.workers);
      second_lawful =
          second_left c.second_limits c.second u c.shares.items others pools.no_desks shares.second two;
    }
