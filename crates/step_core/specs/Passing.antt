-- Elements pass from one worker's hand to another's.
use Rattle.std.specs.Prelude.{◌≡◌, ◌≢◌, ℕ, suc, ◌+◌, ◌<◌, ◌≤◌, List, ◌++◌, length, slice_set, Option, Some, None, IfSome, ⊤}
use Rattle.commons.specs.Bag.{bag}
use Rattle.step_core.specs.Bags.{Includes}
use Rattle.step_core.specs.declared.view.Chain.{Chain}
use Rattle.step_core.specs.declared.view.View.{View}
use Rattle.step_core.specs.World.{World, view_at}
use Rattle.step_core.specs.Law.{Lawful}
use Rattle.step_core.specs.Headers.{HeaderLaw}
use Rattle.step_core.specs.Kept.{IsWorld}
use Rattle.step_core.specs.declared.step.Outcome.{Outcome}
use Rattle.step_core.specs.declared.step.Step.{Step}
use Rattle.step_core.specs.Table.{Table, Hand, Same, Where}
use Rattle.step_core.specs.Shows.{ShowsTable}
use Rattle.step_core.specs.Steps.{play, event_of}

-- a view with another hand
abbrev pub with_hand : View → List ℕ → View
with_hand v hand = record v { hand = hand }

-- the first list is the second without the third, in any order
abbrev pub IsWithout : List ℕ → List ℕ → List ℕ → Type 0
IsWithout left hand xs = (i : ℕ) → bag left i + bag xs i ≡ bag hand i

-- the hand has both the chain's elements and these
abbrev pub HasBoth : List ℕ → List ℕ → Chain → Type 0
HasBoth hand xs chain = (i : ℕ) → bag chain.items i + bag xs i ≤ bag hand i

-- none of the elements is of the view's chain
abbrev pub AreUnchained : View → List ℕ → Type 0
AreUnchained v xs = IfSome v.chain (HasBoth v.hand xs)

-- the views once the one at j has these elements left in its hand, and the one at k has xs ahead
abbrev pub passed : List View → ℕ → ℕ → List ℕ → List ℕ → List View
passed views j k xs left =
    slice_set (slice_set views j (with_hand (view_at views j) left)) k
    (with_hand (view_at views k) (xs ++ (view_at views k).hand))

-- The second world is the first, but for two hands: that of the view at j is without xs, none of
-- which is of its chain, and that of the view at k has xs ahead.
pub record PassesHand (w u : World) (j k : ℕ) (xs : List ℕ) : Type 0 where
  pub giver : j < length w.views
  pub taker : k < length w.views
  pub left : List ℕ
  pub taken : IsWithout left (view_at w.views j).hand xs
  pub unchained : AreUnchained (view_at w.views j) xs
  pub after : u ≡ record w { views = passed w.views j k xs left }

-- whatever of a worker's hand isn't of its chain may pass to any worker
abbrev pub HandsMayPass : Type 0
HandsMayPass =
    (w : World) (j k : ℕ) (xs : List ℕ) → j < length w.views → k < length w.views →
    Includes (view_at w.views j).hand xs → AreUnchained (view_at w.views j) xs →
    (u : World) × PassesHand w u j k xs

-- what passes to another worker with a part leaves the world lawful
abbrev pub PassingKeepsLaw : Type 0
PassingKeepsLaw =
    (w u : World) (j k : ℕ) (xs : List ℕ) → j ≢ k → PassesHand w u j k xs →
    (view_at w.views k).part ≢ 0 → Lawful w → Lawful u

-- what passes to another worker leaves the world a pool's
abbrev pub PassingKeepsWorld : Type 0
PassingKeepsWorld =
    (w u : World) (j k : ℕ) (xs : List ℕ) → j ≢ k → PassesHand w u j k xs → IsWorld w → IsWorld u

-- and keeps the law of headers
abbrev pub PassingKeepsHeaders : Type 0
PassingKeepsHeaders =
    (w u : World) (j k : ℕ) (xs : List ℕ) → j ≢ k → PassesHand w u j k xs → HeaderLaw w →
    HeaderLaw u

-- In the table the elements have gone from the one worker's hand to the other's, and each other
-- element is where it was.
abbrev pub PassingMovesThem : Type 0
PassingMovesThem =
    (w u : World) (j k : ℕ) (xs : List ℕ) → j ≢ k → PassesHand w u j k xs →
    (t r : Table) → ShowsTable w t → ShowsTable u r → (i : ℕ) → i < w.limits.population →
    Where i xs ((t i ≡ Hand (suc j)) × (r i ≡ Hand (suc k))) (Same (t i) (r i))

-- both are refused, or both are played with one outcome, and between the worlds afterwards the same
-- elements have passed
abbrev pub SameBut : ℕ → ℕ → List ℕ → Option (Outcome × World) → Option (Outcome × World) → Type 0
SameBut j k xs None None = ⊤
SameBut j k xs None (Some b) = ⊥
SameBut j k xs (Some a) None = ⊥
SameBut j k xs (Some a) (Some b) = (a.0 ≡ b.0) × PassesHand a.1 b.1 j k xs

-- a step of a third worker is the same whether or not the elements have passed
abbrev pub OthersDoTheSame : Type 0
OthersDoTheSame =
    (w u : World) (j k : ℕ) (xs : List ℕ) → j ≢ k → PassesHand w u j k xs →
    (worker : ℕ) (s : Step) → worker ≢ suc j → worker ≢ suc k →
    SameBut j k xs (play w worker s) (play u worker s) × (event_of w worker s ≡ event_of u worker s)
