-- What holds between any two steps of a guarded pool, in its own words.
use Rattle.std.specs.Prelude.{◌≡◌, ℕ, ◌+◌, ◌<◌, ◌≤◌, length}
use Rattle.depot.specs.declared.view.Shape.{Shape}
use Rattle.depot.specs.Bags.{total}
use Rattle.depot.specs.Layout.{place_in}
use Rattle.depot.specs.Resting.{rests, named, got, put_out, out_with}
use Rattle.depot.specs.Rule.{Depoted, at_home, hand_of, Ruled}

-- the number at an element's place
abbrev pub number_at : Depoted → ℕ → ℕ
number_at s i = place_in s.words (length s.homes) i

-- at how many seats an element is out
abbrev pub out_of_pool : Depoted → ℕ → ℕ
out_of_pool s i = out_with s.views (number_at s i) i

-- Each element is in one place: in a magazine at home, in one hand, or at rest.
abbrev pub OnePlace : Type 0
OnePlace = (shape : Shape) (s : Depoted) → Ruled shape s → (i : ℕ) → i < shape.population →
    total at_home s.homes i + total hand_of s.views i + rests (number_at s i) ≡ 1

-- What rests does so at one seat; and what is out rests.
abbrev pub OneSeat : Type 0
OneSeat = (shape : Shape) (s : Depoted) → Ruled shape s → (i : ℕ) →
    (0 < number_at s i → named s.views (number_at s i) ≡ 1) × (out_of_pool s i ≤ rests (number_at s i))

-- Of all gets and puts of an element by all seats, each get but the last is followed by a put: as
-- often as it was got it was put while it was out, or once less, and that just where it is out.
abbrev pub PutBetweenGets : Type 0
PutBetweenGets = (shape : Shape) (s : Depoted) → Ruled shape s → (i : ℕ) →
    (got s.views i ≡ put_out s.views i + out_of_pool s i) × (out_of_pool s i ≤ 1)
