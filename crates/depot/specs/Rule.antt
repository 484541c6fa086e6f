-- The rule of a depot's table.
use Rattle.std.specs.Prelude.{◌≡◌, ℕ, suc, ◌+◌, ◌<◌, ◌≤◌, List, [], ◌∷◌, length, Some, None, IfSome, unwrap_or}
use Rattle.std.specs.List.{range_with_len}
use mathlib.Core.Option as maybe
use mathlib.Core.Option.{some, none}
use lib.ListN.{get_elem?}
use Rattle.atomic_table.specs.Table.{State, Me}
use Rattle.commons.specs.Bag.{bag}
use Rattle.depot.specs.declared.view.Stack.{Stack}
use Rattle.depot.specs.declared.view.Stack.TheVariants.{Full, Partial, Empty}
use Rattle.depot.specs.declared.view.Look.{Look}
use Rattle.depot.specs.declared.view.Chain.{Chain}
use Rattle.depot.specs.declared.view.Shape.{Shape}
use Rattle.depot.specs.declared.view.View.{View}
use Rattle.depot.specs.Bags.{below, total}
use Rattle.depot.specs.Heads.{top_of, count_of}
use Rattle.depot.specs.Layout.{head_in, place_at, link_in, place_in}
use Rattle.depot.specs.Resting.{all_numbers, rests, Guarded}

-- what a seat has: its view, and the magazines that are out with it, each with its elements
abbrev pub Sat : Type 0
Sat = Me (List ℕ) View

abbrev pub Depoted : Type 0
Depoted = State (List ℕ) View

-- the elements of a magazine that is at home
abbrev pub at_home : maybe.Option (List ℕ) → List ℕ
at_home none = []
at_home (some xs) = xs

abbrev pub hand_of : View → List ℕ
hand_of v = v.hand

abbrev pub out_of : View → List ℕ
out_of v = v.out

-- these magazines are linked from this top on
abbrev pub Linked : List ℕ → ℕ → List ℕ → Type 0
Linked words top [] = top ≡ 0
Linked words top (m ∷ ms) = (top ≡ suc m) × Linked words (link_in words m) ms

-- a magazine of this stack, of so many rounds, has such elements
abbrev pub Suits : ℕ → Stack → List ℕ → Type 0
Suits rounds Full xs = length xs ≡ rounds
Suits rounds Partial xs = (0 < length xs) × (length xs ≤ rounds)
Suits rounds Empty xs = xs ≡ []

-- how many rounds a magazine has, as a seat knows it
abbrev pub rounds_of : View → ℕ
rounds_of v = unwrap_or v.rounds 0

-- The head that was looked at isn't later than the head that is; and where it is that, the link of
-- its top is as it was read.
pub record Sees (words : List ℕ) (l : Look) : Type 0 where
  pub later : count_of l.head ≤ count_of (head_in words l.stack)
  pub link : (m : ℕ) → l.head ≡ head_in words l.stack → top_of l.head ≡ suc m → link_in words m ≡ l.link

-- the magazine is out with the seat, and this is its link
pub record Chained (words magazines : List ℕ) (c : Chain) : Type 0 where
  pub out : 0 < bag magazines c.magazine
  pub link : link_in words c.magazine ≡ c.link

-- how often a magazine stands on the stacks or is out, and an element in magazines at home, in hands
-- or at its place
abbrev pub places_of : (Stack → List ℕ) → Depoted → ℕ → ℕ
places_of stacks s m =
    bag (stacks Full) m + bag (stacks Partial) m + bag (stacks Empty) m + total out_of s.views m

abbrev pub elements_of : Depoted → ℕ → ℕ
elements_of s i =
    total at_home s.homes i + total hand_of s.views i + rests (place_in s.words (length s.homes) i)

-- what a seat knows is so
pub record Knows (shape : Shape) (words : List ℕ) (v : View) : Type 0 where
  pub population : IfSome v.population (λ p. p ≡ shape.population)
  pub rounds : IfSome v.rounds (λ n. n ≡ shape.rounds)
  pub look : IfSome v.look (Sees words)
  pub chain : IfSome v.chain (Chained words v.out)

-- Each magazine is on one stack or out with one seat, and at most one is on that of partial ones; each
-- element is in one magazine that is at home, or in one hand, or rests at its place.
pub record Ruled (shape : Shape) (s : Depoted) : Type 0 where
  pub stacks : Stack → List ℕ
  pub room : length s.homes < 65535
  pub words : length s.words ≡ place_at (length s.homes) shape.places
  -- a link is 0, or a magazine + 1
  pub links : (m : ℕ) → m < length s.homes → link_in s.words m ≤ length s.homes
  pub linked : (k : Stack) → Linked s.words (top_of (head_in s.words k)) (stacks k)
  pub places : (m : ℕ) → places_of stacks s m ≡ below (length s.homes) m
  pub lone : length (stacks Partial) ≤ 1
  pub elements : (i : ℕ) → elements_of s i ≡ below shape.population i
  pub home : (k : Stack) (m : ℕ) → 0 < bag (stacks k) m →
      (xs : List ℕ) × (get_elem? s.homes m ≡ some (some xs)) × Suits shape.rounds k xs
  pub out : (m : ℕ) → 0 < total out_of s.views m → get_elem? s.homes m ≡ some none
  pub guarded : Guarded (length s.homes) s.words s.views
  pub known : (id : ℕ) (v : View) → get_elem? s.views id ≡ some v → Knows shape s.words v

-- the view of the first seat, which has all elements
abbrev pub first_view : Shape → View
first_view shape = record {
  population = Some shape.population;
  rounds = Some shape.rounds;
  hand = range_with_len 0 shape.population;
  out = [];
  kept = [];
  look = None;
  chain = None;
  heads = [];
  lost = 0;
  let_out = [];
  taken_in = [];
  resting = all_numbers;
}
