-- Elements that rest outside of magazines and hands: each has a place, a word that is the number of
-- the seat at which it rests, or 0. There it is out, where that seat has marked it, or kept in the
-- seat's list.
use Rattle.std.specs.Prelude.{◌≡◌, ℕ, suc, ◌+◌, ◌-◌, ◌<◌, ◌≤◌, Bool, true, false, ◌&&◌, not, nat_lt, List, [], ◌∷◌, ◌++◌, ◌==◌, if◌then◌else◌, min, replicate, sum_by}
use mathlib.Core.Option.{some}
use lib.ListN.{get_elem?}
use Rattle.commons.specs.Bag.{bag}
use Rattle.depot.specs.declared.view.Resting.{Resting}
use Rattle.depot.specs.declared.view.View.{View}
use Rattle.depot.specs.Bags.{below, without}
use Rattle.depot.specs.Layout.{place_in}

-- a seat with which nothing rests
abbrev pub no_resting : Resting
no_resting = record {
  from = 0;
  to = 0;
  marks = [];
  listed = [];
  gets = [];
  puts = [];
  strays = [];
  stale = [];
  found = [];
}

-- nothing rests with the seat, nor has it got or put anything
pub record IsBare (r : Resting) : Type 0 where
  pub marks : r.marks ≡ []
  pub listed : r.listed ≡ []
  pub gets : r.gets ≡ []
  pub puts : r.puts ≡ []
  pub strays : r.strays ≡ []
  pub stale : r.stale ≡ []

-- the first seat has all numbers but 0
abbrev pub all_numbers : Resting
all_numbers = record no_resting { from = 1; to = 9223372036854775808 }

-- how often a number is among those of a seat
abbrev pub numbers : Resting → ℕ → ℕ
numbers r k = below r.to k - below r.from k

-- 1 where an element whose place has this number is out with the seat
abbrev pub out_at : Resting → ℕ → ℕ → ℕ
out_at r k i = min (numbers r k) (bag r.marks i)

-- 1 where an element whose place has this number rests
abbrev pub rests : ℕ → ℕ
rests k = min 1 k

-- how many seats have this number
abbrev pub named : List View → ℕ → ℕ
named views k = sum_by (λ (v : View). numbers v.resting k) views

-- how often an element was got, and put while it was out, by all seats
abbrev pub got : List View → ℕ → ℕ
got views i = sum_by (λ (v : View). bag v.resting.gets i) views

abbrev pub put_out : List View → ℕ → ℕ
put_out views i = sum_by (λ (v : View). bag v.resting.puts i) views

-- at how many seats an element is out, whose place has this number
abbrev pub out_with : List View → ℕ → ℕ → ℕ
out_with views k i = sum_by (λ (v : View). out_at v.resting k i) views

-- what rests at one of a seat's numbers is marked or listed by it
abbrev pub Keeps : ℕ → List ℕ → Resting → Type 0
Keeps slots words r = (k i : ℕ) → 0 < numbers r k → place_in words slots i ≡ k → 0 < bag r.marks i + bag r.listed i

-- No two seats have one number, and none has 0; a place that isn't 0 has a number of some seat; and
-- each element was got as often as it was put while it was out, and once more where it is out.
pub record Guarded (slots : ℕ) (words : List ℕ) (views : List View) : Type 0 where
  pub once : (k : ℕ) → named views k ≤ 1
  pub nobody : named views 0 ≡ 0
  pub numbered : (i : ℕ) → 0 < place_in words slots i → named views (place_in words slots i) ≡ 1
  pub counts : (i : ℕ) → got views i ≡ put_out views i + out_with views (place_in words slots i) i
  pub keeps : (id : ℕ) (v : View) → get_elem? views id ≡ some v → Keeps slots words v.resting

-- the list without any x
unfoldable pub wiped : ℕ → List ℕ → List ℕ
wiped x [] = []
wiped x (y ∷ ys) = if y == x then wiped x ys else y ∷ wiped x ys

abbrev pub is_at : Resting → ℕ → Bool
is_at r found = nat_lt 0 (numbers r found)

abbrev pub is_marked : Resting → ℕ → Bool
is_marked r i = nat_lt 0 (bag r.marks i)

-- an element of the hand is out with the seat
abbrev pub rest_out : Resting → ℕ → Resting
rest_out r i = record r { marks = i ∷ r.marks; gets = i ∷ r.gets }

-- or kept in its list
abbrev pub rest_in : Resting → ℕ → Resting
rest_in r i = record r { marks = wiped i r.marks; listed = i ∷ r.listed }

-- the seat has found this word at an element's place
abbrev pub finds : Resting → ℕ → ℕ → Resting
finds r i found = record r { found = r.found ++ (i, found) ∷ [] }

-- an element leaves its list
abbrev pub unlist : Resting → ℕ → Resting
unlist r i = record r { listed = without i r.listed }

-- and was stale: another seat has put it, though this one kept it
abbrev pub drops : Resting → ℕ → Resting
drops r i = record (unlist r i) { stale = r.stale ++ i ∷ [] }

-- an element of its list is out with it, if it rests there still, and unmarked; else it was stale
abbrev pub after_get : Bool → Resting → ℕ → Resting
after_get true r i = rest_out (unlist r i) i
after_get false r i = drops r i

-- what was out with it is kept in its list
abbrev pub after_put : Bool → Resting → ℕ → Resting
after_put true r i = record r { marks = wiped i r.marks; listed = i ∷ r.listed; puts = i ∷ r.puts }
after_put false r i = r

abbrev pub look_get : Resting → ℕ → ℕ → Resting
look_get r i found = after_get (is_at r found && not (is_marked r i)) (finds r i found) i

abbrev pub look_put : Resting → ℕ → ℕ → Resting
look_put r i found = after_put (is_at r found && is_marked r i) (finds r i found) i

-- an element that rested elsewhere is in the hand, which was out so often: once or never
abbrev pub claims : Resting → ℕ → ℕ → Resting
claims r i was = record r { puts = replicate was i ++ r.puts; strays = replicate (1 - was) i ++ r.strays }

-- the seat has this number, and no other
pub record IsNumber (r : Resting) (k : ℕ) : Type 0 where
  pub from : r.from ≡ k
  pub to : r.to ≡ suc k
