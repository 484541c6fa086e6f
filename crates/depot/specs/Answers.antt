-- What each step answers its seat.
use Rattle.std.specs.Prelude.{◌≡◌, ℕ, ◌+◌, ◌-◌, ◌≤◌, ◌==◌, Bool, true, false, List, [], ◌∷◌, ◌++◌, Option, Some, None, flat_map}
use Rattle.atomic_table.specs.Table as table
use Rattle.atomic_table.specs.Table.{rest}
use Rattle.commons.specs.Bag.{bag}
use Rattle.depot.specs.declared.view.Look.{Look}
use Rattle.depot.specs.declared.view.Stack.{Stack}
use Rattle.depot.specs.declared.view.View.{View}
use Rattle.depot.specs.Bags.{below, without, minus}
use Rattle.depot.specs.Heads.{top_of}
use Rattle.depot.specs.Layout.{stack_at, magazine_at}
use Rattle.depot.specs.Resting.{no_resting}
use Rattle.depot.specs.Rule.{Sat, Suits, rounds_of}

-- the view after a head was read, whose top had this link
abbrev pub looked : View → Stack → ℕ → ℕ → View
looked v k head link = record v {
  look = Some (record { stack = k; head = head; link = link });
  heads = v.heads ++ (k, head) ∷ [];
}

-- the view after the link of that head's top was read
abbrev pub relinked : Option Look → ℕ → Option Look
relinked None link = None
relinked (Some l) link = Some (record l { link = link })

abbrev pub linked : View → ℕ → View
linked v link = record v { look = relinked v.look link }

-- the view once this magazine has come with these elements
abbrev pub taken : View → ℕ → List ℕ → View
taken v m xs = record v { hand = v.hand ++ xs; out = m ∷ v.out }

-- the view after a lost exchange
abbrev pub losing : View → View
losing v = record v { lost = v.lost + 1 }

-- the view that knows the link of a magazine
abbrev pub chained : View → ℕ → ℕ → View
chained v m link = record v { chain = Some (record { magazine = m; link = link }) }

-- the view once the magazine that was taken last is given, with its elements
abbrev pub given : View → List (ℕ × List ℕ) → View
given v [] = v
given v (x ∷ xs) = record v { hand = minus v.hand x.1; out = without x.0 v.out; chain = None }

-- the elements of the magazines that are out
abbrev pub contents : List (ℕ × List ℕ) → List ℕ
contents xs = flat_map (λ (x : ℕ × List ℕ). x.1) xs

-- the view that notes what is in its magazines
abbrev pub noting : View → List (ℕ × List ℕ) → View
noting v xs = record v { kept = contents xs }

-- No element is twice in the hand, and each is one of the depot's. So are the magazines that are out
-- with the seat, of which the depot has so many.
pub record IsOwned (slots : ℕ) (v : View) : Type 0 where
  pub once : (i : ℕ) → bag v.hand i ≤ 1
  pub magazines : (m : ℕ) → bag v.out m ≤ below slots m
  pub below : (p i : ℕ) → v.population ≡ Some p → p ≤ i → bag v.hand i ≡ 0

abbrev pub loads_head : table.Step (List ℕ) → Sat → ℕ → Sat → Type 0
loads_head st m found m' =
    (link : ℕ) × (m' ≡ (looked m.0 (stack_at st.word) found link, m.1)) × (top_of found ≤ st.slots)

abbrev pub loads_link : table.Step (List ℕ) → Sat → ℕ → Sat → Type 0
loads_link st m found m' = (m' ≡ (linked m.0 found, m.1)) × (found ≤ st.slots)

-- an exchange that takes a stack's top, by whether it found the head that was expected
abbrev pub take_found : Bool → Stack → ℕ → Sat → Sat → Type 0
take_found true k top m m' =
    (xs : List ℕ) × Suits (rounds_of m.0) k xs × (m' ≡ (taken m.0 (top - 1) xs, (top - 1, xs) ∷ m.1))
take_found false k top m m' = m' ≡ (losing m.0, m.1)

abbrev pub takes_top : table.Step (List ℕ) → Sat → ℕ → Sat → Type 0
takes_top st m found m' = take_found (found == st.first) (stack_at st.word) (top_of st.first) m m'

abbrev pub stores_link : table.Step (List ℕ) → Sat → ℕ → Sat → Type 0
stores_link st m found m' = m' ≡ (chained m.0 (magazine_at st.word) st.first, m.1)

-- an exchange that gives a magazine
abbrev pub give_found : Bool → Sat → Sat → Type 0
give_found true m m' = m' ≡ (given m.0 m.1, rest m.1)
give_found false m m' = m' ≡ (losing m.0, m.1)

abbrev pub gives_top : table.Step (List ℕ) → Sat → ℕ → Sat → Type 0
gives_top st m found m' = give_found (found == st.first) m m'

-- a load that notes what is in the seat's magazines
abbrev pub notes : table.Step (List ℕ) → Sat → ℕ → Sat → Type 0
notes st m found m' = (m' ≡ (noting m.0 m.1, m.1)) × IsOwned st.slots m.0

-- A view cut in two: one keeps what it has noted, with the magazines; the other has all else of the
-- hand.
abbrev pub kept_part : View → View
kept_part v = record v { hand = v.kept; kept = []; let_out = v.let_out ++ minus v.hand v.kept }

abbrev pub other_part : View → View
other_part v = record {
  population = v.population;
  rounds = v.rounds;
  hand = minus v.hand v.kept;
  out = [];
  kept = [];
  look = None;
  chain = None;
  heads = [];
  lost = 0;
  let_out = [];
  taken_in = [];
  resting = no_resting;
}

abbrev pub both_views : View → View → View
both_views v w = record v {
  hand = v.hand ++ w.hand;
  out = v.out ++ w.out;
  taken_in = v.taken_in ++ w.hand;
}

abbrev pub spent_view : View
spent_view = record {
  population = None;
  rounds = None;
  hand = [];
  out = [];
  kept = [];
  look = None;
  chain = None;
  heads = [];
  lost = 0;
  let_out = [];
  taken_in = [];
  resting = no_resting;
}
