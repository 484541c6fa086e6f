-- What the steps at places answer a seat.
use Rattle.std.specs.Prelude.{◌≡◌, ℕ, ◌+◌, ◌≤◌, ◌==◌, Bool, true, false, List, ◌∷◌}
use Rattle.atomic_table.specs.Table as table
use Rattle.depot.specs.declared.view.View.{View}
use Rattle.depot.specs.Answers.{losing}
use Rattle.depot.specs.Bags.{without}
use Rattle.depot.specs.Layout.{element_at}
use Rattle.depot.specs.Resting.{rest_out, rest_in, unlist, drops, look_get, look_put, claims}
use Rattle.depot.specs.Rule.{Sat}

-- an element of the hand is out with the seat, or in its list
abbrev pub resting_out : View → ℕ → View
resting_out v i = record v { hand = without i v.hand; resting = rest_out v.resting i }

abbrev pub resting_in : View → ℕ → View
resting_in v i = record v { hand = without i v.hand; resting = rest_in v.resting i }

-- the seat has looked at an element's place, to get it or to put it
abbrev pub looking_get : View → ℕ → ℕ → View
looking_get v i found = record v { resting = look_get v.resting i found }

abbrev pub looking_put : View → ℕ → ℕ → View
looking_put v i found = record v { resting = look_put v.resting i found }

-- an element that rested elsewhere, and was out there so often, is in the hand
abbrev pub claiming : View → ℕ → ℕ → View
claiming v i was = record v { hand = i ∷ v.hand; resting = claims v.resting i was }

-- an element of its list is in the hand, or was stale
abbrev pub taking_back : View → ℕ → View
taking_back v i = record v { hand = i ∷ v.hand; resting = unlist v.resting i }

abbrev pub forgetting : View → ℕ → View
forgetting v i = record v { lost = v.lost + 1; resting = drops v.resting i }

abbrev pub rests_out : table.Step (List ℕ) → Sat → ℕ → Sat → Type 0
rests_out st m found m' = m' ≡ (resting_out m.0 (element_at st.slots st.word), m.1)

abbrev pub rests_in : table.Step (List ℕ) → Sat → ℕ → Sat → Type 0
rests_in st m found m' = m' ≡ (resting_in m.0 (element_at st.slots st.word), m.1)

abbrev pub looks_get : table.Step (List ℕ) → Sat → ℕ → Sat → Type 0
looks_get st m found m' = m' ≡ (looking_get m.0 (element_at st.slots st.word) found, m.1)

abbrev pub looks_put : table.Step (List ℕ) → Sat → ℕ → Sat → Type 0
looks_put st m found m' = m' ≡ (looking_put m.0 (element_at st.slots st.word) found, m.1)

-- an exchange that takes an element from its place, by whether it found the number that was expected
abbrev pub claim_found : Bool → ℕ → Sat → Sat → Type 0
claim_found true i m m' = (was : ℕ) × (was ≤ 1) × (m' ≡ (claiming m.0 i was, m.1))
claim_found false i m m' = m' ≡ (losing m.0, m.1)

abbrev pub claims_it : table.Step (List ℕ) → Sat → ℕ → Sat → Type 0
claims_it st m found m' = claim_found (found == st.first) (element_at st.slots st.word) m m'

-- an exchange that takes back what the seat keeps in its list
abbrev pub back_found : Bool → ℕ → Sat → Sat → Type 0
back_found true i m m' = m' ≡ (taking_back m.0 i, m.1)
back_found false i m m' = m' ≡ (forgetting m.0 i, m.1)

abbrev pub takes_back : table.Step (List ℕ) → Sat → ℕ → Sat → Type 0
takes_back st m found m' = back_found (found == st.first) (element_at st.slots st.word) m m'
