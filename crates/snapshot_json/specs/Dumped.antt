-- What a value of JSON is the data of. For private clauses.
use Rattle.std.specs.Prelude.{ℕ, ◌≡◌, List, [], Some, map}
use Rattle.json.specs.Json.{Json, skip_value}
use Rattle.json.specs.Lex.{tokens}
use Rattle.json.specs.Json as json
use Rattle.serde_json.specs.Data.{Data, Members, put}
use Rattle.serde_json.specs.Read.{max_depth, of_json, of_members}

-- a value is this data
abbrev pub IsOf : Json → Data → Type 0
IsOf j d = of_json j ≡ Some d

-- the first of the old members has this key and is this data, and the new ones stand behind it
abbrev pub Passes : List ℕ → Data → json.Members → json.Members → Type 0
Passes key d old new = (found : Members) → of_members old found ≡ of_members new (put key d found)

-- so do the first two of the old members
abbrev pub PassesTwo : List ℕ → Data → List ℕ → Data → json.Members → json.Members → Type 0
PassesTwo key d next_key e old new =
    (found : Members) → of_members old found ≡ of_members new (put next_key e (put key d found))

-- values are the data of these, one by one
abbrev pub AreOf : {X : Type 0} → (X → Data) → List Json → List X → Type 0
AreOf f js xs = map of_json js ≡ map (λ x. Some (f x)) xs

-- a text is one value, which nests no deeper than the reader of data allows
abbrev pub IsLow : List ℕ → Type 0
IsLow text = skip_value max_depth (tokens text) ≡ Some []
