-- Elements as text.
use Rattle.std.specs.Prelude.{ℕ, List, [], ◌++◌, Option, Some, None, length, codes, decimal}
use Rattle.std.specs.List.{flat_map}

-- each item's text after a space
abbrev pub joined : {T : Type 0} → (T → List ℕ) → List T → List ℕ
joined text items = flat_map (λ item. codes " " ++ text item) items

-- how many elements these are, and which: the end of a line
unfoldable pub elements_text : List ℕ → List ℕ
elements_text elements =
    codes " " ++ decimal (length elements) ++ codes ":" ++ joined decimal elements ++ codes "\n"

-- the element whose buffer an indirect segment uses, after a `>`; nothing at a direct one
abbrev pub base_text : Option ℕ → List ℕ
base_text (Some base) = codes ">" ++ decimal base
base_text None = []
