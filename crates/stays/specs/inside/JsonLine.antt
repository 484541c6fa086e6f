-- The line of JSON in its pieces.
use Rattle.std.specs.Prelude.{ℕ, List, ◌++◌, codes}
use Rattle.serde_json.specs.Written.{compact_text}
use Rattle.stays.specs.StayData.{stays_data}
use Rattle.stays.specs.declared.used.Used.{Used}

-- with this text of a statement
abbrev pub line_of : List ℕ → List Used → List ℕ
line_of statement stay =
    codes "{\"statement\":" ++ statement ++ codes ",\"stays\":" ++ compact_text (stays_data stay)
    ++ codes "}\n"
