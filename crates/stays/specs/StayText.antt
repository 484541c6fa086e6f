-- The text of what stays.
use Rattle.std.specs.Prelude.{ℕ, List, [], ◌∷◌, ◌++◌, length, codes, decimal}
use Rattle.std.specs.List.{flat_map}
use Rattle.element_text.specs.Elements.{base_text, joined}
use Rattle.pool_statement.specs.declared.statement.Statement.{Statement}
use Rattle.statement_text.specs.StatementText.{text_of}
use Rattle.stays.specs.Stays.{stays_between}
use Rattle.stays.specs.declared.used.Part.{Part}
use Rattle.stays.specs.declared.used.Place.{Place}
use Rattle.stays.specs.declared.used.Place.TheVariants.{Slot, Desk}
use Rattle.stays.specs.declared.used.Used.{Used}

-- a segment: its own element, and the one whose buffer it uses, where it is indirect
abbrev pub part_text : Part → List ℕ
part_text part = decimal part.elem ++ base_text part.base

-- where a packet stands
abbrev pub place_text : Place → List ℕ
place_text (Slot worker slot) = codes ": packet " ++ decimal worker ++ codes " " ++ decimal slot
place_text (Desk desk) = codes ": desk " ++ decimal desk

-- the own element of the first segment; 0 where there is none, as no packet is
abbrev pub first_elem : List Part → ℕ
first_elem [] = 0
first_elem (part ∷ parts) = part.elem

-- the line of a packet that stays
unfoldable pub stay_text : Used → List ℕ
stay_text used =
    codes "stays " ++ decimal (first_elem used.parts) ++ place_text used.place
    ++ codes " segs " ++ decimal (length used.parts) ++ codes ":" ++ joined part_text used.parts
    ++ codes "\n"

-- the newer statement, and what stays since the older one
unfoldable pub since_text_of : Statement → Statement → List ℕ
since_text_of newer older = text_of newer ++ flat_map stay_text (stays_between newer older)
