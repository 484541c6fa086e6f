-- What stays as JSON.
use Rattle.std.specs.Prelude.{ℕ, List, map, codes}
use Rattle.serde_json.specs.Data.{Data, array, object, member, no_members}
use Rattle.serde_json.specs.View.{items_of}
use Rattle.serde_json.specs.Written.{compact_text}
use Rattle.pool_statement.specs.declared.statement.Statement.{Statement}
use Rattle.statement_text.specs.StatementData.{base_data, count_data, statement_data}
use Rattle.stays.specs.StayText.{first_elem}
use Rattle.stays.specs.Stays.{stays_between}
use Rattle.stays.specs.declared.used.Part.{Part}
use Rattle.stays.specs.declared.used.Place.{Place}
use Rattle.stays.specs.declared.used.Place.TheVariants.{Slot, Desk}
use Rattle.stays.specs.declared.used.Used.{Used}

abbrev pub part_data : Part → Data
part_data part =
    object (member (codes "base") (base_data part.base)
    (member (codes "elem") (count_data part.elem) no_members))

abbrev pub parts_data : List Part → Data
parts_data parts = array (items_of (map part_data parts))

-- a packet with these segments that stands there, its members ascending by key
abbrev pub stay_data_at : Place → List Part → Data
stay_data_at (Slot worker slot) parts =
    object (member (codes "elem") (count_data (first_elem parts))
    (member (codes "segs") (parts_data parts)
    (member (codes "slot") (count_data slot)
    (member (codes "worker") (count_data worker) no_members))))
stay_data_at (Desk desk) parts =
    object (member (codes "desk") (count_data desk)
    (member (codes "elem") (count_data (first_elem parts))
    (member (codes "segs") (parts_data parts) no_members)))

abbrev pub stay_data : Used → Data
stay_data used = stay_data_at used.place used.parts

abbrev pub stays_data : List Used → Data
stays_data stay = array (items_of (map stay_data stay))

-- the newer statement, and what stays since the older one
abbrev pub since_data : Statement → Statement → Data
since_data newer older =
    object (member (codes "statement") (statement_data newer)
    (member (codes "stays") (stays_data (stays_between newer older)) no_members))

-- its text, with no space
unfoldable pub since_json_of : Statement → Statement → List ℕ
since_json_of newer older = compact_text (since_data newer older)
