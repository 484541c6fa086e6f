-- Faults of a snapshot as JSON.
use Rattle.std.specs.Prelude.{ℕ, List, Option, None, Some, codes, map}
use Rattle.serde_json.specs.Data.{Data, null, number, unsigned, string, array, object, member, no_members}
use Rattle.serde_json.specs.View.{items_of}
use Rattle.serde_json.specs.Written.{compact_text}
use Rattle.audit_text.specs.FaultNumbers.{name_of, number_of}
use Rattle.audit_text.specs.FaultText.{fault_text_on}
use Rattle.snapshot.specs.declared.fault.Fault.{Fault}
use Rattle.snapshot.specs.declared.fault.Fault.TheVariants.{BadElem, DoubleHeader, Doubled, Lost, BadCount}
use Rattle.snapshot.specs.declared.snapshot.Snapshot.{Snapshot}

-- the element that it names, where it names one
abbrev pub elem_of : Fault → Option ℕ
elem_of (BadElem e) = Some e
elem_of (DoubleHeader e) = Some e
elem_of (Doubled e) = Some e
elem_of (Lost e) = Some e
elem_of (BadCount e word holds) = Some e
elem_of fault = None

-- a number, where there is one
abbrev pub elem_data : Option ℕ → Data
elem_data None = null
elem_data (Some e) = number (unsigned e)

-- a fault, where these elements are the stack, from the top down; its members ascend by key
abbrev pub fault_data : List ℕ → Snapshot → Fault → Data
fault_data stack s fault =
    object (member (codes "elem") (elem_data (elem_of fault))
    (member (codes "line") (string (fault_text_on stack s fault))
    (member (codes "name") (string (name_of fault))
    (member (codes "number") (number (unsigned (number_of fault))) no_members))))

-- faults, in order
abbrev pub faults_data : List ℕ → Snapshot → List Fault → Data
faults_data stack s faults = array (items_of (map (fault_data stack s) faults))

-- those of two pools, each by name
abbrev pub two_data : Data → Data → Data
two_data first second =
    object (member (codes "first") first (member (codes "second") second no_members))

-- the text of a value, with no space
unfoldable pub json_of : Data → List ℕ
json_of value = compact_text value
