-- What the table of packets has.
use Rattle.std.specs.Prelude.{Bool, List, Vec}
use Rattle.std.specs.Cmp.Lexicographic.{pointwise}
use Rattle.std.specs.HashSet.{HashSet, contains_by}
use Rattle.stays.specs.declared.known.Known.{Known}
use Rattle.stays.specs.declared.used.Part.{Part}
use Rattle.stays.specs.Stays.{same_part}

-- whether a set has these segments as a key
abbrev pub has_key : {A S : Type 0} → HashSet (Vec Part A) S → List Part → Bool
has_key keys parts = contains_by (λ key. pointwise same_part parts key.items) keys

-- whether a table has them
abbrev pub knows : Known → List Part → Bool
knows known parts = has_key known.keys parts
