-- The number and the name of a fault.
use Rattle.std.specs.Prelude.{ℕ, List, codes}
use Rattle.snapshot.specs.declared.fault.Fault.{Fault}
use Rattle.snapshot.specs.declared.fault.Fault.TheVariants.{BadShape, BadTop, Loop, BadLength, BadElem, BadPacket, DoubleHeader, Doubled, Lost, BadCount, OutOfMemory}

-- a fault's number
abbrev pub number_of : Fault → ℕ
number_of BadShape = 101
number_of (BadTop word) = 102
number_of Loop = 103
number_of (BadLength word found) = 104
number_of (BadElem e) = 105
number_of BadPacket = 106
number_of (DoubleHeader e) = 107
number_of (Doubled e) = 108
number_of (Lost e) = 109
number_of (BadCount e word holds) = 110
number_of OutOfMemory = 2

-- and its name
abbrev pub name_of : Fault → List ℕ
name_of BadShape = codes "BadShape"
name_of (BadTop word) = codes "BadTop"
name_of Loop = codes "Loop"
name_of (BadLength word found) = codes "BadLength"
name_of (BadElem e) = codes "BadElem"
name_of BadPacket = codes "BadPacket"
name_of (DoubleHeader e) = codes "DoubleHeader"
name_of (Doubled e) = codes "Doubled"
name_of (Lost e) = codes "Lost"
name_of (BadCount e word holds) = codes "BadCount"
name_of OutOfMemory = codes "OutOfMemory"
