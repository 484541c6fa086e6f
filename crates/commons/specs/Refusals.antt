-- The numbers, names and texts of the refusals.
use Rattle.std.specs.Prelude.{ℕ, List, [], ◌++◌, codes, decimal}
use Rattle.commons.specs.declared.refusal.Refusal.{Refusal}
use Rattle.commons.specs.declared.refusal.Refusal.TheVariants.{BadPool, OutOfMemory, NoEntries, Contended, HeadSpent, RefSpent, TooManySegs, NoRoom, TooShort, NotDirect, NotIndirect, InUse, NoSuchPacket, PacketsFull, DeskTaken, DeskEmpty, NoSuchDesk, MissingShare, StrangerShare, ScriptFault, StepRefused, Foreign, SamePacket}

-- the number that stands before a refusal's name
abbrev pub number_of : Refusal → ℕ
number_of BadPool = 1
number_of OutOfMemory = 2
number_of NoEntries = 3
number_of Contended = 4
number_of HeadSpent = 5
number_of RefSpent = 6
number_of TooManySegs = 7
number_of NoRoom = 8
number_of TooShort = 9
number_of NotDirect = 10
number_of NotIndirect = 11
number_of InUse = 12
number_of NoSuchPacket = 13
number_of PacketsFull = 14
number_of DeskTaken = 15
number_of DeskEmpty = 16
number_of NoSuchDesk = 17
number_of (MissingShare _) = 18
number_of StrangerShare = 19
number_of (ScriptFault _) = 20
number_of StepRefused = 21
number_of Foreign = 22
number_of SamePacket = 23

-- the name that stands after a refusal's number
abbrev pub name_of : Refusal → List ℕ
name_of BadPool = codes "BadPool"
name_of OutOfMemory = codes "OutOfMemory"
name_of NoEntries = codes "NoEntries"
name_of Contended = codes "Contended"
name_of HeadSpent = codes "HeadSpent"
name_of RefSpent = codes "RefSpent"
name_of TooManySegs = codes "TooManySegs"
name_of NoRoom = codes "NoRoom"
name_of TooShort = codes "TooShort"
name_of NotDirect = codes "NotDirect"
name_of NotIndirect = codes "NotIndirect"
name_of InUse = codes "InUse"
name_of NoSuchPacket = codes "NoSuchPacket"
name_of PacketsFull = codes "PacketsFull"
name_of DeskTaken = codes "DeskTaken"
name_of DeskEmpty = codes "DeskEmpty"
name_of NoSuchDesk = codes "NoSuchDesk"
name_of (MissingShare _) = codes "MissingShare"
name_of StrangerShare = codes "StrangerShare"
name_of (ScriptFault _) = codes "ScriptFault"
name_of StepRefused = codes "StepRefused"
name_of Foreign = codes "Foreign"
name_of SamePacket = codes "SamePacket"

-- the worker or the line that a refusal tells
abbrev pub place_text : Refusal → List ℕ
place_text (MissingShare worker) = codes " worker " ++ decimal worker
place_text (ScriptFault line) = codes " line " ++ decimal line
place_text _ = []

-- a refusal as text
abbrev pub text_of : Refusal → List ℕ
text_of refusal = name_of refusal ++ place_text refusal
