-- The line that tells of a fault of a snapshot, without its end, and the lines of many.
use Rattle.std.specs.Prelude.{ℕ, ◌+◌, ◌==◌, Bool, true, false, if◌then◌else◌, nat_le, List, [], ◌∷◌, ◌++◌, codes, decimal, flat_map, length}
use Rattle.audit_text.specs.FaultNumbers.{name_of, number_of}
use Rattle.audit_text.specs.Places.{others_of, owners_of, places_on}
use Rattle.audit_text.specs.declared.place.FreeList.TheVariants.{Stack, Cache}
use Rattle.audit_text.specs.declared.place.Place.{Place}
use Rattle.audit_text.specs.declared.place.Place.TheVariants.{Free, Packet, Own, Base, Hosted}
use Rattle.audit_text.specs.declared.place.Table.{Table}
use Rattle.audit_text.specs.declared.place.Table.TheVariants.{Slots, Desks}
use Rattle.snapshot.specs.declared.fault.Fault.{Fault}
use Rattle.snapshot.specs.declared.fault.Fault.TheVariants.{BadShape, BadTop, Loop, BadLength, BadElem, BadPacket, DoubleHeader, Doubled, Lost, BadCount, OutOfMemory}
use Rattle.snapshot.specs.declared.snapshot.ShareData.{ShareData}
use Rattle.snapshot.specs.declared.snapshot.Snapshot.{Snapshot}
use Rattle.snapshot.specs.Snapshots.{most_places, walk}

-- a packet of a table: its worker and slot, or its desk
unfoldable pub packet_text : Table → ℕ → List ℕ
packet_text (Slots worker) i = codes "packet " ++ decimal worker ++ codes " " ++ decimal i
packet_text Desks i = codes "desk " ++ decimal i

-- an element of a cache
unfoldable pub cache_text : ℕ → ℕ → List ℕ
cache_text worker k = codes "at " ++ decimal k ++ codes " in the cache of worker " ++ decimal worker

-- a segment as an own one, and as one with a base
unfoldable pub own_text : Table → ℕ → ℕ → List ℕ
own_text table i k = codes "segment " ++ decimal k ++ codes " of " ++ packet_text table i

unfoldable pub base_text : Table → ℕ → ℕ → List ℕ
base_text table i k = codes "base of " ++ own_text table i k

-- a place
abbrev pub place_text : Place → List ℕ
place_text (Free Stack k) = codes "at " ++ decimal k ++ codes " on the stack"
place_text (Free (Cache worker) k) = cache_text worker k
place_text (Packet table i) = packet_text table i
place_text (Own table i k) = own_text table i k
place_text (Base table i k) = base_text table i k
place_text (Hosted worker) = codes "guest of worker " ++ decimal worker

-- the first of places
abbrev pub first_text : List Place → List ℕ
first_text [] = []
first_text (a ∷ more) = codes ": " ++ place_text a

-- the second of them
abbrev pub second_text : List Place → List ℕ
second_text [] = []
second_text (a ∷ []) = []
second_text (a ∷ b ∷ more) = codes ", " ++ place_text b

-- both
abbrev pub two_text : List Place → List ℕ
two_text places = first_text places ++ second_text places

-- shares are of the workers from this one on, in order, each with no more places than have a number
abbrev pub are_in_order : ℕ → List ShareData → Bool
are_in_order worker [] = true
are_in_order worker (share ∷ shares) =
    if share.worker == worker
    then (if nat_le (length share.slots) most_places then are_in_order (worker + 1) shares else false)
    else false

-- of what a snapshot hasn't one for each
abbrev pub shape_text : Snapshot → List ℕ
shape_text s =
    if length s.links == s.limits.population
    then (if length s.counts == s.limits.population
    then (if length s.desks == s.limits.desks
    then (if length s.shares == s.limits.workers
    then (if are_in_order 1 s.shares
    then codes "guests of no worker, or too many"
    else codes "shares out of order, or of too many slots")
    else codes "not a share for each worker")
    else codes "not a place for each desk")
    else codes "not a count for each element")
    else codes "not a link for each element"

-- how a fault's line begins: with its number and name
unfoldable pub front_text : Fault → List ℕ
front_text fault = codes "fault " ++ decimal (number_of fault) ++ codes " " ++ name_of fault

-- an element behind that
unfoldable pub element_text : ℕ → List ℕ
element_text e = codes " element " ++ decimal e

-- the length word, and how long the walk is
unfoldable pub length_text : ℕ → ℕ → List ℕ
length_text word found = codes " word " ++ decimal word ++ codes ", walk " ++ decimal found

-- an element that the pool doesn't have, and where it is named
unfoldable pub stranger_text : ℕ → List Place → List ℕ
stranger_text e places = codes " " ++ decimal e ++ first_text places

-- an element, and two places where it stands
unfoldable pub twice_text : ℕ → List Place → List ℕ
twice_text e places = element_text e ++ two_text places

-- an element, its count, and how often it is held
unfoldable pub count_text : ℕ → ℕ → ℕ → List ℕ
count_text e word holds = element_text e ++ codes ": count " ++ decimal word ++ codes ", held " ++ decimal holds

-- what a fault names, and where that stands; these elements are the stack of the snapshot, from the top
-- down
abbrev pub named_text : List ℕ → Snapshot → Fault → List ℕ
named_text stack s BadShape = codes ": " ++ shape_text s
named_text stack s (BadTop word) = codes " " ++ decimal word
named_text stack s Loop = []
named_text stack s (BadLength word found) = length_text word found
named_text stack s (BadElem e) = stranger_text e (places_on stack s e)
named_text stack s BadPacket = first_text (others_of s)
named_text stack s (DoubleHeader e) = twice_text e (owners_of s e)
named_text stack s (Doubled e) = twice_text e (places_on stack s e)
named_text stack s (Lost e) = element_text e
named_text stack s (BadCount e word holds) = count_text e word holds
named_text stack s OutOfMemory = []

-- the line of a fault, where these elements are the stack
abbrev pub fault_text_on : List ℕ → Snapshot → Fault → List ℕ
fault_text_on stack s fault = front_text fault ++ named_text stack s fault

-- the line of a fault, where the stack is the walk along the links
abbrev pub fault_text : Snapshot → Fault → List ℕ
fault_text s = fault_text_on (walk s) s

-- a line for each of these faults, with this text in front
abbrev pub lines_text : List ℕ → List ℕ → Snapshot → List Fault → List ℕ
lines_text front stack s faults = flat_map (λ fault. front ++ fault_text_on stack s fault ++ codes "\n") faults
