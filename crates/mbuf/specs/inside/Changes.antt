-- The changes of a packet's lengths, as the code names them. No public clause cites this module.
use Rattle.std.specs.Prelude.{List, Option}
use Rattle.commons.specs.declared.packet.Seg.{Seg}
use Rattle.commons.specs.declared.refusal.Refusal.{Refusal}
use Rattle.commons.specs.declared.refusal.Refusal.TheVariants.{NoRoom, TooShort}
use Rattle.commons.specs.declared.change.Change.{Change}
use Rattle.commons.specs.declared.change.Change.TheVariants.{Append, Prepend, Adj, Trim}
use Rattle.mbuf.specs.Lengths.{appended, prepended, adjusted, trimmed}

-- the packet once it is changed, if it has the room or the data
abbrev pub resized : Change → List Seg → Option (List Seg)
resized (Append n) segs = appended n segs
resized (Prepend n) segs = prepended n segs
resized (Adj n) segs = adjusted n segs
resized (Trim n) segs = trimmed n segs

-- why it isn't
abbrev pub not_resized : Change → Refusal
not_resized (Append n) = NoRoom
not_resized (Prepend n) = NoRoom
not_resized (Adj n) = TooShort
not_resized (Trim n) = TooShort
