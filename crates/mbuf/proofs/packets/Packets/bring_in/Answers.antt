use Rattle.std.proofs.Common.{◌≡◌, List, None, set, refl, sym, ap, ◌∙◌}
use Rattle.commons.specs.declared.packet.Seg.{Seg}
use Rattle.mbuf.specs.PacketRules.{free_slot}
use Rattle.mbuf.specs.Parcels.{NoSlotFor, WasBroughtIn}
use Rattle.mbuf.specs.inside.Kept.{member_of}
use Rattle.mbuf.proofs.PlaceLemmas.{alike, filled, lowest}
use Rattle.mbuf.proofs.TableLemmas.{free_slot-shown}
use Rattle.mbuf.proofs.packets.Packets.bring_in.Goals as goal

-- No flag is up, so no slot is free.
pub returns-in_default : goal.returns-in_default
returns-in_default c =
    let p = c.self.inside in
    let none : free_slot (member_of p).table ≡ None =
    free_slot-shown p.free p.packets.items (alike p c.self.invariant) ∙ sym c.in_default.ensures in
    rw (sym c.self.view_is) (NoSlotFor none refl refl)

-- The lowest free slot is free.
pub take-requires-clause-free : goal.take-requires-clause-free
take-requires-clause-free c = (lowest c.self.inside c.in-Some.place c.self.invariant c.in-Some.ensures).flag

-- The packet stands in what was the lowest free slot.
pub returns : goal.returns
returns c =
    let p = c.self.inside in
    let slot = c.in-Some.place in
    let segs = c.args.segs.now in
    let low = lowest p slot c.self.invariant c.in-Some.ensures in
    let is =
    filled p p.worker c.take.new.self (set p.packets.items slot c.rewrite.new.packet) slot segs c.self.invariant low
    (record { limits = refl; number = refl }) c.take.ensures
    (ap (λ (x : List Seg). set p.packets.items slot x) c.rewrite.ensures) in
    rw (sym c.self.view_is) (WasBroughtIn slot low.free refl is)
