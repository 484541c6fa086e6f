use Rattle.std.proofs.Common.{◌≡◌, [], ◌∷◌, set, refl, sym, arith}
use Rattle.mbuf.specs.PacketRules.{fresh_seg}
use Rattle.mbuf.proofs.PlaceLemmas.{filled, lowest_of}
use Rattle.mbuf.proofs.packets.Packets.stand.Goals as goal

-- There is a packet for each flag, and the lowest free slot has one.
pub index_mut-requires : goal.index_mut-requires
index_mut-requires g c =
    let inv = c.self.invariant in
    let low = lowest_of c.self.inside c.args.slot inv (rw (sym c.self.view_is) at c.requires.lowest) in
    omega (arith, low.within, inv.flags, inv.packets)

-- The lowest free slot is one of the slots.
pub take-requires-clause-within : goal.take-requires-clause-within
take-requires-clause-within g c =
    let inv = c.self.invariant in
    let low = lowest_of c.self.inside c.args.slot inv (rw (sym c.self.view_is) at c.requires.lowest) in
    omega (arith, low.within, inv.flags)

-- The lowest free slot is free.
pub take-requires-clause-free : goal.take-requires-clause-free
take-requires-clause-free g c =
    (lowest_of c.self.inside c.args.slot c.self.invariant (rw (sym c.self.view_is) at c.requires.lowest)).flag

-- A slot's number is small.
pub overflow_cast-result : goal.overflow_cast-result
overflow_cast-result g c =
    let inv = c.self.invariant in
    let low = lowest_of c.self.inside c.args.slot inv (rw (sym c.self.view_is) at c.requires.lowest) in
    record { fits = omega (arith, low.within, inv.flags) }

-- The slot that is taken shows the fresh packet that was laid there.
pub returns-clause-stood : goal.returns-clause-stood
returns-clause-stood g c =
    let p = c.self.inside in
    let slot = c.args.slot in
    let inv = c.self.invariant in
    let low = lowest_of p slot inv (rw (sym c.self.view_is) at c.requires.lowest) in
    let laid : set p.packets.items slot c.restart.new.self
    ≡ set p.packets.items slot (fresh_seg p.worker.limits c.args.elem ∷ []) =
    rw (c.restart.ensures, c.fresh-seg.ensures.seg, c.limits.ensures.limits) refl in
    rw (sym c.self.view_is) (filled p p.worker c.take.new.self (set p.packets.items slot c.restart.new.self)
    slot (fresh_seg p.worker.limits c.args.elem ∷ []) inv low
    (record { limits = refl; number = refl }) c.take.ensures laid)
