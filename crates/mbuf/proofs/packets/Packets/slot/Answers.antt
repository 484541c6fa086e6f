use Rattle.std.proofs.Common.{Bool, [], get_or, refl, sym, ap, ◌∙◌, arith}
use Rattle.mbuf.specs.inside.Kept.{unless_free}
use Rattle.mbuf.proofs.TableLemmas.{past_shown, get_or-shown}
use Rattle.mbuf.proofs.packets.Packets.slot.Goals as goal

-- Past the last slot the table shows nothing.
pub returns-then-slot-len : goal.returns-then-slot-len
returns-then-slot-len c =
    let inv = c.self.invariant in
    rw (sym c.self.view_is) (past_shown c.self.inside.free c.self.inside.packets.items c.args.p
    (inv.packets ∙ sym inv.flags)
    (omega (arith, inv.flags, inv.packets, c.self.inside.packets.ok)))

-- A free slot shows nothing.
pub returns-then-is_free : goal.returns-then-is_free
returns-then-is_free c =
    let inv = c.self.invariant in
    let packets = c.self.inside.packets.items in
    rw (sym c.self.view_is)
    (get_or-shown c.self.inside.free packets c.args.p (omega (arith, inv.flags)) (inv.packets ∙ sym inv.flags)
    ∙ ap (λ (b : Bool). unless_free b (get_or packets c.args.p [])) (sym c.is_free.ensures ∙ c.if-is_free.true))

-- A slot that isn't free shows what lies in it.
pub returns : goal.returns
returns c =
    let inv = c.self.invariant in
    let packets = c.self.inside.packets.items in
    let there =
    get_or-shown c.self.inside.free packets c.args.p (omega (arith, inv.flags))
    (inv.packets ∙ sym inv.flags)
    ∙ ap (λ (b : Bool). unless_free b (get_or packets c.args.p [])) (sym c.is_free.ensures ∙ c.if-is_free.false) in
    (refl, omega arith, rw (sym c.self.view_is, there) refl)
