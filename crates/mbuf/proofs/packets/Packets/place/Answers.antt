use Rattle.std.proofs.Common.{◌≡◌, ◌<◌, ℕ, length, get_or, Some, None, sym, subst, ◌∙◌, arith}
use Rattle.mbuf.specs.inside.Kept.{shown}
use Rattle.mbuf.proofs.TableLemmas.{stands}
use Rattle.mbuf.proofs.packets.Packets.place.Goals as goal

-- The slot isn't free, so it shows what lies in it, which is what was lent.
pub returns : goal.returns
returns c =
    let inv = c.self.invariant in
    let flags = c.self.inside.free in
    let packets = c.self.inside.packets.items in
    let slot = c.in_ok-slot.slot in
    let there = rw (sym c.self.view_is) at c.in_ok-slot.ensures in
    let within : slot < length flags = omega (arith, there.1, inv.flags) in
    rw (sym c.self.view_is)
    (subst (λ (k : ℕ). get_or (shown flags packets) k None ≡ Some c.index.result.now) there.0
    (stands flags packets slot c.index.result.now within (inv.packets ∙ sym inv.flags)
    (rw (sym there.0) at there.2) c.index.ensures))
