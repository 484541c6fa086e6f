use Rattle.std.proofs.Common.{sym, ◌∙◌}
use Rattle.mbuf.proofs.TableLemmas.{length-shown}
use Rattle.mbuf.proofs.packets.Packets.has_slots.Goals as goal

-- The table shows a slot for each flag, and there are as many flags as slots.
pub returns : goal.returns
returns c =
    let inv = c.self.invariant in
    rw (sym c.self.view_is) (
    length-shown c.self.inside.free c.self.inside.packets.items (inv.packets ∙ sym inv.flags)
    ∙ inv.flags)
