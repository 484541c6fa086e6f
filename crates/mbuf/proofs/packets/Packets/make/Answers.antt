use Rattle.std.proofs.Common.{refl}
use Rattle.mbuf.specs.Members.{slots}
use Rattle.mbuf.proofs.TableLemmas.{all_free}
use Rattle.mbuf.proofs.packets.Packets.make.Goals as goal

-- Each slot is free at first, so the table shows no packet, whatever lies in the slots.
pub returns-in-Ok-clause-ok : goal.returns-in-Ok-clause-ok
returns-in-Ok-clause-ok c =
    rw (
      c.in_ok-worker.ensures.ok,
      c.new.ensures,
      all_free slots c.in-Ok.packets.items c.in-Ok.ensures,
    ) refl
