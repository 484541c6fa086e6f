use Rattle.std.proofs.Common.{◌≡◌, ◌<◌, ℕ, length, get_or}
use Rattle.mbuf.specs.Acts.{new_packet}
use Rattle.mbufpool_c.specs.Labels.{label_in}
use Rattle.mbufpool_c.specs.declared.packets.NewPacket.{NewPacket}
use Rattle.mbufpool_c.proofs.packets.tell_slots.Given as goal

-- those that were passed are given to C
abbrev pub invariant-loop-k : goal.invariant-loop-k
invariant-loop-k l =
    (j d : ℕ) (e : NewPacket) → j < l.k → j < length l.slots → j < length l.out →
    get_or l.out j e ≡ record {
      slot = label_in l.own.labels (get_or l.slots j d);
      element = (new_packet l.own.worker.member.table (get_or l.slots j d)).elem;
    }
