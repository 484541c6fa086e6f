use Rattle.std.proofs.Common.{◌≡◌, ◌<◌, ℕ, length, get_or}
use Rattle.mbuf.specs.declared.acts.NewPacket.{NewPacket as Made}
use Rattle.mbufpool_c.specs.Labels.{label_in}
use Rattle.mbufpool_c.specs.declared.packets.NewPacket.{NewPacket}
use Rattle.mbufpool_c.proofs.packets.tell_each.Given as goal

-- those that were passed are given to C
abbrev pub invariant-loop-k : goal.invariant-loop-k
invariant-loop-k l =
    (j : ℕ) (d : Made) (e : NewPacket) → j < l.k → j < length l.made → j < length l.out →
    get_or l.out j e ≡ record { slot = label_in l.own.labels (get_or l.made j d).slot; element = (get_or l.made j d).elem }
