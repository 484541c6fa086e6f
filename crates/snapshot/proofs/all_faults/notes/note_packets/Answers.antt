use Rattle.std.proofs.Common.{◌≡◌, List, arith}
use Rattle.commons.specs.Packets.{IsPacket}
use Rattle.commons.specs.declared.packet.Seg.{Seg}
use Rattle.snapshot.specs.declared.fault.Fault.{Fault}
use Rattle.snapshot.specs.declared.fault.Fault.TheVariants.{BadPacket}
use Rattle.snapshot.specs.declared.snapshot.Snapshot.{Snapshot}
use Rattle.snapshot.specs.Faults.{IsFault, rank}
use Rattle.snapshot.specs.Snapshots.{HasPacket}
use Rattle.snapshot.proofs.Notes.{adds-none}
use Rattle.snapshot.proofs.all_faults.notes.note_packets.Goals as goal

-- where all that stands there is packets, there is no `BadPacket`
no-other : (s : Snapshot) → ((segs : List Seg) → HasPacket s segs → IsPacket segs) → (f : Fault) →
    (rank f ≡ 5) × IsFault s f → ⊥
no-other s all BadPacket h = h.1.2 (all h.1.0 h.1.1)
no-other s all f h = omega (arith, h.0)

pub returns-then-has_packets : goal.returns-then-has_packets
returns-then-has_packets c =
    let s = c.args.snapshot.now in
    adds-none (λ f. (rank f ≡ 5) × IsFault s f) c.args.faults.now.items (no-other s c.if-has_packets.ensures)
