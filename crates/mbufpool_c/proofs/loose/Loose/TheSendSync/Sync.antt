-- A `&` to a loose box shows nothing of what is behind it.
use denote.RattleType.{RattleType}
use denote.Param.Send.{IsSend, IsSync, Frees, part_keyless}
use Rattle.std.specs.declared.alloc.Allocator.{Ghosts}
use Rattle.mbufpool_c.specs.contracts.loose.Loose.{the_row}
use Rattle.mbufpool_c.proofs.LooseSend.{loose_send}

pub sync : (T A : RattleType) (g : Ghosts A.Denot) → IsSend T → IsSend A → Frees g g.dealloc_token → IsSync (the_row T A g)
sync T A g s sa f = record { shared = λ d b o κ q. part_keyless (the_row T A g) (loose_send T A g s sa f) q d b o }
