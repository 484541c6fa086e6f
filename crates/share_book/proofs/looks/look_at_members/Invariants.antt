use Rattle.std.proofs.Common.{All, take}
use Rattle.mbuf.specs.Twins.{TwinMember}
use Rattle.share_book.specs.inside.Looks.{HasPacketsInSlots}
use Rattle.share_book.proofs.looks.look_at_members.Given as goal

-- each slot of the workers so far was looked at, in either pool
abbrev pub invariant-loop-twin : goal.invariant-loop-twin
invariant-loop-twin l = record {
  first : All (λ (m : TwinMember). HasPacketsInSlots m.first) (take l.twin-index l.members);
  second : All (λ (m : TwinMember). HasPacketsInSlots m.second) (take l.twin-index l.members);
}
