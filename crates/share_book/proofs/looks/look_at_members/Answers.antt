-- All workers were looked at, in either pool.
use Rattle.std.proofs.Common.{All, subst}
use Rattle.std.proofs.lemmas.List.{take_all}
use Rattle.mbuf.specs.Twins.{TwinMember}
use Rattle.share_book.specs.inside.Looks.{HasPacketsInSlots}
use Rattle.share_book.proofs.looks.look_at_members.Goals as goal

pub returns-clause-first : goal.returns-clause-first
returns-clause-first c =
    subst (All (λ (m : TwinMember). HasPacketsInSlots m.first))
    (take_all c.loop-twin.twin-index c.args.members.now c.loop-twin-test.false) c.loop-twin.invariant.first

pub returns-clause-second : goal.returns-clause-second
returns-clause-second c =
    subst (All (λ (m : TwinMember). HasPacketsInSlots m.second))
    (take_all c.loop-twin.twin-index c.args.members.now c.loop-twin-test.false) c.loop-twin.invariant.second
