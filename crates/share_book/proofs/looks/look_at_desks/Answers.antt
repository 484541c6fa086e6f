-- All desks were looked at.
use Rattle.std.proofs.Common.{subst}
use Rattle.std.proofs.lemmas.List.{take_all}
use Rattle.std.proofs.lemmas.List.Elements.{All-more}
use Rattle.snapshot.specs.inside.Checked.{HasPackets, IsPacketIn}
use Rattle.share_book.proofs.looks.look_at_desks.Goals as goal

-- one desk more
pub loop-desk-preserved : goal.loop-desk-preserved
loop-desk-preserved c =
    All-more IsPacketIn c.args.desks.now c.loop-desk.desk-index c.desk-item.result
    c.loop-desk-test.true c.loop-desk.invariant (subst IsPacketIn c.desk-item.is c.look_at_desk.ensures)

-- and then all of them
pub returns : goal.returns
returns c =
    subst HasPackets (take_all c.loop-desk.desk-index c.args.desks.now c.loop-desk-test.false)
    c.loop-desk.invariant
