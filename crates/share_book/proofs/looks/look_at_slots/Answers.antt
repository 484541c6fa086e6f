-- All slots of a table were looked at.
use Rattle.std.proofs.Common.{None, subst, arith}
use Rattle.std.proofs.lemmas.List.{take_all}
use Rattle.std.proofs.lemmas.List.Elements.{All-more}
use Rattle.snapshot.specs.inside.Checked.{HasPackets, IsPacketIn}
use Rattle.share_book.proofs.looks.look_at_slots.Goals as goal

-- one slot more
pub loop-number-preserved : goal.loop-number-preserved
loop-number-preserved c =
    All-more IsPacketIn c.args.packets.now.table c.loop-number.number None
    (omega (arith, c.has_slots.ensures, c.loop-number-test.true)) c.loop-number.invariant
    c.look_at_slot.ensures

-- and then the whole table
pub returns : goal.returns
returns c =
    let table = c.args.packets.now.table in record {
      places = c.has_slots.ensures;
      packets =
          subst HasPackets
          (take_all c.loop-number.number table
          (omega (arith, c.has_slots.ensures, c.loop-number-test.false))) c.loop-number.invariant;
    }
