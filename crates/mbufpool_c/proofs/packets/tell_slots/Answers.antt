use Rattle.std.proofs.Common.{◌<◌, length, arith}
use Rattle.std.proofs.lemmas.List.{get_or-map, length-map}
use Rattle.mbuf.specs.Acts.{new_packet}
use Rattle.mbufpool_c.proofs.packets.tell_slots.Goals as goal

-- each packet was told, by its slot and the element that stands there
pub returns : goal.returns
returns c k d e within there =
    let made = new_packet c.args.own.now.worker.member.table in
    let inside : k < length c.args.slots.now = omega (arith, within, length-map c.args.slots.now made) in
    rw (get_or-map made c.args.slots.now k 0 d inside)
    (c.loop-k.invariant k 0 e (omega (arith, there, c.loop-k-test.false, c.loop-k.auto.out)) inside there)
