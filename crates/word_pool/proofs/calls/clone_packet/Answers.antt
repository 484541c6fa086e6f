-- The seat that is lent is the worker's, so what the call does by it is done by the worker.
use Rattle.std.proofs.Common.{refl, rules}
use Rattle.commons.specs.Calls.{calls_of}
use Rattle.mbuf.specs.Acts.{cloned}
use Rattle.mbuf.specs.declared.acts.Act.TheVariants.{ClonePacket}
use Rattle.word_pool.proofs.Calling.{did_act, left_idle, clone_fresh, clone_keeps}
use Rattle.word_pool.proofs.Leading.{of_lent}
use Rattle.word_pool.proofs.calls.clone_packet.Goals as goal

-- the seat is at rest, and the packets are the worker's own
pub returns-clause-idle : goal.returns-clause-idle
returns-clause-idle c =
    let done = c.clone_packet.ensures.calls in
    let same = (of_lent c.new-c.result done.0 c.clone_packet.new.c done.1).0 in
    let idle =
    left_idle c.args.seat.now c.new-c.result done.0 c.clone_packet.new.c c.args.packets.now c.clone_packet.new.self
    c.new-c.ensures.now done.1 c.requires.idle c.clone_packet.ensures.own in
    search (rules, same, idle, c.new-c.ensures.same)

-- the call is the act's
pub returns-clause-acts : goal.returns-clause-acts
returns-clause-acts c =
    let done = c.clone_packet.ensures.calls in
    let same = (of_lent c.new-c.result done.0 c.clone_packet.new.c done.1).0 in
    let m = c.args.packets.now in
    let n = c.clone_packet.new.self in
    let acts =
    did_act (ClonePacket c.args.slot) (cloned c.clone_packet.result n.table)
    c.args.seat.now c.new-c.result done.0 c.clone_packet.new.c m n c.new-c.ensures.now c.requires.idle.own
    c.has_slots.ensures done.1 (c.clone_packet.result, done.2, refl)
    (clone_fresh m n _ c.clone_packet.result c.clone_packet.ensures.fresh)
    (clone_keeps m n c.args.slot (calls_of done.0) _ _ c.clone_packet.result done.2 c.clone_packet.ensures.holds_err c.clone_packet.ensures.headers_err) in
    search (rules, same, acts, c.new-c.ensures.same)
