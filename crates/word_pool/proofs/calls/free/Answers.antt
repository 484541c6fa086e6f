-- The seat that is lent is the worker's, so what the call does by it is done by the worker.
use Rattle.std.proofs.Common.{refl, rules}
use Rattle.mbuf.specs.Acts.{freed}
use Rattle.mbuf.specs.declared.acts.Act.TheVariants.{Free}
use Rattle.word_pool.proofs.Calling.{did_act, left_idle, free_fresh, free_refused}
use Rattle.word_pool.proofs.Leading.{of_lent}
use Rattle.word_pool.proofs.calls.free.Goals as goal

-- the seat is at rest, and the packets are the worker's own
pub returns-clause-idle : goal.returns-clause-idle
returns-clause-idle c =
    let done = c.free.ensures.calls in
    let same = (of_lent c.new-c.result done.0 c.free.new.c done.1).0 in
    let idle =
    left_idle c.args.seat.now c.new-c.result done.0 c.free.new.c c.args.packets.now c.free.new.self
    c.new-c.ensures.now done.1 c.requires.idle c.free.ensures.own in
    search (rules, same, idle, c.new-c.ensures.same)

-- the call is the act's
pub returns-clause-acts : goal.returns-clause-acts
returns-clause-acts c =
    let done = c.free.ensures.calls in
    let same = (of_lent c.new-c.result done.0 c.free.new.c done.1).0 in
    let m = c.args.packets.now in
    let n = c.free.new.self in
    let acts =
    did_act (Free c.args.slot) (freed c.free.result)
    c.args.seat.now c.new-c.result done.0 c.free.new.c m n c.new-c.ensures.now c.requires.idle.own
    c.has_slots.ensures done.1 (c.free.result, done.2, refl)
    (free_fresh _ _ c.free.result)
    (free_refused m n c.args.slot _ _ c.free.result c.free.ensures.refused) in
    search (rules, same, acts, c.new-c.ensures.same)
