-- The seat that is lent is the worker's, so what the call does by it is done by the worker.
use Rattle.std.proofs.Common.{refl, rules}
use Rattle.commons.specs.Calls.{calls_of}
use Rattle.mbuf.specs.Acts.{allocated}
use Rattle.mbuf.specs.declared.acts.Act.TheVariants.{Alloc}
use Rattle.word_pool.proofs.Calling.{did_act, left_idle, alloc_fresh, alloc_refused}
use Rattle.word_pool.proofs.Leading.{of_lent}
use Rattle.word_pool.proofs.calls.alloc.Goals as goal

-- the seat is at rest, and the packets are the worker's own
pub returns-clause-idle : goal.returns-clause-idle
returns-clause-idle c =
    let done = c.alloc.ensures.calls in
    let same = (of_lent c.new-c.result done.0 c.alloc.new.c done.1).0 in
    let idle =
    left_idle c.args.seat.now c.new-c.result done.0 c.alloc.new.c c.args.packets.now c.alloc.new.self
    c.new-c.ensures.now done.1 c.requires.idle c.alloc.ensures.own in
    search (rules, same, idle, c.new-c.ensures.same)

-- the call is the act's
pub returns-clause-acts : goal.returns-clause-acts
returns-clause-acts c =
    let done = c.alloc.ensures.calls in
    let same = (of_lent c.new-c.result done.0 c.alloc.new.c done.1).0 in
    let m = c.args.packets.now in
    let n = c.alloc.new.self in
    let acts =
    did_act Alloc (allocated c.alloc.result n.table)
    c.args.seat.now c.new-c.result done.0 c.alloc.new.c m n c.new-c.ensures.now c.requires.idle.own
    c.has_slots.ensures done.1 (c.alloc.result, done.2, refl)
    (alloc_fresh m n (calls_of done.0) _ c.alloc.result done.2 c.alloc.ensures.fresh)
    (alloc_refused m n _ _ c.alloc.result c.alloc.ensures.refused) in
    search (rules, same, acts, c.new-c.ensures.same)
