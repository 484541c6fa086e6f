-- The seat that is lent is the worker's, so what the call does by it is done by the worker.
use Rattle.std.proofs.Common.{refl, length, rules}
use Rattle.commons.specs.Calls.{calls_of, with_list}
use Rattle.mbuf.specs.Acts.{allocated_bulk}
use Rattle.mbuf.specs.declared.acts.Act.TheVariants.{AllocBulk}
use Rattle.word_pool.proofs.Calling.{did_act, left_idle, bulk_fresh, bulk_refused}
use Rattle.word_pool.proofs.Leading.{of_lent}
use Rattle.word_pool.proofs.calls.alloc_bulk.Goals as goal

-- the seat is at rest, and the packets are the worker's own
pub returns-clause-idle : goal.returns-clause-idle
returns-clause-idle c =
    let done = c.alloc_bulk.ensures.calls in
    let same = (of_lent c.new-c.result done.0 c.alloc_bulk.new.c done.1).0 in
    let idle =
    left_idle c.args.seat.now c.new-c.result done.0 c.alloc_bulk.new.c c.args.packets.now c.alloc_bulk.new.self
    c.new-c.ensures.now done.1 c.requires.idle c.alloc_bulk.ensures.own in
    search (rules, same, idle, c.new-c.ensures.same)

-- the call is the act's
pub returns-clause-acts : goal.returns-clause-acts
returns-clause-acts c =
    let done = c.alloc_bulk.ensures.calls in
    let same = (of_lent c.new-c.result done.0 c.alloc_bulk.new.c done.1).0 in
    let m = c.args.packets.now in
    let n = c.alloc_bulk.new.self in
    let acts =
    did_act (AllocBulk (length c.args.slots.now)) (allocated_bulk (with_list c.alloc_bulk.result c.alloc_bulk.new.out) n.table)
    c.args.seat.now c.new-c.result done.0 c.alloc_bulk.new.c m n c.new-c.ensures.now c.requires.idle.own
    c.has_slots.ensures done.1 (with_list c.alloc_bulk.result c.alloc_bulk.new.out, done.2, refl)
    (bulk_fresh m n (length c.args.slots.now) (calls_of done.0) _ c.alloc_bulk.new.out c.alloc_bulk.result done.2 c.alloc_bulk.ensures.fresh)
    (bulk_refused m n (length c.args.slots.now) _ _ c.alloc_bulk.new.out c.alloc_bulk.result c.alloc_bulk.ensures.refused) in
    search (rules, same, acts, c.new-c.ensures.same)
