-- The seat that is lent is the worker's, so what the calls do by it is done by the worker.
use Rattle.std.proofs.Common.{refl, rules, subst, sym}
use Rattle.ground.specs.Seats.{Seated}
use Rattle.mbuf.specs.Acts.{as_reply}
use Rattle.mbuf.specs.Fresh.{new_elements}
use Rattle.mbuf.specs.Own.{Own, no_guests}
use Rattle.mbuf.proofs.FreshLemmas.{fresh_packets}
use Rattle.stack_lf.specs.Sides.{side_of}
use Rattle.word_pool.proofs.Calling.{left_idle}
use Rattle.word_pool.proofs.Leading.{acted, of_lent}
use Rattle.word_pool.proofs.worker.act_by.Goals as goal

-- the seat has taken the steps of all calls, from where it was
pub returns-clause-idle : goal.returns-clause-idle
returns-clause-idle g c =
    let done = c.perform_in.ensures.calls in
    let same = (of_lent c.new-c.result done.0 c.perform_in.new.c done.1).0 in
    let idle =
    left_idle c.args.seat.now c.new-c.result done.0 c.perform_in.new.c c.args.packets.now c.perform_in.new.packets
    c.new-c.ensures.now done.1 c.requires.idle c.perform_in.ensures.own in
    search (rules, same, idle, c.new-c.ensures.same)

-- what the calls did over the words is what the act did to seat and packets
pub returns-clause-acts : goal.returns-clause-acts
returns-clause-acts g c =
    let done = c.perform_in.ensures.calls in
    let lent = of_lent c.new-c.result done.0 c.perform_in.new.c done.1 in
    let same = lent.0 in
    let m = c.args.packets.now in
    let own = subst (λ (s : Seated). Own m (side_of s)) (sym c.new-c.ensures.now) c.requires.idle.own in
    let fresh =
    fresh_packets no_guests m (side_of c.new-c.result.seat.now) m.limits.population
    (new_elements (as_reply c.perform_in.result)) own c.perform_in.ensures.fresh in
    let acts =
    acted c.args.act (as_reply c.perform_in.result) c.args.seat.now c.new-c.result.seat.now
    c.perform_in.new.c.seat.now c.perform_in.new.c.seat.now m c.perform_in.new.packets done.0
    c.new-c.ensures.now refl lent.1 done.2
    fresh c.perform_in.ensures.refused c.perform_in.ensures.member in
    search (rules, same, acts, c.new-c.ensures.same)
