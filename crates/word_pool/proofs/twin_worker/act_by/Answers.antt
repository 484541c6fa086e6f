-- The seats that are lent are the worker's, so what the calls do by them is done by the worker.
use Rattle.std.proofs.Common.{◌∙◌, ap, refl, rules}
use Rattle.ground.specs.Seats.{Seated}
use Rattle.mbuf.specs.Acts.{as_reply}
use Rattle.word_pool.specs.TwinWorkers.{IsTwinIdle}
use Rattle.word_pool.proofs.Leading.{leads_sits, of_lent}
use Rattle.word_pool.proofs.TwinLeading.{twin_acted}
use Rattle.word_pool.proofs.twin_worker.act_by.Goals as goal

-- the seats have taken the steps of all calls, from where they were
pub returns-clause-idle : goal.returns-clause-idle
returns-clause-idle g c =
    let e = c.perform_twin_in.ensures in
    let after = c.perform_twin_in.new in
    let lent = of_lent c.new-c.result e.calls.0 after.c e.calls.1 in
    let over = of_lent c.new-d.result e.calls.2.0 after.d e.calls.2.1 in
    let same = lent.0 in
    let others_same = over.0 in
    let sits = leads_sits c.new-c.result.seat.now e.calls.0 after.c.seat.now lent.1 in
    let others = leads_sits c.new-d.result.seat.now e.calls.2.0 after.d.seat.now over.1 in
    let idle : IsTwinIdle (record { first = after.c.seat.now; second = after.d.seat.now; member = after.twin }) = record {
      first_rest = after.c.rest;
      second_rest = after.d.rest;
      first_slots = sits.slots ∙ (ap (λ (s : Seated). s.slots) c.new-c.ensures.now ∙ c.requires.idle.first_slots);
      second_slots = others.slots ∙ (ap (λ (s : Seated). s.slots) c.new-d.ensures.now ∙ c.requires.idle.second_slots);
      own = e.own;
    } in
    search (rules, same, others_same, idle, c.new-c.ensures.same, c.new-d.ensures.same)

-- what the calls did over the words is what the act did to seats, packets and clones
pub returns-clause-acts : goal.returns-clause-acts
returns-clause-acts g c =
    let e = c.perform_twin_in.ensures in
    let after = c.perform_twin_in.new in
    let lent = of_lent c.new-c.result e.calls.0 after.c e.calls.1 in
    let over = of_lent c.new-d.result e.calls.2.0 after.d e.calls.2.1 in
    let same = lent.0 in
    let others_same = over.0 in
    let acts =
    twin_acted c.args.act (as_reply c.perform_twin_in.result)
    c.args.first_seat.now c.new-c.result.seat.now after.c.seat.now after.c.seat.now
    c.args.second_seat.now c.new-d.result.seat.now after.d.seat.now after.d.seat.now
    c.args.twin.now after.twin e.calls.0 e.calls.2.0
    c.new-c.ensures.now refl c.new-d.ensures.now refl
    lent.1 over.1 e.calls.2.2 e.fresh e.refused e.member in
    search (rules, same, others_same, acts, c.new-c.ensures.same, c.new-d.ensures.same)
