-- The packet comes with what the seat has.
use Rattle.std.proofs.Common.{refl, sym, ap, arith}
use Rattle.ground.specs.Seats.{Seated}
use Rattle.step_core.specs.declared.view.View.{View}
use Rattle.word_pool.proofs.Parcels.{received, received_idle}
use Rattle.word_pool.proofs.worker.WordWorker.receive_seat.Goals as goal

-- both seats are of the ground and at rest
pub join-requires-clause-of : goal.join-requires-clause-of
join-requires-clause-of c = rw (sym c.self.view_is) at c.requires.of

pub join-requires-clause-rest : goal.join-requires-clause-rest
join-requires-clause-rest c = c.self.invariant.idle.rest

pub join-requires-clause-other_rest : goal.join-requires-clause-other_rest
join-requires-clause-other_rest c =
    rw c.requires.parcel.view (record { zeros = refl; credit = refl; chain = refl; work = refl })

-- no part is above all parts of a pool of 64 workers
pub overflow_add-self : goal.overflow_add-self
overflow_add-self c =
    let both = c.join.ensures.1 in
    omega (
      arith,
      c.self.invariant.part,
      c.owned.ensures.within,
      c.owned.ensures.pool.workers,
      ap (λ (s : Seated). s.known.view.part) both,
      ap (λ (v : View). v.part) c.requires.parcel.view,
    )

-- the worker is between its acts, with the parcel's part
pub invariant_of-self : goal.invariant_of-self
invariant_of-self c =
    let w = c.self.inside in
    let is = c.requires.parcel in
    record {
      idle =
          received_idle c.args.segs.now c.in-Ok.slot w.seat c.join.new.seat c.args.seat.known c.join.ensures.0 w.packets
          c.bring_in.new.self c.self.invariant.idle is.view c.in-Ok.ensures c.join.ensures.1;
      part =
          omega (
            arith,
            c.self.invariant.part,
            ap (λ (s : Seated). s.known.view.part) c.join.ensures.1,
            ap (λ (v : View). v.part) is.view,
          );
    }

-- the packet came into its slot
pub returns-in-Ok-clause-received : goal.returns-in-Ok-clause-received
returns-in-Ok-clause-received c =
    let w = c.self.inside in
    rw (sym c.self.view_is)
    (received (record { packet = c.args.segs.now; seat = c.args.seat }) c.in-Ok.slot w.seat c.join.new.seat w.packets
    c.bring_in.new.self c.in-Ok.ensures c.join.ensures)
