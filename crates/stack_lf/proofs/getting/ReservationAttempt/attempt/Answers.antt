use Rattle.std.proofs.Common.{ℕ, subst, refl, [], ◌∷◌}
use Rattle.ground.specs.Seats.{Seated, KnowsLength}
use Rattle.step_core.specs.declared.step.Step.TheVariants.{LoadLength, Reserve as ReserveStep}
use Rattle.step_core.specs.declared.step.Outcome.TheVariants.{Value, Won, Lost}
use Rattle.stack_lf.specs.Tries.{IsLostReserve, ReserveFailed}
use Rattle.stack_lf.proofs.SoleSeat.{same_length}
use Rattle.stack_lf.proofs.Composing.{one_more, lost_once}
use Rattle.stack_lf.proofs.getting.ReservationAttempt.attempt.Goals as goal

-- n are taken off the length that was read, which was enough
pub returns-in-Ok-clause-one : goal.returns-in-Ok-clause-one
returns-in-Ok-clause-one c =
    let n = c.args.self.n in
    let v = c.load_length-length.result in (
      v,
      c.if-length-self.false,
      c.load_length-length.ensures.known,
      one_more c.args.seat.now c.load_length-length.new.seat c.reserve.new.seat
          ((LoadLength, Value v) ∷ []) c.args.seat.now.known.view (ReserveStep v n) Won
          c.load_length-length.ensures.step c.in-Ok.ensures.step,
    )

-- another length stood there
pub returns-in-Err-clause-one : goal.returns-in-Err-clause-one
returns-in-Err-clause-one c =
    let n = c.args.self.n in
    let s = c.args.seat.now in
    let v = c.load_length-length.result in
    let found = c.in-Err.field-0 in
    lost_once (IsLostReserve n) s c.reserve.new.seat (ReserveFailed n v found) s.known.view.look
    s.known.view.seen (v, found, c.if-length-self.false, c.in-Err.ensures.lost, refl)
    (one_more s c.load_length-length.new.seat c.reserve.new.seat ((LoadLength, Value v) ∷ [])
    s.known.view (ReserveStep v n) (Lost found) c.load_length-length.ensures.step
    c.in-Err.ensures.step)

-- the only seat of a pool knows the length, so that both are the same
pub returns-in-Err-clause-alone : goal.returns-in-Err-clause-alone
returns-in-Err-clause-alone c = λ whole _.
    let v : ℕ = c.load_length-length.result in
    let found : ℕ = c.in-Err.field-0 in
    c.in-Err.ensures.lost (same_length c.args.seat.now.known v found c.load_length-length.ensures.known
    (subst (λ (z : Seated). KnowsLength z.known found) c.load_length-length.ensures.step
    c.in-Err.ensures.known) whole)
