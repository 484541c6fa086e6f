use Rattle.std.proofs.Common.{refl, ◌≤◌, sym, subst}
use Rattle.commons.specs.declared.limits.Limits.{Limits}
use Rattle.stack_lf.proofs.Meeting.{count_did}
use Rattle.stack_lf.proofs.lent.LentWordsCommons.count.Goals as goal

-- what one load of a count did
pub returns : goal.returns
returns c =
    let limited = subst (λ (l : Limits). c.sole-count.result ≤ l.ref_limit)
    (sym c.args.self.now.of.limits) c.sole-count.ensures.limited in
    let d = count_did c.args.element c.sole-count.result c.args.self.now.seat.now c.sole-count.new.seat
    c.sole-count.ensures.step c.sole-count.ensures.own limited c.sole-count.ensures.known in
    record {
      did = record {
        readings = d.readings;
        step = record { led = (refl, d.step.led); cause = d.step.cause; effect = d.step.effect };
      };
    }
