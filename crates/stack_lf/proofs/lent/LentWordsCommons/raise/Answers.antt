use Rattle.std.proofs.Common.{refl, sym, subst, rules}
use Rattle.commons.specs.declared.limits.Limits.{Limits}
use Rattle.stack_lf.specs.Effects.{Raises}
use Rattle.stack_lf.proofs.Meeting.{raise_did}
use Rattle.stack_lf.proofs.lent.LentWordsCommons.raise.Goals as goal

-- what the raise leaves, by the tries that the seat's limits allow
pub returns : goal.returns
returns c =
    let me = c.args.self.now in
    let got =
    subst (λ (l : Limits). Raises l c.args.element c.raise-answer.result me.seat.now c.raise-answer.new.seat)
    (sym me.of.limits) c.raise-answer.ensures.raised in
    let d = raise_did c.args.element c.raise-answer.result me.seat.now c.raise-answer.new.seat c.requires got
    (search rules) c.raise-answer.ensures.told c.raise-answer.ensures.below in
    record {
      did = record {
        readings = d.readings;
        step = record { led = (refl, d.step.led); cause = d.step.cause; effect = d.step.effect };
      };
    }
