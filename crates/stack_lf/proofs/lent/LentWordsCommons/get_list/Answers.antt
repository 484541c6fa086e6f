use Rattle.std.proofs.Common.{refl, sym, subst, length, rules}
use Rattle.commons.specs.declared.limits.Limits.{Limits}
use Rattle.stack_lf.specs.Effects.{GetsOnWords}
use Rattle.stack_lf.proofs.Meeting.{get_did}
use Rattle.stack_lf.proofs.lent.LentWordsCommons.get_list.Goals as goal

-- what the get leaves, by the tries that the seat's limits allow
pub returns : goal.returns
returns c =
    let me = c.args.self.now in
    let n = length c.args.out.now in
    let got =
    subst (λ (l : Limits). GetsOnWords l.tries n c.get-answer.new.out c.get-answer.result me.seat.now c.get-answer.new.seat)
    (sym me.of.limits) c.get-answer.ensures.got in
    let d = get_did n c.get-answer.new.out c.get-answer.result me.seat.now c.get-answer.new.seat got (search rules) c.get-answer.ensures.told
    c.get-answer.ensures.ended c.get-answer.ensures.enough in
    record {
      did = record {
        readings = d.readings;
        step = record { led = (refl, d.step.led); cause = d.step.cause; effect = d.step.effect };
      };
    }
