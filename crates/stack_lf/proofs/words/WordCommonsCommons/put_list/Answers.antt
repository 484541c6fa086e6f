use Rattle.std.proofs.Common.{sym, subst, rules}
use Rattle.commons.specs.declared.limits.Limits.{Limits}
use Rattle.stack_lf.specs.Effects.{PutsOnWords}
use Rattle.stack_lf.proofs.Meeting.{put_did}
use Rattle.stack_lf.proofs.words.WordCommonsCommons.put_list.Goals as goal

-- what the put leaves, by the tries that the seat's limits allow
pub returns : goal.returns
returns c =
    let me = c.args.self.now in
    let put =
    subst (λ (l : Limits). PutsOnWords l.tries c.args.list.now c.put-answer.result me.seat c.put-answer.new.seat)
    (sym me.of.limits) c.put-answer.ensures.put in
    let d = put_did c.args.list.now c.put-answer.result me.seat c.put-answer.new.seat c.requires.in_hand put
    (search rules) c.put-answer.ensures.ended in
    record {
      did = record {
        readings = d.readings;
        step = record { led = d.step.led; cause = d.step.cause; effect = d.step.effect };
      };
    }
