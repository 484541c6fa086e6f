use Rattle.std.proofs.Common.{refl}
use Rattle.commons.specs.Calls.{without_packet}
use Rattle.commons.proofs.Answers.{cause_offer}
use Rattle.commons.proofs.Effects.{effect_offer}
use Rattle.commons.proofs.PlainCalls.{done}
use Rattle.commons.proofs.plain.PlainCommonsCommons.offer.Goals as goal

-- the desk's word is read, of a desk that there is: 0 lets the packet go, another refuses it
pub returns-clause-did : goal.returns-clause-did
returns-clause-did c =
    let s = c.args.self.now in
    done s _ _ refl refl c.offer.ensures.did c.offer.ensures.table c.offer.ensures.kept c.offer.ensures.others
    (cause_offer s.site.now s.worker c.args.desk c.args.packet (without_packet c.offer.result)
    c.offer.new.self c.offer.ensures.did)
    (effect_offer s.site.now s.worker c.args.desk c.args.packet (without_packet c.offer.result)
    c.offer.new.self c.offer.ensures.did)
