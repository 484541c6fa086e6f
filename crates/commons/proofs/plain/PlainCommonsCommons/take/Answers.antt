use Rattle.std.proofs.Common.{refl}
use Rattle.commons.proofs.Answers.{cause_take}
use Rattle.commons.proofs.Effects.{effect_take}
use Rattle.commons.proofs.PlainCalls.{done}
use Rattle.commons.proofs.plain.PlainCommonsCommons.take.Goals as goal

-- the desk's word is read, of a desk that there is: 2 gives the packet, another refuses it
pub returns : goal.returns
returns c =
    let s = c.args.self.now in record {
      did = done s _ _ refl refl c.take.ensures.did c.take.ensures.table c.take.ensures.kept c.take.ensures.others
          (cause_take s.site.now s.worker c.args.desk c.take.result c.take.new.self c.take.ensures.did)
          (effect_take s.site.now s.worker c.args.desk c.take.result c.take.new.self c.take.ensures.did);
    }
