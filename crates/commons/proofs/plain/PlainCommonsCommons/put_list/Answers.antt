use Rattle.std.proofs.Common.{refl}
use Rattle.commons.proofs.Answers.{cause_put}
use Rattle.commons.proofs.Effects.{effect_put}
use Rattle.commons.proofs.PlainCalls.{done}
use Rattle.commons.proofs.plain.PlainCommonsCommons.put_list.Goals as goal

-- the count of changes alone is read: below the spent one the elements leave the hand
pub returns : goal.returns
returns c =
    let s = c.args.self.now in record {
      did = done s _ _ refl refl c.put.ensures.did c.put.ensures.table c.put.ensures.kept c.put.ensures.others
          (cause_put s.site.now c.args.list.now c.put.result c.put.new.self c.put.ensures.did)
          (effect_put s.site.now s.worker c.args.list.now c.put.result c.put.new.self c.requires.in_hand
          c.put.ensures.did);
    }
