use Rattle.std.proofs.Common.{length, refl}
use Rattle.commons.proofs.Answers.{cause_get}
use Rattle.commons.proofs.Effects.{effect_get}
use Rattle.commons.proofs.PlainCalls.{done}
use Rattle.commons.proofs.plain.PlainCommonsCommons.get_list.Goals as goal

-- the list's length, and where it suffices the count of changes, are read: they decide the answer
pub returns : goal.returns
returns c =
    let s = c.args.self.now in record {
      did = done s _ _ refl refl c.get.ensures.did c.get.ensures.table c.get.ensures.kept c.get.ensures.others
          (cause_get s.site.now s.worker (length c.args.out.now) c.get.result c.get.new.out c.get.new.self
          c.get.ensures.did)
          (effect_get s.site.now s.worker (length c.args.out.now) c.get.result c.get.new.out c.get.new.self
          c.get.ensures.table c.get.ensures.did);
    }
