use Rattle.std.proofs.Common.{refl}
use Rattle.commons.proofs.Answers.{cause_lower}
use Rattle.commons.proofs.Effects.{effect_lower}
use Rattle.commons.proofs.PlainCalls.{done}
use Rattle.commons.proofs.plain.PlainCommonsCommons.lower.Goals as goal

-- the count that is read decides: at 1 the element comes to the hand, above it one hold is gone
pub returns : goal.returns
returns c =
    let s = c.args.self.now in record {
      did = done s _ _ refl refl c.lower.ensures.did c.lower.ensures.table c.lower.ensures.kept c.lower.ensures.others
          (cause_lower s.site.now s.worker c.args.element c.lower.result c.lower.new.self c.lower.ensures.did)
          (effect_lower s.site.now s.worker c.args.element c.lower.result c.lower.new.self
          c.lower.ensures.table s.positive s.of_pool c.requires c.lower.ensures.did);
    }
