use Rattle.std.proofs.Common.{refl}
use Rattle.commons.proofs.Answers.{cause_raise}
use Rattle.commons.proofs.Effects.{effect_raise}
use Rattle.commons.proofs.PlainCalls.{done}
use Rattle.commons.proofs.plain.PlainCommonsCommons.raise.Goals as goal

-- the element's count is read: at the limit it refuses, below it the worker has one hold more
pub returns : goal.returns
returns c =
    let s = c.args.self.now in record {
      did = done s _ _ refl refl c.raise.ensures.did c.raise.ensures.table c.raise.ensures.kept c.raise.ensures.others
          (cause_raise s.site.now s.worker c.args.element c.raise.result c.raise.new.self c.raise.ensures.did)
          (effect_raise s.site.now s.worker c.args.element c.raise.result c.raise.new.self
          c.raise.ensures.table s.positive s.of_pool c.requires c.raise.ensures.did);
    }
