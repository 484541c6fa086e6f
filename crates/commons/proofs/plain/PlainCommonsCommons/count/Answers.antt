use Rattle.std.proofs.Common.{refl}
use Rattle.commons.proofs.Answers.{cause_count}
use Rattle.commons.proofs.Effects.{effect_count}
use Rattle.commons.proofs.PlainCalls.{KeepsOthers-refl, done}
use Rattle.commons.proofs.plain.PlainCommonsCommons.count.Goals as goal

-- what was read is the answer, and it is at least the worker's own holds since it sums all holds
pub returns : goal.returns
returns c =
    let s = c.args.self.now in record {
      did = done s _ _ refl refl (c.count.ensures.count, refl) s.table s.table (KeepsOthers-refl s.worker s.site.now)
          (cause_count s.site.now c.args.element c.count.result c.count.ensures.count)
          (effect_count s.site.now s.worker c.args.element c.count.result s.table s.positive s.of_pool
          c.count.ensures.count);
    }
