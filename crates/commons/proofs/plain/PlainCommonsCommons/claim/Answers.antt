use Rattle.std.proofs.Common.{refl}
use Rattle.commons.proofs.Effects.{effect_claim}
use Rattle.commons.proofs.PlainCalls.{done}
use Rattle.commons.proofs.plain.PlainCommonsCommons.claim.Goals as goal

-- a claim reads nothing and can't be refused; what was in the hand is now a hold and a header
pub returns : goal.returns
returns c =
    let s = c.args.self.now in record {
      did = done s _ _ refl refl (c.requires, c.claim.ensures.did) c.claim.ensures.table c.claim.ensures.kept c.claim.ensures.others
          tt
          (effect_claim s.site.now s.worker c.args.element c.claim.new.self c.claim.ensures.table s.positive
          s.of_pool c.requires c.claim.ensures.did);
    }
