-- What an act inside does for its worker. No public clause cites this module.
use Rattle.std.specs.Prelude.{List}
use Rattle.commons.specs.Calls.{Reading, Call, Calls, Side}
use Rattle.mbuf.specs.Acts.{Performs, Reply}
use Rattle.mbuf.specs.Fresh.{AreFresh, new_elements}
use Rattle.mbuf.specs.Members.{Member}
use Rattle.mbuf.specs.Own.{Own, StaysOwn}
use Rattle.mbuf.specs.Refused.{AsBefore, IfRefused}
use Rattle.mbuf.specs.declared.acts.Act.{Act}

-- The act was performed by the calls of its rule, and this was replied. The elements that the reply
-- tells as new were held by no packet of the worker, its packets are its own still, with whatever
-- else it holds, and a refusal left all as it was.
pub record Acted {S : Type 0} (did : S → Call → List Reading → S → Type 0) (side : S → Side)
    (act : Act) (old : Member) (before : S) (reply : Reply) (new : Member) (after : S)
    : Type 0 where
  pub calls : Calls did side before after (λ calls. Performs act old calls reply new)
  pub fresh : AreFresh old.limits.population (side before).holds (new_elements reply)
  pub own : Own old (side before) → Own new (side after)
  pub guests : StaysOwn old (side before) new (side after)
  pub refused : IfRefused reply (AsBefore act old (side before) new (side after))
