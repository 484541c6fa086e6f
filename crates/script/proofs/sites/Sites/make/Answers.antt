-- Pools on new lists are new pools of the model, two where the limits are of two.
use Rattle.std.proofs.Common.{Option, sym, ap, ◌∙◌}
use Rattle.commons.specs.declared.limits.Limits.{Limits}
use Rattle.pool_model.specs.TwinModel.{TwinPool}
use Rattle.script.specs.Replay.{Two, new_beside}
use Rattle.script.proofs.sites.Sites.make.Goals as goal

pub returns-in_ok-make-in-Some-clause-new : goal.returns-in_ok-make-in-Some-clause-new
returns-in_ok-make-in-Some-clause-new c =
    ap (λ (t : TwinPool). Two t) c.in_ok-make-in-Some.ensures.model
    ∙ ap (λ (o : Option Limits). new_beside c.args.pools.now.first o) (sym c.in-Some.is)
