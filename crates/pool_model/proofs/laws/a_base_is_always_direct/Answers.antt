-- An attach and a clone take a buffer that is in use, and an element that is no base.
use Rattle.pool_model.proofs.BasesDirect.{acts_direct_base}
use Rattle.pool_model.proofs.laws.a_base_is_always_direct.Goals as goal

pub returns : goal.returns
returns c = acts_direct_base
