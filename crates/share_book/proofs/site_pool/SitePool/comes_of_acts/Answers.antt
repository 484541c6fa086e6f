use Rattle.std.proofs.Common.{subst}
use Rattle.share_book.specs.inside.SitePool.{IsReached}
use Rattle.share_book.proofs.site_pool.SitePool.comes_of_acts.Goals as goal

pub returns : goal.returns
returns c = subst IsReached c.self.view_is c.self.invariant.reached
