use Rattle.std.proofs.Common.{subst}
use Rattle.share_book.specs.AsModel.{pools_of}
use Rattle.share_book.specs.TwinSites.{TwinLists}
use Rattle.share_book.specs.inside.TwinSite.{IsTwinReached}
use Rattle.share_book.proofs.twin_site.TwinSite.comes_of_acts.Goals as goal

-- the type keeps that acts reach its pools
pub returns : goal.returns
returns c = subst (λ (s : TwinLists). IsTwinReached (pools_of s)) c.self.view_is c.self.invariant.reached
