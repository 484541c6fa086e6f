-- A worker's part of the lists: what a `PlainSite` keeps for it is what the worker has. No public
-- clause cites this module.
use Rattle.std.specs.Prelude.{ℕ, ◌≤◌}
use Rattle.commons.specs.Lists.{Lists, side_of}
use Rattle.mbuf.specs.Members.{Member}
use Rattle.mbuf.specs.Own.{Own}
pub use Rattle.share_book.specs.AsModel.{shared_of}

-- the packets are a worker's own, with that worker's part of the lists
pub record OwnOnLists (s : Lists) (w : ℕ) (m : Member) : Type 0 where
  pub first : 1 ≤ w
  pub last : w ≤ s.limits.workers
  pub share : Own m (side_of s w)
