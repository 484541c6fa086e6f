-- What a contract sees of a `Book`.
use Rattle.std.specs.Prelude.{List, Option}
use Rattle.commons.specs.declared.limits.Limits.{Limits}
use Rattle.mbuf.specs.Members.{Member}

-- the limits of a pool, and the shares of its workers, where they are in the book: the place of
-- the worker of number w is the one at w - 1
pub record Places : Type 0 where
  pub limits : Limits
  pub places : List (Option Member)
