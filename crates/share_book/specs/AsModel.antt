-- What a contract sees of lists and of the workers who have their packets of them, as the reference
-- model has it: of one pool, and of two.
use Rattle.std.specs.Prelude.{List, map}
use Rattle.commons.specs.Lists.{Lists}
use Rattle.mbuf.specs.Members.{Member}
use Rattle.pool_model.specs.Pool.{Pool, Shared}
use Rattle.pool_model.specs.TwinModel.{TwinPool}
use Rattle.share_book.specs.TwinSites.{TwinLists}

-- what all workers share of the lists
abbrev pub shared_of : Lists → Shared
shared_of s = record { common = s.common; changes = s.changes; desks = s.desks }

-- these lists and these workers as a pool
abbrev pub pool_with : Lists → List Member → Pool
pool_with s members = record { limits = s.limits; shared = shared_of s; members = members }

-- both pools, the workers of either with what they have of it
abbrev pub pools_of : TwinLists → TwinPool
pools_of s = record {
  first = pool_with s.first (map (λ m. m.first) s.members);
  second = pool_with s.second (map (λ m. m.second) s.members);
}
