-- A closed pool as a snapshot.
use Rattle.std.specs.Prelude.{List, [], false, length, map, max}
use Rattle.std.specs.List.{range_with_len}
use Rattle.commons.specs.Closing.{link_in, top_word}
use Rattle.commons.specs.declared.closed.Closed.{Closed}
use Rattle.commons.specs.declared.limits.Limits.{Limits}
use Rattle.mbuf.specs.Members.{Member}
use Rattle.pool_model.specs.Pool.{Pool, held_of}
use Rattle.snapshot.specs.declared.snapshot.ShareData.{ShareData}
use Rattle.snapshot.specs.declared.snapshot.Snapshot.{Snapshot}

-- a worker's cache and packets as a share
abbrev pub share_of : Member → ShareData
share_of m = record { worker = m.number; cache = m.cache; slots = m.table }

-- what a pool's shared part left, with the shares of its workers
abbrev pub snapshot_of : Limits → Closed → List Member → Snapshot
snapshot_of l closed members = record {
  limits = l;
  top = closed.top;
  length = closed.length;
  links = closed.links;
  counts = closed.counts;
  desks = closed.desks;
  shares = map share_of members;
  guests = [];
  foreign = false;
}

-- What a pool's shared part leaves: the top and the length of the common list; for each element
-- its link and its count, which is how often packets hold it, and 1 where none does; and what is
-- on the desks.
abbrev pub closed_pool : Pool → Closed
closed_pool pool = record {
  top = top_word pool.shared.common;
  length = length pool.shared.common;
  links = map (link_in pool.shared.common) (range_with_len 0 pool.limits.population);
  counts = map (λ i. max 1 (held_of pool.members pool.shared.desks i)) (range_with_len 0 pool.limits.population);
  desks = pool.shared.desks;
}

-- a pool as a snapshot
abbrev pub snapshot_in : Pool → Snapshot
snapshot_in pool = snapshot_of pool.limits (closed_pool pool) pool.members
