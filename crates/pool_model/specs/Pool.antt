-- The reference model's state: a pool as lists of elements and of packets, with no counts.
use Rattle.std.specs.Prelude.{ℕ, zero, suc, ◌+◌, List, [], ◌∷◌, slice_index_or, slice_set, replicate, Option, None, sum_by}
use Rattle.std.specs.List.{range_with_len}
use Rattle.commons.specs.declared.limits.Limits.{Limits}
use Rattle.commons.specs.declared.packet.Seg.{Seg}
use Rattle.commons.specs.Packets.{held_in, own_in}
use Rattle.mbuf.specs.Members.{Member, slots}

-- what all workers share: the common list from the top, the number of changes of the stack, and
-- what is on each desk
pub record Shared : Type 0 where
  pub common : List ℕ
  pub changes : ℕ
  pub desks : List (Option (List Seg))

-- a pool: the worker of number w is the one at w - 1
pub record Pool : Type 0 where
  pub limits : Limits
  pub shared : Shared
  pub members : List Member

-- how often all packets of the members hold an element
abbrev pub held_by : List Member → ℕ → ℕ
held_by members i = sum_by (λ member. held_in member.table i) members

-- and with them those on desks: an element's reference count, for one that is held
abbrev pub held_of : List Member → List (Option (List Seg)) → ℕ → ℕ
held_of members desks i = held_by members i + held_in desks i

-- how often it is the own element of a segment of all packets of the members
abbrev pub own_by : List Member → ℕ → ℕ
own_by members i = sum_by (λ member. own_in member.table i) members

-- and with them those on desks
abbrev pub own_of : List Member → List (Option (List Seg)) → ℕ → ℕ
own_of members desks i = own_by members i + own_in desks i

-- a worker that has nothing
abbrev pub nobody : Limits → Member
nobody l = record { limits = l; number = 0; cache = []; table = [] }

-- the worker of number n + 1
abbrev pub member_at : Pool → ℕ → Member
member_at pool n = slice_index_or pool.members n (nobody pool.limits)

-- the pool once that worker and what is shared are these
abbrev pub with_member : Pool → ℕ → Member → Shared → Pool
with_member pool n member shared = record pool { shared = shared; members = slice_set pool.members n member }

-- the workers from this number on, with empty caches and empty tables
abbrev pub new_members : Limits → ℕ → ℕ → List Member
new_members l number zero = []
new_members l number (suc n) =
    record { limits = l; number = number; cache = []; table = replicate slots None }
    ∷ new_members l (number + 1) n

-- a new pool: all elements in the common list, from 0 at the top, and nothing on any desk
abbrev pub new_pool : Limits → Pool
new_pool l = record {
  limits = l;
  shared = record {
    common = range_with_len 0 l.population;
    changes = l.start_count;
    desks = replicate l.desks None;
  };
  members = new_members l 1 l.workers;
}
