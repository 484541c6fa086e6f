-- What a contract sees of a `TwinSite`, and what an act of one of its workers does.
use Rattle.std.specs.Prelude.{ℕ, ◌≡◌, ◌≤◌, ◌-◌, List, [], length, map, replicate, slice_index_or, slice_set, None}
use Rattle.std.specs.List.{range_with_len}
use Rattle.commons.specs.Calls.{Call}
use Rattle.commons.specs.Closing.{closed_of}
use Rattle.commons.specs.Lists.{Lists, opening, side_of}
use Rattle.commons.specs.PlainCalls.{LeadsPlain}
use Rattle.commons.specs.declared.limits.Limits.{Limits}
use Rattle.mbuf.specs.Acts.{Reply}
use Rattle.mbuf.specs.Fresh.{new_elements}
use Rattle.mbuf.specs.Members.{slots}
use Rattle.mbuf.specs.Refused.{IfRefused}
use Rattle.mbuf.specs.Twins.{TwinMember}
use Rattle.pool_model.specs.Pool.{nobody}
use Rattle.snapshot.specs.declared.snapshot.Snapshot.{Snapshot}
pub use Rattle.book.specs.TwinBooks.{AreTwinPools, IsTwinMakeCause}
use Rattle.book.specs.Left.{first_of, second_of}
use Rattle.twin_acts.specs.TwinActs.{AreFreshByAct, PerformsTwin, TwinAsBefore}
use Rattle.twin_acts.specs.declared.acts.TwinAct.{TwinAct}

-- the lists of either pool, and what each worker has of both, by number
pub record TwinLists : Type 0 where
  pub first : Lists
  pub second : Lists
  pub members : List TwinMember

-- a worker of both pools who has nothing
abbrev pub new_twin : Limits → Limits → ℕ → TwinMember
new_twin l k number = record {
  first = record { limits = l; number = number; cache = []; table = replicate slots None };
  second = record { limits = k; number = number; cache = []; table = replicate slots None };
}

-- two new pools: all elements in the common lists, and workers who have nothing
abbrev pub new_twin_lists : Limits → Limits → TwinLists
new_twin_lists l k = record {
  first = opening l;
  second = opening k;
  members = map (new_twin l k) (range_with_len 1 l.workers);
}

-- the worker at n, and one who has nothing where there is none
abbrev pub twin_at : TwinLists → ℕ → TwinMember
twin_at s n = slice_index_or s.members n (record { first = nobody s.first.limits; second = nobody s.second.limits })

-- the pools have a worker of this number
pub record HasWorker (s : TwinLists) (w : ℕ) : Type 0 where
  pub first : 1 ≤ w
  pub last : w ≤ length s.members

-- What a worker did, and what was replied: by calls on the lists of either pool, each of which found
-- and left them a table. What is told of as new the worker held none of; and where the act was
-- refused, all that it has is as before, but for the free elements after a clone.
pub record ActsAlone (w : ℕ) (act : TwinAct) (s u : Lists) (t : TwinMember) (reply : Reply)
    (s' u' : Lists) (after : TwinMember) : Type 0 where
  pub firsts : List Call
  pub seconds : List Call
  pub first : LeadsPlain w s firsts s'
  pub second : LeadsPlain w u seconds u'
  pub did : PerformsTwin act t firsts seconds reply after
  pub fresh : AreFreshByAct act t (side_of s w) (side_of u w) (new_elements reply)
  pub refused : IfRefused reply
      (TwinAsBefore act t (side_of s w) (side_of u w) after (side_of s' w) (side_of u' w))

-- one worker did this, and the others are as before
pub record ActsOn (w : ℕ) (act : TwinAct) (old : TwinLists) (reply : Reply) (new : TwinLists) : Type 0 where
  pub alone : ActsAlone w act old.first old.second (twin_at old (w - 1)) reply
      new.first new.second (twin_at new (w - 1))
  pub others : new.members ≡ slice_set old.members (w - 1) (twin_at new (w - 1))

-- what each pool leaves, as a snapshot: the bases of foreign clones are guests of the first, and
-- foreign in the second
abbrev pub first_snapshot : TwinLists → Snapshot
first_snapshot s = first_of s.first.limits (closed_of s.first) s.members

abbrev pub second_snapshot : TwinLists → Snapshot
second_snapshot s = second_of s.second.limits (closed_of s.second) s.members
