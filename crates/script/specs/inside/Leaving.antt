-- What a script's pools leave at its end, as the code keeps it. No public clause cites this module.
use Rattle.std.specs.Prelude.{◌≤◌, All, None, Some}
use Rattle.book.specs.Left.{AreLeftWhole, IsLeftWhole, first_of, second_of}
use Rattle.script.specs.Snapshots.{settled_in}
use Rattle.script.specs.declared.left.Left.{Left}
use Rattle.script.specs.declared.left.Left.TheVariants as left
use Rattle.script.specs.declared.snapshots.Snapshots.{Snapshots}
use Rattle.script_text.specs.declared.lines.Pools.{Pools}
use Rattle.snapshot.specs.Closing.{snapshot_of}

-- as the snapshots that they make
abbrev pub snapshots_of : Left → Snapshots
snapshots_of (left.One limits closed shares) = record {
  first = snapshot_of limits closed shares.items;
  second = None;
}
snapshots_of (left.Two c) = record {
  first = first_of c.first_limits c.first c.shares.items;
  second = Some (second_of c.second_limits c.second c.shares.items);
}

-- their limits
abbrev pub limits_left : Left → Pools
limits_left (left.One limits closed shares) = record { first = limits; second = None }
limits_left (left.Two c) = record { first = c.first_limits; second = Some c.second_limits }

-- they were whole and at rest
abbrev pub AreWhole : Left → Type 0
AreWhole (left.One limits closed shares) = IsLeftWhole limits closed shares.items
AreWhole (left.Two c) = AreLeftWhole c

-- no count of a pool alone is above the reference limit
abbrev pub CountsAreWithin : Left → Type 0
CountsAreWithin (left.One limits closed shares) =
    All (λ held. held.count ≤ limits.ref_limit) (settled_in (snapshots_of (left.One limits closed shares))).first.held
CountsAreWithin (left.Two c) = Unit {0}
