-- What is written of a snapshot in either form. For private clauses.
use Rattle.std.specs.Prelude.{codes}
use Rattle.serde_json.specs.Data.{Members, boolean, member, no_members}
use Rattle.snapshot.specs.declared.snapshot.Snapshot.{Snapshot}
use Rattle.snapshot_json.specs.SnapshotData.{guests_data, limits_data, places_data, shares_data}
use Rattle.statement_text.specs.StatementData.{counts_data}

-- the members beside the stack
abbrev pub shared_members : Snapshot → Members
shared_members s =
    member (codes "counts") (counts_data s.counts)
    (member (codes "desks") (places_data s.desks)
    (member (codes "foreign") (boolean s.foreign)
    (member (codes "guests") (guests_data s.guests)
    (member (codes "limits") (limits_data s.limits)
    (member (codes "shares") (shares_data s.shares) no_members)))))
