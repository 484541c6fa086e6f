use Rattle.std.proofs.Common.{◌≡◌, [], ap, subst, sym}
use Rattle.snapshot.specs.declared.snapshot.Snapshot.{Snapshot}
use Rattle.snapshot_json.specs.Reading.{IsOfPool}
use Rattle.snapshot_json.specs.Readings.{with_list}
use Rattle.snapshot_json.specs.SnapshotData.{HasCommon, common_data}
use Rattle.snapshot_json.proofs.Repeats.{empty-list}
use Rattle.snapshot_json.proofs.reading.twice.Goals as goal

-- the empty stack is that of no element
pub returns : goal.returns
returns c =
    let shown = c.args.listed.shown in
    let list = c.args.listed.common in
    let same : c.in_ok-snapshot.snapshot ≡ with_list shown [] = c.in_ok-snapshot.ensures in
    record {
      value = ap (λ (s : Snapshot). common_data s list) (sym same);
      known = subst (λ (s : Snapshot). IsOfPool s.limits.population list) (sym same) c.requires.elements;
      empty = subst (λ (s : Snapshot). HasCommon [] s) (sym same) (empty-list shown list c.requires.elements);
      least = c.requires.least;
    }
