use Rattle.std.proofs.Common.{◌≡◌, ap, subst, sym, ◌∙◌}
use Rattle.snapshot.specs.declared.snapshot.Snapshot.{Snapshot}
use Rattle.snapshot_json.specs.Readings.{with_list}
use Rattle.snapshot_json.specs.SnapshotData.{HasCommon, common_data}
use Rattle.snapshot_json.proofs.Repeats.{once-listed}
use Rattle.snapshot_json.proofs.reading.once.Goals as goal

-- the words are those of the list
pub returns : goal.returns
returns c =
    let shown = c.args.listed.shown in
    let list = c.args.listed.common in
    let same : c.in_ok-snapshot.snapshot ≡ with_list shown list =
    c.in_ok-snapshot.ensures ∙ ap (with_list shown) c.as_slice.ensures in (
      list,
      ap (λ (s : Snapshot). common_data s list) (sym same),
      subst (λ (s : Snapshot). HasCommon list s) (sym same)
          (once-listed shown list c.requires.elements c.requires.once),
    )
