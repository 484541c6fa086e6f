use Rattle.json.specs.Value.{value_view}
use Rattle.snapshot_json.specs.SnapshotData.{common_data}
use Rattle.snapshot_json.proofs.Texts.{read_low}
use Rattle.snapshot_json.proofs.dumped.read_listed.Goals as goal

-- the value that doesn't nest too deep is the data of what is listed
pub returns-in-Ok-clause-data : goal.returns-in-Ok-clause-data
returns-in-Ok-clause-data c =
    read_low c.args.text.now (value_view c.in-Ok.value)
    (common_data c.in_ok-found-in-Ok.found.shown c.in_ok-found-in-Ok.found.common)
    (c.is_low.ensures c.if-not-is_low.false) c.in-Ok.ensures.ok c.in_ok-found-in-Ok.ensures
