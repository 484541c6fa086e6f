use Rattle.snapshot_json.proofs.Unique.{same_snapshot}
use Rattle.snapshot_json.proofs.laws.a_value_is_the_data_of_one_snapshot.Goals as goal

pub returns : goal.returns
returns c = same_snapshot
