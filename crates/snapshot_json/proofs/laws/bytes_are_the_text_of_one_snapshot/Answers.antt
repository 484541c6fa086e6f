use Rattle.snapshot_json.proofs.Unique.{same_text}
use Rattle.snapshot_json.proofs.laws.bytes_are_the_text_of_one_snapshot.Goals as goal

pub returns : goal.returns
returns c = same_text
