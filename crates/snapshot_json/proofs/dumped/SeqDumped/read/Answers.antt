use Rattle.std.proofs.Common.{◌≡◌, map, length, arith}
use Rattle.std.proofs.Math.Seq.{take-length}
use Rattle.json.specs.Value.{value_view}
use Rattle.snapshot_json.specs.Dumped.{AreOf}
use Rattle.snapshot_json.proofs.Dumps.{list_read}
use Rattle.snapshot_json.proofs.dumped.SeqDumped.read.Goals as goal

-- a list of values is the list of their data
pub returns : goal.returns
returns g c =
    let items = c.in_ok-items.items.now in
    let whole : c.loop-item.item-index ≡ length items = omega arith in
    let all : AreOf g.T.Dumped.data_of (map value_view items) c.loop-item.found.items =
    rw (whole, take-length items) at c.loop-item.invariant in
    rw c.new.ensures (list_read g.T.Dumped.data_of _ (map value_view items) _ c.in_ok-items.ensures all)
