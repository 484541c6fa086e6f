use Rattle.std.proofs.Common.{◌≡◌, Some, ap, sym, map}
use Rattle.serde_json.specs.Find.{as_array}
use Rattle.serde_json.specs.View.{items_view, view}
use Rattle.snapshot_json.proofs.Items.{list_of-items_of}
use Rattle.snapshot_json.proofs.parts.items_of.Goals as goal

-- the list's items are the value's
pub returns-in-Some : goal.returns-in-Some
returns-in-Some c =
    let is : as_array (view c.args.value.now) ≡ Some (items_view c.in-Some.list.now.items) = sym c.in-Some.ensures in
    rw (is, list_of-items_of (map view c.in-Some.list.now.items)) (ap (map view) c.as_slice.ensures.value)
