use Rattle.std.proofs.Common.{◌≡◌, List, Some, ap, sym, ◌∙◌, map}
use Rattle.serde_json.specs.Find.{as_array}
use Rattle.serde_json.specs.View.{items_view, view}
use Rattle.serde_json.specs.declared.value.Value.{Value}
use Rattle.snapshot_json.specs.Shown.{seg_in}
use Rattle.snapshot_json.proofs.Items.{list_of-items_of}
use Rattle.snapshot_json.proofs.parts.OptionSeqSegPart.shown_by.Goals as goal

-- the packet has the segments that the list's items show
pub returns-in_ok-all-in-Some : goal.returns-in_ok-all-in-Some
returns-in_ok-all-in-Some c =
    let is : as_array (view c.args.value.now) ≡ Some (items_view c.in-Some.items.now.items) = sym c.in-Some.ensures in
    let shown : c.in_ok-all-in-Some.field-0 ≡ map seg_in (map view c.in-Some.items.now.items) =
    c.in_ok-all-in-Some.ensures ∙ ap (λ (vs : List Value). map seg_in (map view vs)) c.as_slice.ensures.value in
    rw (is, list_of-items_of (map view c.in-Some.items.now.items)) (ap Some shown)
