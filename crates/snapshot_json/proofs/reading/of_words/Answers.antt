use Rattle.std.proofs.Common.{◌≡◌, ◌≤◌, true≢false, ap, refl, subst, sym, ◌∙◌, arith}
use Rattle.serde_json.specs.Data.{Data, depth}
use Rattle.serde_json.specs.Read.{max_depth}
use Rattle.serde_json.specs.View.{view}
use Rattle.serde_json.specs.Written.{has_float}
use Rattle.snapshot_json.specs.Shown.{with_words}
use Rattle.snapshot_json.specs.SnapshotData.{snapshot_data}
use Rattle.snapshot_json.proofs.Depths.{snapshot_low}
use Rattle.snapshot_json.proofs.NoFloats.{snapshot_whole}
use Rattle.snapshot_json.proofs.Own.{snapshot_own}
use Rattle.snapshot_json.proofs.reading.of_words.Goals as goal

pub is_same-requires-clause-wanted_low : goal.is_same-requires-clause-wanted_low
is_same-requires-clause-wanted_low c =
    subst (λ (d : Data). depth d ≤ max_depth) (sym c.in_ok-written.ensures)
    (let k = snapshot_low c.in_ok-snapshot.snapshot in omega arith)

pub is_same-requires-clause-whole : goal.is_same-requires-clause-whole
is_same-requires-clause-whole c = ap has_float c.in_ok-written.ensures ∙ snapshot_whole c.in_ok-snapshot.snapshot

-- the data of a snapshot shows that snapshot, whose data it then is
pub returns-else-branch : goal.returns-else-branch
returns-else-branch c = λ s fits is.
    let d = view c.args.value.now in
    let words : c.in_ok-snapshot.snapshot ≡ with_words d =
    c.in_ok-snapshot.ensures ∙ rw (c.number32.ensures, c.number.ensures, c.in_ok-list.ensures) refl in
    let own : c.in_ok-snapshot.snapshot ≡ s = words ∙ ap with_words is ∙ snapshot_own s fits in
    let same : d ≡ view c.in_ok-written.written = is ∙ ap snapshot_data (sym own) ∙ sym c.in_ok-written.ensures in
    true≢false (sym (c.in_ok-is_same.ensures.1 same) ∙ c.if-branch.false)
