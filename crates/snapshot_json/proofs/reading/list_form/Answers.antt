use Rattle.std.proofs.Common.{◌≡◌, ◌≤◌, ℕ, [], List, codes, true≢false, ap, subst, sym, ◌∙◌, arith}
use Rattle.serde_json.specs.Data.{Data, depth}
use Rattle.serde_json.specs.Read.{max_depth}
use Rattle.serde_json.specs.View.{view}
use Rattle.serde_json.specs.Written.{has_float}
use Rattle.snapshot.specs.declared.snapshot.Snapshot.{Snapshot}
use Rattle.snapshot_json.specs.Shown.{beside_stack, numbers_at}
use Rattle.snapshot_json.specs.SnapshotData.{common_data}
use Rattle.snapshot_json.proofs.Depths.{common_low}
use Rattle.snapshot_json.proofs.NoFloats.{common_whole}
use Rattle.snapshot_json.proofs.Own.{common_own, list_own}
use Rattle.snapshot_json.proofs.reading.list_form.Goals as goal

pub is_same-requires-clause-wanted_low : goal.is_same-requires-clause-wanted_low
is_same-requires-clause-wanted_low c =
    subst (λ (d : Data). depth d ≤ max_depth) (sym c.in_ok-written.ensures)
    (let k = common_low c.in_ok-shown.shown c.in_ok-common.common in omega arith)

pub is_same-requires-clause-whole : goal.is_same-requires-clause-whole
is_same-requires-clause-whole c = ap has_float c.in_ok-written.ensures ∙ common_whole c.in_ok-shown.shown c.in_ok-common.common

-- the data of a snapshot with its list shows both, whose data it then is
pub returns-else-branch : goal.returns-else-branch
returns-else-branch c = λ s common fits is of_pool.
    let d = view c.args.value.now in
    let shown : c.in_ok-shown.shown ≡ beside_stack d 0 0 [] =
    c.in_ok-shown.ensures ∙ ap (λ (links : List ℕ). beside_stack d 0 0 links) (c.new-2.ensures ∙ c.new.ensures.items) in
    let own : beside_stack d 0 0 [] ≡ record s { top = 0; length = 0; links = [] } =
    ap (λ (e : Data). beside_stack e 0 0 []) is ∙ common_own s common 0 0 [] fits in
    let list : c.in_ok-common.common ≡ common =
    c.in_ok-common.ensures ∙ ap (numbers_at (codes "common")) is ∙ list_own s common of_pool in
    let same : d ≡ view c.in_ok-written.written =
    is
    ∙ sym (ap (λ (x : Snapshot). common_data x common) (shown ∙ own))
    ∙ sym (ap (common_data c.in_ok-shown.shown) list)
    ∙ sym c.in_ok-written.ensures in
    true≢false (sym (c.in_ok-is_same.ensures.1 same) ∙ c.if-branch.false)
