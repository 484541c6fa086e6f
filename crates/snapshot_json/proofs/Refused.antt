-- Data with a list of elements that stands for no words.
use Rattle.std.proofs.Common.{ℕ, ◌≡◌, ◌≤◌, List, subst, sym, arith}
use Rattle.commons.specs.Bag.{bag}
use Rattle.commons.specs.declared.limits.Limits.{Limits}
use Rattle.snapshot.specs.declared.snapshot.Snapshot.{Snapshot}
use Rattle.snapshot_json.specs.Reading.{IsLeastDouble, IsNoListData, IsOfPool}
use Rattle.snapshot_json.specs.SnapshotData.{HasCommon, HasWords, common_data}
use Rattle.snapshot_json.proofs.Doubles.{double-twice}
use Rattle.snapshot_json.proofs.Own.{limits_same, list_same}

-- where the list isn't one of the pool's elements
pub refused-elements : (shown : Snapshot) (list : List ℕ) → ¬ (IsOfPool shown.limits.population list) →
    IsNoListData (common_data shown list)
refused-elements shown list not s common fits is of_pool = not (
    let limits : shown.limits ≡ s.limits = limits_same shown s list common is in
    let same : list ≡ common = list_same shown s list common is in
    subst (λ (l : Limits). IsOfPool l.population list) (sym limits)
    (subst (λ (xs : List ℕ). IsOfPool s.limits.population xs) (sym same) of_pool)
    )

-- where an element stands twice in it
pub refused-twice : (shown : Snapshot) (list : List ℕ) (e first second : ℕ) → IsLeastDouble list e first second →
    (s : Snapshot) (common : List ℕ) → HasWords s → common_data shown list ≡ common_data s common →
    ¬ (HasCommon common s)
refused-twice shown list e first second d s common fits is has =
    let same : list ≡ common = list_same shown s list common is in
    let once : bag list e ≤ 1 = subst (λ (xs : List ℕ). bag xs e ≤ 1) (sym same) (has.once e) in
    omega (arith, once, double-twice list e first second d)
