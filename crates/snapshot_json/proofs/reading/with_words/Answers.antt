use Rattle.std.proofs.Common.{◌≤◌, ℕ, List, Option, None, Some, true≢false, length, subst, sym, ◌∙◌}
use Rattle.std.proofs.Math.Seq.{take-length}
use Rattle.commons.specs.Bag.{bag}
use Rattle.snapshot_json.specs.Doubles.{IsLeastOf}
use Rattle.snapshot_json.specs.Reading.{IsLeastDouble, IsOfPool}
use Rattle.snapshot_json.specs.declared.text.Double.{Double}
use Rattle.snapshot_json.proofs.Doubles.{least-whole}
use Rattle.snapshot_json.proofs.Refused.{refused-elements}
use Rattle.snapshot_json.proofs.reading.with_words.Goals as goal

-- the list isn't one of the pool's elements
pub returns-then-not-has_words : goal.returns-then-not-has_words
returns-then-not-has_words c =
    let shown = c.args.listed.shown in
    refused-elements shown c.args.listed.common
    (λ are. true≢false (
    sym (c.has_words.ensures.1 (subst (λ (xs : List ℕ). IsOfPool shown.limits.population xs) (sym c.as_slice.ensures) are))
    ∙ c.if-not-has_words.true
    ))

-- an element stands twice in it
pub twice-requires-clause-least : goal.twice-requires-clause-least
twice-requires-clause-least c =
    let double = c.in-Some.double in
    let list = c.as_slice-2.result.now in
    let found : IsLeastOf list (length list) (Some double) =
    subst (λ (o : Option Double). IsLeastOf list (length list) o) c.in-Some.is c.in_ok-double.ensures in
    subst (λ (xs : List ℕ). IsLeastDouble xs double.elem double.first double.second) c.as_slice-2.ensures
    (least-whole list double.elem double.first double.second found)

-- each element stands there once
pub once-requires-clause-once : goal.once-requires-clause-once
once-requires-clause-once c =
    let list = c.as_slice-2.result.now in
    let found : IsLeastOf list (length list) None =
    subst (λ (o : Option Double). IsLeastOf list (length list) o) c.in-None.is c.in_ok-double.ensures in
    λ e. subst (λ (xs : List ℕ). bag xs e ≤ 1) (take-length list ∙ c.as_slice-2.ensures) (found e)
