use Rattle.std.proofs.Common.{◌≡◌, ◌∙◌, ℕ, ◌+◌, [], ◌∷◌, ◌++◌, suc, ap, arith}
use Rattle.std.specs.List.{range_with_len}
use Rattle.std.proofs.lemmas.List.{take_more_set, length-set}
use Rattle.depot.proofs.Opens.{range-last}
use Rattle.depot.proofs.opening.run_from.Goals as goal

-- one more number stands in the list
pub loop-k-preserved : goal.loop-k-preserved
loop-k-preserved c =
    let k = c.loop-k.k in
    let a = c.args.from in
    let test = c.loop-k.auto.k-end in
    let few = c.requires.few in
    let len = c.loop-k.invariant.1 in
    let next : suc k ≡ k + 1 = omega arith in (
      take_more_set c.loop-k.list k (a + k) (omega arith)
          ∙ ap (λ xs. xs ++ (a + k) ∷ []) c.loop-k.invariant.0
          ∙ range-last a k
          ∙ ap (λ (n : ℕ). range_with_len a n) next,
      length-set c.loop-k.list k (a + k) ∙ c.loop-k.invariant.1,
    )
