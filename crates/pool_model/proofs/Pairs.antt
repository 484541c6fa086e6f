-- Lists of which each element stands in a relation to all later ones.
use Rattle.std.proofs.Common.{suc, List, [], ◌∷◌, ◌++◌, arith}
use Rattle.std.specs.Prelude.{All, AllPairs}
use Rattle.std.proofs.lemmas.List.Elements.{All-head, All-tail, All-append}
use Rattle.std.proofs.lemmas.List.Kept.{AllPairs-cons}

module _ {X : Type 0} (R : X → X → Type 0) where
  pub AllPairs-nil : AllPairs R []
  AllPairs-nil i j d lt within = absurd (omega arith)

  -- two such lists, where each element of the first stands in it to all of the second
  pub AllPairs-append : (xs ys : List X) → AllPairs R xs → AllPairs R ys →
      All (λ x. All (R x) ys) xs → AllPairs R (xs ++ ys)
  AllPairs-append [] ys first second between = second
  AllPairs-append (x ∷ xs) ys first second between =
      AllPairs-cons R x (xs ++ ys)
      (All-append (R x) xs ys (λ k d within. first 0 (suc k) d (omega arith) (omega arith))
      (All-head (λ x. All (R x) ys) x xs between))
      (AllPairs-append xs ys
      (λ i j d lt within. first (suc i) (suc j) d (omega arith) (omega arith)) second
      (All-tail (λ x. All (R x) ys) x xs between))
