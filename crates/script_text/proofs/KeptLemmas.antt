-- What a reader keeps from line to line.
use Rattle.std.proofs.Common.{◌≡◌, ℕ, ◌≤◌, List, [], ◌∷◌, ◌++◌, sym, ap, ◌∙◌}
use Rattle.std.specs.Prelude.{◌&&◌, ◌||◌, ◌==◌}
use Rattle.std.specs.List.{AllByRecursion}
use Rattle.std.proofs.lemmas.List.Elements.{All-from_recursion}
use Rattle.script_text.specs.declared.lines.Line.{Line}
use Rattle.script_text.specs.declared.made_names.MadeNames.{MadeNames}
use Rattle.script_text.specs.Scripts.{AreOfPool}
use Rattle.script_text.specs.inside.ScriptReading.{Lexicon, is_one_of, is_made}
use Rattle.script_text.specs.inside.Agreement.{has_made, AreMade, IsAmong}
use Rattle.script_text.proofs.MadeLemmas.{is_made-push}

module _ {C : Type 0} where
  -- lines that are each of one of the pool's workers are of the pool
  pub of_pool : (workers : ℕ) (lines : List (Line C)) → AllByRecursion (λ line. IsAmong workers line.worker) lines → AreOfPool workers lines
  of_pool workers lines h = All-from_recursion (λ line. (1 ≤ line.worker) × (line.worker ≤ workers)) lines h

  -- with one more line of a worker of the pool all lines are of workers of the pool
  pub workers-push : (workers : ℕ) (lines : List (Line C)) (line : Line C) → IsAmong workers line.worker →
      AllByRecursion (λ l. IsAmong workers l.worker) lines →
      AllByRecursion (λ l. IsAmong workers l.worker) (lines ++ line ∷ [])
  workers-push workers [] line e h = (e, tt)
  workers-push workers (first ∷ lines) line e h = (h.0, workers-push workers lines line e h.1)

-- the line that is added makes the names that were noted of its command
pub made-push : {C : Type 0} (lexicon : Lexicon C) (made : MadeNames) (lines : List (Line C)) (line : Line C) (worker : ℕ) →
    line.worker ≡ worker → ((other : ℕ) (name : List ℕ) →
    has_made made other name ≡ ((other == worker && is_one_of (lexicon.language.names_made line.command) name)
    || is_made lexicon lines other name)) → AreMade lexicon made (lines ++ line ∷ [])
made-push lexicon made lines line worker e h other name =
    h other name ∙ ap (λ (w : ℕ). (other == w && is_one_of (lexicon.language.names_made line.command) name)
    || is_made lexicon lines other name) (sym e) ∙ sym (is_made-push lexicon lines line other name)
