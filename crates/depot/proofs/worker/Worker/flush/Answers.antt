use Rattle.std.proofs.Common.{◌≡◌, ◌∙◌, Result, Ok, Err, length}
use Rattle.std.specs.Prelude.{IfOk}
use Rattle.depot.specs.declared.cause.Cause.{Cause}
use Rattle.depot.specs.Answers.{contents}
use Rattle.depot.specs.Racks.{Rows, stock}
use Rattle.depot.proofs.Turns.{stock-contents}
use Rattle.depot.proofs.worker.Worker.flush.Goals as goal

no-contents : (r : Result (Unit {0}) Cause) (ms : Rows) → IfOk r (λ _. stock ms ≡ 0) → IfOk r (λ _. length (contents ms) ≡ 0)
no-contents (Ok x) ms h = stock-contents ms ∙ h
no-contents (Err cause) ms h = tt

-- where there are no elements, none is in a magazine
pub returns-clause-empty : goal.returns-clause-empty
returns-clause-empty c = no-contents c.flush.result _ c.flush.ensures.empty
