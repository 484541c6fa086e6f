use Rattle.std.proofs.Common.{◌≡◌, ℕ, sym, ◌∙◌, Result, Ok, Err, length}
use Rattle.std.specs.Prelude.{IfOk}
use Rattle.depot.specs.declared.cause.Cause.{Cause}
use Rattle.depot.specs.Answers.{contents}
use Rattle.depot.specs.Racks.{Rows, AreAll, stock}
use Rattle.depot.specs.Seats.{Site}
use Rattle.depot.proofs.Turns.{stock-contents}
use Rattle.depot.proofs.worker.Worker.gather.Goals as goal

counted : (g : Site) (r : Result ℕ Cause) (ms : Rows) → IfOk r (λ n. n ≡ stock ms) → IfOk r (λ _. AreAll g ms) →
    IfOk r (λ n. (n ≡ length (contents ms)) × AreAll g ms)
counted g (Ok n) ms few all = (few ∙ sym (stock-contents ms), all)
counted g (Err cause) ms few all = tt

-- the elements in the magazines are counted by magazine
pub returns-clause-all : goal.returns-clause-all
returns-clause-all c =
    counted c.args.depot.now c.gather.result c.gather.new.self.seat.me.1 c.gather.ensures.stock c.gather.ensures.all
