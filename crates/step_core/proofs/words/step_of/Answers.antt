use Rattle.std.proofs.Common.{◌<◌, ◌≤◌, length, sym, subst, arith}
use Rattle.std.specs.Prelude.{Option}
use Rattle.step_core.specs.Kept.{world_of, Answers}
use Rattle.step_core.specs.Steps.{Play}
use Rattle.step_core.proofs.Keeping.{played_turn}
use Rattle.step_core.proofs.words.step_of.Goals as goal

-- the step of a worker is that of the view before its number
pub returns : goal.returns
returns c =
    let some : 0 < c.args.worker = omega (arith, c.if-worker-eq0.false) in
    let all : c.args.worker ≤ length c.args.words.now.views.items =
    omega (arith, c.if-worker-len.false, c.len.ensures, c.args.words.now.views.ok) in
    subst (λ (p : Option Play).
    Answers c.args.step.now p (world_of c.args.words.now) c.turn_of.result (world_of c.turn_of.new.words))
    (sym (played_turn (world_of c.args.words.now) c.args.worker c.args.step.now some all)) c.turn_of.ensures
