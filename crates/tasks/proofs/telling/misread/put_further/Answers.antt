use Rattle.std.proofs.Common.{[], None, codes, get_or, take}
use Rattle.std.proofs.lemmas.List.{flat_map_more, take_more}
use Rattle.snapshot_json.specs.Told.{step_text}
use Rattle.tasks.proofs.Tellings.{puts_then}
use Rattle.tasks.proofs.telling.misread.put_further.Goals as goal

-- one step more
pub loop-step-preserved : goal.loop-step-preserved
loop-step-preserved g c =
    let steps = c.args.further.now in
    let i = c.loop-step.step-index in
    let more = flat_map_more (step_text (codes ".")) [] (take i steps) (get_or steps i None) in
    rw (take_more steps i None c.loop-step-test.true, ← more)
    (puts_then _ _ _ _ _ c.loop-step.invariant c.put_step.ensures)
