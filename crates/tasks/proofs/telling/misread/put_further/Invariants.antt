use Rattle.std.proofs.Common.{codes, flat_map, take}
use Rattle.snapshot_json.specs.Told.{step_text}
use Rattle.tasks.specs.Telling.{Puts, heard}
use Rattle.tasks.proofs.telling.misread.put_further.Given as goal

-- the steps so far are put
abbrev pub invariant-loop-step : goal.invariant-loop-step
invariant-loop-step g l =
    Puts (heard g.E.Sink.contents g.E.Sink.told l.fn.errors) (heard g.E.Sink.contents g.E.Sink.told l.errors)
    (flat_map (step_text (codes ".")) (take l.step-index l.further))
