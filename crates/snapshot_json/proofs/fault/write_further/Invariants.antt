use Rattle.std.proofs.Common.{codes, flat_map, take}
use Rattle.std.specs.Fmt.{HasWritten, IsPlainFormatter}
use Rattle.snapshot_json.specs.Told.{step_text}
use Rattle.snapshot_json.proofs.fault.write_further.Given as goal

abbrev pub invariant-loop-step : goal.invariant-loop-step
invariant-loop-step g l =
    IsPlainFormatter l.fn.f → HasWritten g.W.Write.write_str_gives l.fn.f
    (flat_map (step_text (codes ".")) (take l.step-index l.further)) l.f
