use Rattle.std.proofs.Common.{◌≡◌, drop}
use Rattle.script.specs.Replay.{end_of}
use Rattle.script.specs.inside.Standing.{fresh_run, limits_in, run_of, stock_of}
use Rattle.script.proofs.playing.play_all.Given as goal

-- the lines that are left lead to the end of all
abbrev pub invariant-loop-line : goal.invariant-loop-line
invariant-loop-line l = record {
  rest : end_of (drop l.line-index l.lines) (run_of l.sites l.names) ≡ end_of l.lines (fresh_run l.fn.sites);
  limits : limits_in (stock_of l.sites) ≡ limits_in (stock_of l.fn.sites);
}
