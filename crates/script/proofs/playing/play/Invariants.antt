use Rattle.std.proofs.Common.{◌≡◌, ◌++◌, drop}
use Rattle.script.specs.Replay.{replies_to, end_of}
use Rattle.script.specs.inside.Standing.{fresh_run, limits_in, run_of, stock_of}
use Rattle.script.proofs.playing.play.Given as goal

-- the replies so far and those to what is left are the replies to all, and so with the end
abbrev pub invariant-loop-line : goal.invariant-loop-line
invariant-loop-line l = record {
  told : l.replies.items ++ replies_to (drop l.line-index l.lines) (run_of l.sites l.names) ≡ replies_to l.lines (fresh_run l.fn.sites);
  limits : limits_in (stock_of l.sites) ≡ limits_in (stock_of l.fn.sites);
  rest : end_of (drop l.line-index l.lines) (run_of l.sites l.names) ≡ end_of l.lines (fresh_run l.fn.sites);
}
