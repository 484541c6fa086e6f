use Rattle.std.proofs.Common.{◌≡◌, ◌++◌, drop}
use Rattle.std.specs.Prelude.{flat_map}
use Rattle.script.specs.Replay.{replies_to, end_of}
use Rattle.script.specs.ReplyText.{reply_line}
use Rattle.script.specs.inside.Standing.{run_of, fresh_run}
use Rattle.script.proofs.printing.reply_lines.Given as goal

-- the lines so far and those that answer what is left are all, and so with the end
abbrev pub invariant-loop-line : goal.invariant-loop-line
invariant-loop-line l = record {
  told : l.out.items ++ flat_map (λ p. reply_line p.0 p.1) (replies_to (drop l.line-index l.lines) (run_of l.sites l.names)) ≡ flat_map (λ p. reply_line p.0 p.1) (replies_to l.lines (fresh_run l.fn.sites));
  rest : end_of (drop l.line-index l.lines) (run_of l.sites l.names) ≡ end_of l.lines (fresh_run l.fn.sites);
}
