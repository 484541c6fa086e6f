use Rattle.std.proofs.Common.{◌≡◌, ◌++◌, drop}
use Rattle.step_text.specs.Playing.{after_lines, lines_text}
use Rattle.step_text.proofs.playing.play_lines.Given as goal

-- what was told and what is left to tell are all, and so with the end
abbrev pub invariant-loop-line : goal.invariant-loop-line
invariant-loop-line l = record {
  told : l.out.items ++ lines_text l.world (drop l.line-index l.lines) ≡ l.fn.out.items ++ lines_text l.fn.world l.lines;
  rest : after_lines l.world (drop l.line-index l.lines) ≡ after_lines l.fn.world l.lines;
}
