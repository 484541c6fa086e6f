use Rattle.script.proofs.acting.perform_lines.Given as goal

-- between two lines the worker is one of the pool, and the same as at first
abbrev pub invariant-loop-line : goal.invariant-loop-line
invariant-loop-line g l = record {
  of : g.A.Worker.acts_for l.pool l.actor;
  stays : (first : _) → g.A.Worker.stays first l.fn.actor → g.A.Worker.stays first l.actor;
}
