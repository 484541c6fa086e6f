use Rattle.script.proofs.acting.try_act.Given as goal

-- after this many tries the worker is one of the pool, and the same as at first
abbrev pub invariant-loop : goal.invariant-loop
invariant-loop g l = record {
  of : g.A.Worker.acts_for l.pool l.actor;
  stays : (first : _) → g.A.Worker.stays first l.fn.actor → g.A.Worker.stays first l.actor;
}
