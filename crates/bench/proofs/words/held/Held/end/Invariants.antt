use Rattle.mbuf.specs.Own.{Own}
use Rattle.stack_lf.specs.Sides.{side_of}
use Rattle.bench.proofs.words.held.Held.end.Given as goal

-- the packets stay the worker's own
abbrev pub invariant-loop-try : goal.invariant-loop-try
invariant-loop-try l = Own l.packets (side_of l.c.seat)
