use Rattle.std.proofs.Common.{◌≡◌, ◌≤◌, length, take, vec_len, vec_capacity}
use Rattle.step_core.specs.Kept.{IsWorld}
use Rattle.step_core.specs.Runs.{Reaches}
use Rattle.step_core.proofs.run.run.Given as goal

-- the steps so far lead to the world as it is now, which is one of a pool, with these outcomes
abbrev pub invariant-loop-i : goal.invariant-loop-i
invariant-loop-i l = record {
  first : IsWorld l.fn.world;
  reached : Reaches l.fn.world (take l.i l.steps) l.outcomes.items l.world;
  kept : IsWorld l.world;
  counted : vec_len l.outcomes ≡ l.i;
  room : length l.steps ≤ vec_capacity l.outcomes;
}
