use Rattle.std.proofs.Common.{◌≡◌, ◌+◌, List, take, sym, subst, arith}
use Rattle.step_core.specs.Steps.{Outcome}
use Rattle.step_core.specs.Schedules.{Schedule}
use Rattle.step_core.specs.Runs.{Reaches}
use Rattle.step_core.proofs.LinksUp.{take_whole}
use Rattle.step_core.proofs.Walking.{stops_first, read_next, read_stops, every_schedule_walks}
use Rattle.step_core.proofs.run.run.Goals as goal

-- nothing was played
pub returns-in_default-clause-stopped : goal.returns-in_default-clause-stopped
returns-in_default-clause-stopped c =
    stops_first c.args.world.now c.args.steps.now c.limits-known.ensures.world

-- one step more, with its outcome
pub loop-i-preserved : goal.loop-i-preserved
loop-i-preserved c = record {
  first = c.loop-i.invariant.first;
  reached =
      subst (λ (os : List Outcome). Reaches c.args.world.now
      (take (c.loop-i.i + 1) c.args.steps.now) os c.step_by.new.self) (sym c.push_reserved.ensures.items)
      (read_next c.args.world.now c.args.steps.now c.loop-i.i c.index-steps-i.result
      c.loop-i.outcomes.items c.loop-i.world c.loop-i.invariant.first c.loop-i-test.true
      c.loop-i.invariant.reached c.index-steps-i.is _ _ c.in-Ok-step_by.ensures.step);
  kept = c.step_by.ensures.world;
  counted = omega arith;
  room = omega arith;
}

-- the step was refused, or found no memory
pub returns-in-Err-clause-stopped : goal.returns-in-Err-clause-stopped
returns-in-Err-clause-stopped c =
    read_stops c.args.world.now c.args.steps.now c.loop-i.i c.index-steps-i.result
    c.loop-i.outcomes.items c.loop-i.world c.loop-i.invariant.first c.loop-i-test.true
    c.loop-i.invariant.reached c.index-steps-i.is _ _ c.in-Err.ensures.step

-- all steps were played
pub returns-clause-whole : goal.returns-clause-whole
returns-clause-whole c =
    let all : take c.loop-i.i c.args.steps.now ≡ c.args.steps.now =
    take_whole c.args.steps.now c.loop-i.i c.loop-i-test.false in
    every_schedule_walks c.args.world.now c.args.steps.now c.loop-i.outcomes.items c.loop-i.world
    c.loop-i.invariant.first
    (subst (λ (front : Schedule). Reaches c.args.world.now front c.loop-i.outcomes.items
    c.loop-i.world) all c.loop-i.invariant.reached)
