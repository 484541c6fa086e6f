-- Each operation that a call notes is a step of the machine.
use Rattle.ground.specs.Operations.{OperationsAreSteps}
use Rattle.ground.proofs.Stepping.{loads_length, reserves, adds, loads_head, loads_link, cuts, stores_link, pushes}
use Rattle.ground.proofs.Tallies.{claims, soles, raises, lowers, resets}
use Rattle.ground.proofs.DeskSteps.{holds_desk, opens_desk, seizes_desk, clears_desk}

pub operations_are_steps : OperationsAreSteps
operations_are_steps = record {
  load_length = loads_length;
  reserve = reserves;
  add = adds;
  load_head = loads_head;
  load_link = loads_link;
  cut = cuts;
  store_link = stores_link;
  push = pushes;
  claim = claims;
  sole = soles;
  raise = raises;
  lower = lowers;
  reset = resets;
  hold_desk = holds_desk;
  open_desk = opens_desk;
  seize_desk = seizes_desk;
  clear_desk = clears_desk;
}
