use Rattle.step_core.proofs.Passing.{hands_may_pass, passing_keeps_law, passing_keeps_world, passing_keeps_headers}
use Rattle.step_core.proofs.PassedPlaces.{passing_moves_them}
use Rattle.step_core.proofs.hand_laws.hands_may_pass.Goals as goal

-- there is such a world, it keeps the laws, and its table is the one before but for the hands
pub returns : goal.returns
returns c = record {
  some = hands_may_pass;
  law = passing_keeps_law;
  world = passing_keeps_world;
  headers = passing_keeps_headers;
  places = passing_moves_them;
}
