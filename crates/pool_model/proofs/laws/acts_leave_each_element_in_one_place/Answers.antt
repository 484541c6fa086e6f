-- A new pool is balanced and numbered, and each act keeps it so.
use Rattle.pool_model.proofs.Alone.{acts_list_each_once}
use Rattle.pool_model.proofs.Placed.{acts_place_each_once}
use Rattle.pool_model.proofs.laws.acts_leave_each_element_in_one_place.Goals as goal

pub returns-clause-once : goal.returns-clause-once
returns-clause-once c = λ l acts p. acts_list_each_once l p acts

pub returns-clause-places : goal.returns-clause-places
returns-clause-places c = acts_place_each_once
