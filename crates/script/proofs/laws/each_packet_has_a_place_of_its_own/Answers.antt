-- Commands act on the pool and do nothing else to it, and after any acts each packet has a place
-- of its own.
use Rattle.std.proofs.Common.{sym, subst}
use Rattle.pool_model.specs.Statements.{PlacesEachOnce}
use Rattle.script.specs.Replay.{Stock, settled_of}
use Rattle.script.proofs.CommandsKeep.{end_is_reached}
use Rattle.script.proofs.laws.each_packet_has_a_place_of_its_own.Goals as goal

-- the acts of the lines lead to the same pool, whose workers and desks are those of the limits
pub returns : goal.returns
returns c = λ l lines.
    let reached = end_is_reached l lines in
    subst (λ (s : Stock). PlacesEachOnce l (settled_of s).first) (sym reached.1)
    (c.acts_leave_each_element_in_one_place.ensures.places l reached.0)
