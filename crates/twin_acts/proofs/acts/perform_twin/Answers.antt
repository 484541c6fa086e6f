-- There is room for any act in a reply of full size.
use Rattle.std.proofs.Common.{rules}
use Rattle.twin_acts.proofs.Kept.{any_twin_room}
use Rattle.twin_acts.proofs.acts.perform_twin.Goals as goal

pub perform_twin_in-requires : goal.perform_twin_in-requires
perform_twin_in-requires g c = (search rules, (any_twin_room c.args.act, c.requires.own))
