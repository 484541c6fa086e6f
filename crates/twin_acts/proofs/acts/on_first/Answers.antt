-- The act is one of the first pool, and the second is asked nothing.
use Rattle.std.proofs.Common.{[], sym, refl}
use Rattle.twin_acts.proofs.acts.on_first.Goals as goal

pub returns-clause-calls : goal.returns-clause-calls
returns-clause-calls g c =
    let done = c.perform_first_in.ensures in
    (done.calls.0, done.calls.1, ([], sym done.no_call, (done.calls.2, refl, done.second)))
