-- The second pool is asked for a count, and the first nothing.
use Rattle.std.proofs.Common.{[], Ok, Err, sym, refl}
use Rattle.twin_acts.proofs.acts.count_clone.Goals as goal

pub returns-in-Ok-clause-calls : goal.returns-in-Ok-clause-calls
returns-in-Ok-clause-calls g c =
    let done = c.in-Ok.ensures in
    ([], sym done.no_call, (done.calls.0, done.calls.1, (Ok c.in-Ok.count, done.calls.2, refl, refl, refl)))

pub returns-in-Err-clause-calls : goal.returns-in-Err-clause-calls
returns-in-Err-clause-calls g c =
    let done = c.in-Err.ensures in
    ([], sym done.no_call, (done.calls.0, done.calls.1, (Err c.in-Err.cause, done.calls.2, refl, refl, refl)))
