-- The free's calls are the act's.
use Rattle.std.proofs.Common.{Ok, Err, refl}
use Rattle.twin_acts.proofs.acts.free_clone.Goals as goal

pub returns-in-Ok-clause-calls : goal.returns-in-Ok-clause-calls
returns-in-Ok-clause-calls g c =
    let done = c.in-Ok.ensures.calls in
    (done.0, done.1, (done.2.0, done.2.1, (Ok c.in-Ok.freed, done.2.2, refl)))

pub returns-in-Err-clause-calls : goal.returns-in-Err-clause-calls
returns-in-Err-clause-calls g c =
    let done = c.in-Err.ensures.calls in
    (done.0, done.1, (done.2.0, done.2.1, (Err c.in-Err.cause, done.2.2, refl)))
