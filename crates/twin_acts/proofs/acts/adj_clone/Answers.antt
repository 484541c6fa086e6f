-- Neither pool is asked.
use Rattle.std.proofs.Common.{[], sym, refl}
use Rattle.twin_acts.proofs.acts.adj_clone.Goals as goal

pub returns-clause-calls : goal.returns-clause-calls
returns-clause-calls g c =
    let done = c.adj_clone.ensures in
    ([], sym done.first_no_call, ([], sym done.second_no_call, (c.adj_clone.result, done.resized, done.first, refl, refl, c.told_len.ensures.reply)))
