use Rattle.mbufpool_c.proofs.CloseLemmas.{closes_same}
use Rattle.mbufpool_c.proofs.closing.mbufpool_worker_close.Goals as goal

-- nor did the search for the first worker
pub returns-in-Some-Ok-clause-closed : goal.returns-in-Some-Ok-clause-closed
returns-in-Some-Ok-clause-closed c zero =
    closes_same c.args.workers.now c.first_shared.new.handles c.close.new.handles c.close.new.out.value
    c.first_shared.ensures.same (c.close.ensures.closed zero)
