use Rattle.mbufpool_c.proofs.CloseLemmas.{closes_same}
use Rattle.mbufpool_c.proofs.closing.close.Goals as goal

-- the look changed nothing
pub returns-in-Ok-clause-closed : goal.returns-in-Ok-clause-closed
returns-in-Ok-clause-closed c zero =
    closes_same c.args.handles.now c.look.new.handles c.end.new.handles c.end.new.out.value c.look.ensures.same
    (c.end.ensures.closed zero)
