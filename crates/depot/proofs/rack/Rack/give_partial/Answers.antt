use Rattle.depot.specs.declared.view.Stack.TheVariants.{Partial}
use Rattle.depot.proofs.Logging.{logs-on, cause-on, cause-then}
use Rattle.depot.proofs.Reading.{give-cause}
use Rattle.depot.proofs.rack.Rack.give_partial.Goals as goal

-- the gift was refused
pub returns-in-Err-give_rest-clause-cause : goal.returns-in-Err-give_rest-clause-cause
returns-in-Err-give_rest-clause-cause c =
    let some = c.take_all.ensures.logs in
    let empty = c.in-Ok.ensures.logs in
    let full = c.add.ensures.logs in
    cause-on _ c.in-Err-give_rest.cause _ _ _ (logs-on _ _ _ (logs-on _ _ _ some empty) full)
    (give-cause _ Partial c.in-Err-give_rest.cause _ _ c.in-Err-give_rest.ensures.cause)

-- no empty one came
pub returns-in-Err-clause-cause : goal.returns-in-Err-clause-cause
returns-in-Err-clause-cause c =
    cause-then _ c.in-Err.cause _ _ _ (cause-on _ c.in-Err.cause _ _ _ c.take_all.ensures.logs c.in-Err.ensures.cause)
    c.add_all.ensures.logs
