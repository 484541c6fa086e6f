use Rattle.std.proofs.lemmas.Result.{IfOk-weaker}
use Rattle.pool_model.specs.Statements.{PlacesEachOnce}
use Rattle.pool_statement.specs.declared.statement.Statement.{Statement}
use Rattle.snapshot.specs.Snapshots.{HasSlots}
use Rattle.book.proofs.Shares.{all_slots}
use Rattle.book.proofs.Typed.{also_typed}
use Rattle.book.specs.TwinSettling.{first_with}
use Rattle.book.proofs.twin_settling.first_statement.Goals as goal

-- a book keeps shares with all their slots, so packets stand in these
pub returns-in-Ok-clause-places : goal.returns-in-Ok-clause-places
returns-in-Ok-clause-places c =
    let each = rw c.first.ensures at c.fits_its_limits.ensures.each in
    let full = all_slots c.args.book.now.first.places (λ n m e. (each n m e).slots) in
    let placed = rw c.in-Ok.ensures.same at c.audit.ensures.slots in
    let limits = c.args.book.now.first.limits in
    let s = first_with c.args.book.now c.args.closed.now in
    IfOk-weaker c.audit.result (λ (statement : Statement). HasSlots s → PlacesEachOnce limits statement)
    (PlacesEachOnce limits) (λ statement stands. stands full) placed

-- the first fault of the copy is the pool's
pub returns-in-Ok-clause-first : goal.returns-in-Ok-clause-first
returns-in-Ok-clause-first c =
    let audited = rw c.in-Ok.ensures.same at c.audit.ensures.first in
    also_typed c.audit.result (first_with c.args.book.now c.args.closed.now) c.in-Ok.ensures.typed audited
