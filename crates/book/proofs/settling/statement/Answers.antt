use Rattle.book.proofs.Causes.{unsettled_is}
use Rattle.book.proofs.Shares.{all_slots}
use Rattle.book.proofs.settling.statement.Goals as goal

-- a book keeps shares with all their slots, so packets stand in these
pub returns-in-Ok-audit-clause-places : goal.returns-in-Ok-audit-clause-places
returns-in-Ok-audit-clause-places c =
    let each = c.fits_its_limits.ensures.each in
    let full = all_slots c.args.book.now.places (λ n m e. (each n m e).slots) in
    let placed = rw c.in-Ok.ensures.same at c.in-Ok-audit.ensures.slots in
    placed full

-- where the audit answers no statement
pub returns-clause-unsettled : goal.returns-clause-unsettled
returns-clause-unsettled c =
    let first = rw c.in-Ok.ensures.same at c.in-Err.ensures.first in
    rw c.cause.ensures
    (unsettled_is c.args.book.now c.args.closed.now c.in-Err.fault c.in_default.ensures c.in-Ok.ensures.typed first)
