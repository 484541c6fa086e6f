-- What is left is the pool's snapshot, and acts reach the pool, so the law of closed pools is one
-- of this.
use Rattle.std.proofs.Common.{◌≡◌, map, refl, sym, ap, subst, ◌∙◌}
use Rattle.std.specs.List.{range_with_len}
use Rattle.mbuf.specs.Members.{Member}
use Rattle.pool_model.specs.Pool.{Pool}
use Rattle.pool_model.specs.Statements.{statement_of}
use Rattle.share_book.specs.inside.SitePool.{pool_of}
use Rattle.snapshot.specs.Closing.{closed_pool, snapshot_in, snapshot_of}
use Rattle.snapshot.specs.Snapshots.{IsLawful, statement_in}
use Rattle.share_book.proofs.Closings.{closed_same, row_of_numbers}
use Rattle.share_book.proofs.Reaching.{of_reached, reached_numbered}
use Rattle.share_book.proofs.site_pool.SitePool.close.Goals as goal

closed : (c : goal.After-handed_in) → c.in-Ok-close.closed ≡ closed_pool (pool_of c.self.inside)
closed c = c.in-Ok-close.ensures.closed ∙ closed_same c.self.inside.site c.self.inside.members.items c.self.invariant.table c.self.invariant.workers c.self.invariant.each

-- the parts are the pool's snapshot
whole : (c : goal.After-handed_in) → snapshot_of c.limits-limits.result c.in-Ok-close.closed c.handed_in.result.items ≡ snapshot_in (pool_of c.self.inside)
whole c = rw (c.limits-limits.ensures.limits, closed c, c.handed_in.ensures) refl

pub returns-in-Ok-close-clause-closed : goal.returns-in-Ok-close-clause-closed
returns-in-Ok-close-clause-closed c = closed c ∙ ap closed_pool c.self.view_is

-- workers are numbered from 1 in a pool that acts reach
in_order : (c : goal.After-handed_in) → map (λ (m : Member). m.number) c.self.inside.members.items ≡ range_with_len 1 c.self.inside.site.limits.workers
in_order c =
    let numbers = (reached_numbered (pool_of c.self.inside) c.self.invariant.reached).numbers in
    row_of_numbers 1 c.self.inside.members.items numbers ∙ ap (range_with_len 1) c.self.invariant.workers

-- and the shares are in their order
pub returns-in-Ok-close-clause-numbers : goal.returns-in-Ok-close-clause-numbers
returns-in-Ok-close-clause-numbers c = rw (sym c.self.view_is, c.handed_in.ensures) (in_order c)

-- the snapshot of the parts is that of a pool that acts reach, and those are lawful
lawful : (c : goal.After-handed_in) → IsLawful (snapshot_of c.limits-limits.result c.in-Ok-close.closed c.handed_in.result.items)
lawful c =
    let law = c.a_closed_pool_is_lawful.ensures.lawful in
    subst IsLawful (sym (whole c)) (of_reached (λ (p : Pool). IsLawful (snapshot_in p)) (pool_of c.self.inside) c.self.invariant.reached (law c.self.inside.site.limits))

pub returns-in-Ok-close-clause-lawful : goal.returns-in-Ok-close-clause-lawful
returns-in-Ok-close-clause-lawful c = lawful c

-- so a whole pool at rest left them
pub returns-in-Ok-close-clause-whole : goal.returns-in-Ok-close-clause-whole
returns-in-Ok-close-clause-whole c = record {
  range = rw c.limits-limits.ensures.limits c.self.invariant.table.pool;
  numbers = rw (c.limits-limits.ensures.limits, c.handed_in.ensures) (in_order c);
  lawful = λ typed. lawful c;
}

-- walk and shares show the common stack and the workers again, so the statement is the pool's
pub returns-in-Ok-close-clause-statement : goal.returns-in-Ok-close-clause-statement
returns-in-Ok-close-clause-statement c =
    let law = c.a_closed_pool_is_lawful.ensures.statement in
    let same = of_reached (λ (p : Pool). statement_in (snapshot_in p) ≡ statement_of p) (pool_of c.self.inside) c.self.invariant.reached (law c.self.inside.site.limits) in
    ap statement_in (whole c) ∙ same ∙ ap statement_of c.self.view_is
