use Rattle.std.proofs.Common.{sym}
use Rattle.share_book.proofs.site_pool.SitePool.fits_its_limits.Goals as goal

pub returns-clause-range : goal.returns-clause-range
returns-clause-range c = rw (sym c.self.view_is) c.self.invariant.table.pool

pub returns-clause-workers : goal.returns-clause-workers
returns-clause-workers c = rw (sym c.self.view_is) c.self.invariant.workers

pub returns-clause-numbers : goal.returns-clause-numbers
returns-clause-numbers c = rw (sym c.self.view_is) (λ n h. (c.self.invariant.each n h).number)

pub returns-clause-desks : goal.returns-clause-desks
returns-clause-desks c = rw (sym c.self.view_is) c.self.invariant.table.desks
