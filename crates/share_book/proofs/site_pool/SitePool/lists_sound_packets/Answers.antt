-- Acts reach the pool, so the law of the packets after any acts is one of this pool.
use Rattle.std.proofs.Common.{sym}
use Rattle.pool_model.specs.Pool.{Pool}
use Rattle.pool_model.specs.Sound.{ListsSoundPackets}
use Rattle.pool_model.specs.Statements.{statement_of}
use Rattle.share_book.specs.inside.SitePool.{pool_of}
use Rattle.share_book.proofs.Reaching.{of_reached}
use Rattle.share_book.proofs.site_pool.SitePool.lists_sound_packets.Goals as goal

-- packets are sound after any acts on a pool within its limits, and this one's limits are in range
pub returns : goal.returns
returns c =
    let limits = c.self.inside.site.limits in
    let law = c.acts_leave_packets_sound.ensures.stated in
    rw (sym c.self.view_is) (of_reached (λ (p : Pool). ListsSoundPackets limits (statement_of p)) (pool_of c.self.inside) c.self.invariant.reached (λ acts. law limits acts c.self.invariant.table.pool))
