use Rattle.pool_model.proofs.NewMembers.{length-new_members}
use Rattle.share_book.proofs.NewPools.{new_member_owns}
use Rattle.share_book.proofs.Reaching.{new_is_reached}
use Rattle.share_book.proofs.site_pool.SitePool.make.Goals as goal

-- a new site is a table on which no worker has anything, and no act is needed to reach it
pub invariant_of-result : goal.invariant_of-result
invariant_of-result c = record {
  table = c.in_ok-site.ensures.table;
  workers = rw (c.in_ok-site.ensures.ok, c.in_ok-members.ensures.ok) (length-new_members c.args.limits.now 1 c.args.limits.now.workers);
  each = rw (c.in_ok-site.ensures.ok, c.in_ok-members.ensures.ok) (λ n b. new_member_owns c.args.limits.now n b);
  reached = new_is_reached c.args.limits.now c.in_ok-site.site c.in_ok-members.members.items c.in_ok-site.ensures.ok c.in_ok-members.ensures.ok;
}
