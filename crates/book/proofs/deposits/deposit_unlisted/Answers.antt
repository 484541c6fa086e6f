use Rattle.std.proofs.Common.{◌≡◌, length, arith}
use Rattle.book.proofs.Filed.{filed_all, filed_full, filed_more, filed_none, missing_yet}
use Rattle.book.proofs.deposits.deposit_unlisted.Goals as goal

-- no share is in the book yet
pub loop-share-init : goal.loop-share-init
loop-share-init c =
    filed_none c.args.listed.now c.args.book.now c.args.shares.items c.requires.empty c.requires.ordered

-- the place of the last is free
pub deposit_unless-requires : goal.deposit_unless-requires
deposit_unless-requires c =
    missing_yet c.args.listed.now c.args.book.now.limits c.args.shares.items c.loop-share.shares.items
    c.pop.new.self.items c.in-Some.share c.loop-share.book c.loop-share.invariant c.in-Some.ensures.items

-- and now it is filed
pub loop-share-preserved : goal.loop-share-preserved
loop-share-preserved c =
    rw c.deposit_unless.ensures
    (filed_more c.args.listed.now c.args.book.now.limits c.args.shares.items c.loop-share.shares.items
    c.pop.new.self.items c.in-Some.share c.loop-share.book c.loop-share.invariant c.in-Some.ensures.items)

none_left : (c : goal.After-fits_its_limits) → length c.loop-share.shares.items ≡ 0
none_left c = omega (arith, c.in_default.ensures.cases.0, c.loop-share.shares.ok)

pub returns-clause-shares : goal.returns-clause-shares
returns-clause-shares c =
    filed_all c.args.listed.now c.args.book.now.limits c.args.shares.items c.loop-share.shares.items c.loop-share.book
    c.loop-share.invariant (none_left c)

-- each worker's share is in its place, or the worker is listed
pub returns-clause-full : goal.returns-clause-full
returns-clause-full c =
    filed_full c.args.listed.now c.args.book.now.limits c.args.shares.items c.loop-share.book
    c.loop-share.invariant.limits c.fits_its_limits.ensures.each
    (filed_all c.args.listed.now c.args.book.now.limits c.args.shares.items c.loop-share.shares.items c.loop-share.book
    c.loop-share.invariant (none_left c))
    c.requires.ordered
