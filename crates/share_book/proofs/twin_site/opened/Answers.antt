-- new lists are tables on which no worker has anything, and no act is needed to reach their pools
use Rattle.std.proofs.Common.{◌≡◌, sym, subst}
use Rattle.std.proofs.lemmas.List.FromFn.{length-map-range_with_len}
use Rattle.share_book.specs.AsModel.{pools_of}
use Rattle.share_book.specs.TwinSites.{TwinLists, new_twin, new_twin_lists}
use Rattle.share_book.specs.inside.TwinSite.{IsTwinReached}
use Rattle.share_book.proofs.TwinMembers.{new_twin_owns}
use Rattle.share_book.proofs.TwinReaching.{new_twins_reached}
use Rattle.share_book.proofs.twin_site.opened.Goals as goal

pub invariant_of-result : goal.invariant_of-result
invariant_of-result c =
    let l = c.args.first.now in
    let k = c.args.second.now in
    let made : TwinLists =
    record { first = c.in_ok-lists.lists; second = c.in_ok-others.others; members = c.in_ok-members.members.items } in
    let new : made ≡ new_twin_lists l k =
    cc (c.in_ok-lists.ensures.ok, c.in_ok-others.ensures.ok, c.in_ok-members.ensures.ok) in
    record {
      tables = rw (c.in_ok-lists.ensures.ok, c.in_ok-others.ensures.ok, c.in_ok-members.ensures.ok) (record {
        pools = c.requires;
        first = rw c.in_ok-lists.ensures.ok at c.in_ok-lists.ensures.table;
        second = rw c.in_ok-others.ensures.ok at c.in_ok-others.ensures.table;
        workers = length-map-range_with_len (new_twin l k) 1 l.workers;
        each = λ n b. new_twin_owns l k _ n b;
      });
      reached = subst (λ (s : TwinLists). IsTwinReached (pools_of s)) (sym new) (new_twins_reached l k c.requires);
    }
