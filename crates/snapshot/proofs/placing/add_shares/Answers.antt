use Rattle.std.proofs.Common.{ℕ, ◌<◌, List, length, ap, subst, sym, arith}
use Rattle.commons.specs.Bag.{bag}
use Rattle.snapshot.specs.declared.snapshot.ShareData.{ShareData}
use Rattle.snapshot.specs.inside.Adding.{lists_of}
use Rattle.snapshot.proofs.AddedHolders.{added-share, share_unheld}
use Rattle.snapshot.proofs.HostedGuests.{hosted-at}
use Rattle.snapshot.proofs.placing.add_shares.Goals as goal

-- what one share holds, all shares hold
pub add_share-requires : goal.add_share-requires
add_share-requires c =
    let shares = c.args.shares.now in
    let k = c.loop-share.share-index in
    let share = c.share-item.result in
    let guests = c.args.guests.now in
    let within = subst (λ (s : ShareData). s.worker < length guests) (sym c.share-item.is)
    (c.requires.workers k share c.loop-share-test.true) in
    let own = hosted-at guests share.worker c.index-guests-share.result c.as_slice-guests.result.now within
    c.index-guests-share.is c.as_slice-guests.ensures.value in
    λ i h. omega (
      arith,
      ap (λ (es : List ℕ). bag es i) own,
      share_unheld c.args.foreign (lists_of guests) shares k share i c.loop-share-test.true c.share-item.is
          (c.requires.known i (omega (arith, c.loop-share.invariant.len))),
    )

-- one share more was noted
pub loop-share-preserved : goal.loop-share-preserved
loop-share-preserved c =
    let k = c.loop-share.share-index in
    let share = c.share-item.result in
    let guests = c.args.guests.now in
    let within = subst (λ (s : ShareData). s.worker < length guests) (sym c.share-item.is)
    (c.requires.workers k share c.loop-share-test.true) in
    let own = hosted-at guests share.worker c.index-guests-share.result c.as_slice-guests.result.now within
    c.index-guests-share.is c.as_slice-guests.ensures.value in
    added-share c.args.foreign (lists_of guests) c.args.shares.now k share c.as_slice-guests.result.now _ _ _
    c.loop-share-test.true c.share-item.is own c.loop-share.invariant c.in_ok-add_share.ensures
