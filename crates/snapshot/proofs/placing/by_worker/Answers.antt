use Rattle.std.proofs.Common.{arith}
use Rattle.snapshot.proofs.HostedGuests.{hosted-none, hosted-push, no_guest}
use Rattle.snapshot.proofs.placing.by_worker.Goals as goal

-- no guest is in a list yet
pub loop-guest-init : goal.loop-guest-init
loop-guest-init c = hosted-none c.args.workers _ c.in_ok-lists.ensures

-- one guest more is in the list of its worker
pub loop-guest-preserved : goal.loop-guest-preserved
loop-guest-preserved c =
    let within = c.requires.guests c.loop-guest.guest-index no_guest c.loop-guest-test.true in
    hosted-push c.args.workers c.args.guests.now c.loop-guest.guest-index c.loop-guest.lists.items
    c.index_mut.result.now c.push.new.self c.loop-guest-test.true
    (omega (arith, c.loop-guest.invariant.len, within.1)) c.index_mut.ensures.value
    c.in_ok-push.ensures.items c.loop-guest.invariant
