-- What the pools were settled to is what they were left with.
use Rattle.script.proofs.Ends.{of_lawful, of_settled, packets_by_limits, sound_when_settled}
use Rattle.script.specs.Running.{LeftOnWords, ReachedByActs}
use Rattle.script.proofs.threaded.run_threads.Goals as goal

-- under the lock acts led to it
pub returns-clause-reached : goal.returns-clause-reached
returns-clause-reached g c = λ locked.
    of_settled (ReachedByActs c.args.script.now.pools) c.in_ok-left.left c.settled.result c.settled.ensures.settled
    (c.in_ok-left.ensures.reached locked)

-- on words the grounds left it
pub returns-clause-ended : goal.returns-clause-ended
returns-clause-ended g c = λ words.
    of_lawful (LeftOnWords c.args.script.now.pools) c.in_ok-left.left c.settled.result c.settled.ensures.settled
    c.settled.ensures.lawful (c.in_ok-left.ensures.ended words)

-- what is listed are packets
pub returns-clause-packets : goal.returns-clause-packets
returns-clause-packets g c =
    packets_by_limits c.args.script.now.pools c.in_ok-left.left c.settled.result c.in_ok-left.ensures.limits
    c.in_ok-left.ensures.counts c.settled.ensures.settled c.settled.ensures.packets

-- and under the lock they are sound
pub returns-clause-sound : goal.returns-clause-sound
returns-clause-sound g c = λ locked.
    let pools = c.args.script.now.pools in
    sound_when_settled pools c.in_ok-left.left c.settled.result c.in_ok-left.ensures.limits
    (λ acts. c.acts_leave_packets_sound.ensures.stated pools.first acts c.args.script.now.made.first)
    (c.in_ok-left.ensures.reached locked) c.settled.ensures.settled c.settled.ensures.packets
