-- The pool was left by acts, which leave packets sound.
use Rattle.script.proofs.Ends.{counts_by_acts, ends_by_acts}
use Rattle.script.proofs.under_lock.run.Goals as goal

-- acts of a new pool led to the end
pub returns-clause-reached : goal.returns-clause-reached
returns-clause-reached g c =
    let left = c.in_ok-limits in
    ends_by_acts c.args.limits.now left.limits left.closed left.shares.items left.ensures.limits left.ensures.reached

-- and acts leave counts within the limit
pub returns-clause-counts : goal.returns-clause-counts
returns-clause-counts g c =
    let left = c.in_ok-limits in
    let l = c.args.limits.now in
    counts_by_acts l left.limits left.closed left.shares.items left.ensures.limits left.ensures.reached
    (λ acts. c.acts_leave_packets_sound.ensures.stated l acts c.requires.pool)
