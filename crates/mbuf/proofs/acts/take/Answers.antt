use Rattle.std.proofs.Common.{Ok, Err, refl, rules}
use Rattle.mbuf.proofs.ActLemmas.{taken_there}
use Rattle.mbuf.proofs.FreshLemmas.{fresh_none}
use Rattle.mbuf.proofs.RefusedLemmas.{taken_told}
use Rattle.mbuf.proofs.acts.take.Goals as goal

-- The packet that was taken stands in the slot that was answered.
pub told_taken-requires : goal.told_taken-requires
told_taken-requires g c = let done = c.in-Ok.ensures.calls in (search rules, taken_there _ _ _ _ _ done.2)

-- The take's calls are the act's, and the reply tells of the packet that was taken. It was on the
-- desk: none of its elements is new.
pub returns-in-Ok : goal.returns-in-Ok
returns-in-Ok g c =
    let done = c.in-Ok.ensures.calls in
    record {
      calls = (done.0, done.1, (Ok c.in-Ok.slot, done.2, c.told_taken.ensures.reply));
      fresh = rw c.told_taken.ensures.none (fresh_none _ _);
      own = search rules;
      guests = search rules;
      refused = rw c.told_taken.ensures.reply (taken_told _ _ _ (taken_there _ _ _ _ _ done.2));
    }

-- The take's calls are the act's, and the reply tells the cause.
pub returns-in-Err : goal.returns-in-Err
returns-in-Err g c =
    let done = c.in-Err.ensures.calls in
    record {
      calls = (done.0, done.1, (Err c.in-Err.cause, done.2, refl));
      fresh = fresh_none _ _;
      own = search rules;
      guests = search rules;
      refused = search rules;
    }
