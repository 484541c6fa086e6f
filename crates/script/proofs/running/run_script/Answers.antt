-- The bytes are one script, so what is true within the limits of the one that was read is true
-- within any that they are of.
use Rattle.std.proofs.Common.{subst}
use Rattle.script.specs.Settling.{ListsEachPoolOnce, ListsPacketsInEach, ListsSoundInEach, PlacesInEach}
use Rattle.script_text.specs.declared.lines.Pools.{Pools}
use Rattle.script.proofs.running.run_script.Goals as goal

-- the limits are those of the script that was read
pub returns-in-Ok-run_threads-clause-once : goal.returns-in-Ok-run_threads-clause-once
returns-in-Ok-run_threads-clause-once g c = λ pools lines is.
    let same = c.in-Ok.ensures.only pools lines is in
    subst (λ (p : Pools). ListsEachPoolOnce p c.in-Ok-run_threads.settled) same.0 c.in-Ok-run_threads.ensures.once

-- so with the packets' places
pub returns-in-Ok-run_threads-clause-places : goal.returns-in-Ok-run_threads-clause-places
returns-in-Ok-run_threads-clause-places g c = λ pools lines is.
    let same = c.in-Ok.ensures.only pools lines is in
    subst (λ (p : Pools). PlacesInEach p c.in-Ok-run_threads.settled) same.0 c.in-Ok-run_threads.ensures.places

-- so are the packets sound by these limits, under the lock
pub returns-in-Ok-run_threads-clause-sound : goal.returns-in-Ok-run_threads-clause-sound
returns-in-Ok-run_threads-clause-sound g c = λ pools lines locked is.
    let same = c.in-Ok.ensures.only pools lines is in
    subst (λ (p : Pools). ListsSoundInEach p c.in-Ok-run_threads.settled) same.0
    (c.in-Ok-run_threads.ensures.sound locked)

-- and the packets that are listed are packets
pub returns-in-Ok-run_threads-clause-packets : goal.returns-in-Ok-run_threads-clause-packets
returns-in-Ok-run_threads-clause-packets g c = λ pools lines is.
    let same = c.in-Ok.ensures.only pools lines is in
    subst (λ (p : Pools). ListsPacketsInEach p c.in-Ok-run_threads.settled) same.0 c.in-Ok-run_threads.ensures.packets
