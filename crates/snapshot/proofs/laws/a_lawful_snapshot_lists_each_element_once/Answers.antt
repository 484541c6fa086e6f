-- The pool that it shows is balanced, and its workers are in order.
use Rattle.snapshot.proofs.ListedPackets.{lawful_lists_packets}
use Rattle.snapshot.proofs.Shown.{lawful_lists_once, lawful_places, lawful_slots, lawful_whole}
use Rattle.snapshot.proofs.laws.a_lawful_snapshot_lists_each_element_once.Goals as goal

-- a balanced pool lists each element once
pub returns-clause-once : goal.returns-clause-once
returns-clause-once c = lawful_lists_once

-- so they are the population in all
pub returns-clause-whole : goal.returns-clause-whole
returns-clause-whole c = lawful_whole

-- in a pool whose workers are in order each packet has a place of its own
pub returns-clause-places : goal.returns-clause-places
returns-clause-places c = lawful_places

-- which is one of the slots, where there are these places alone
pub returns-clause-slots : goal.returns-clause-slots
returns-clause-slots c = lawful_slots

-- what stands in a slot or on a desk is a packet
pub returns-clause-sound : goal.returns-clause-sound
returns-clause-sound c = lawful_lists_packets
