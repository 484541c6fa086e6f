-- A new pool has no packet, and each act leaves packets where packets were.
use Rattle.pool_model.proofs.Sound.{acts-sound}
use Rattle.pool_model.proofs.SoundStatement.{acts_list_sound_packets}
use Rattle.pool_model.proofs.laws.acts_leave_packets_sound.Goals as goal

pub returns-clause-sound : goal.returns-clause-sound
returns-clause-sound c = acts-sound

pub returns-clause-stated : goal.returns-clause-stated
returns-clause-stated c = acts_list_sound_packets
