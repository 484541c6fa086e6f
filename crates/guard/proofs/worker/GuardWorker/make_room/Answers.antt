use Rattle.guard.proofs.Since.{since-none}
use Rattle.guard.proofs.worker.GuardWorker.make_room.Goals as goal

pub returns-then-has_room-clause-since : goal.returns-then-has_room-clause-since
returns-then-has_room-clause-since c = since-none _
