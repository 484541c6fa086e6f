use Rattle.std.proofs.Common.{refl}
use Rattle.guard.proofs.Since.{later-none, since-quiet}
use Rattle.guard.proofs.worker.GuardWorker.give_first.Goals as goal

pub give_entry-requires : goal.give_entry-requires
give_entry-requires c = record { of = record { keep = _; takes = c.in-Some.ensures; was = c.requires.of } }

pub returns-in-None-clause-since : goal.returns-in-None-clause-since
returns-in-None-clause-since c = since-quiet _ _ (later-none _) refl refl
