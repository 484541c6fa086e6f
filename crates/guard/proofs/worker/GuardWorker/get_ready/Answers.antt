use Rattle.std.proofs.Common.{refl}
use Rattle.guard.proofs.Since.{later-none, since-quiet, since-kept}
use Rattle.guard.proofs.worker.GuardWorker.get_ready.Goals as goal

pub get_entry-is_out-requires : goal.get_entry-is_out-requires
get_entry-is_out-requires c = record { of = record { keep = _; takes = c.in-Some.ensures; was = c.requires.of } }

pub returns-in-Some-clause-since : goal.returns-in-Some-clause-since
returns-in-Some-clause-since c = since-kept _ _ _ c.get_entry-is_out.ensures.since

pub returns-in-None-clause-since : goal.returns-in-None-clause-since
returns-in-None-clause-since c = since-quiet _ _ (later-none _) refl refl
