use Rattle.std.proofs.Common.{◌≡◌, drop}
use Rattle.script.specs.Replay.{all_named}
use Rattle.script.specs.Stands.{stands_in}
use Rattle.script.proofs.playing.name_all.Given as goal

-- once the names that are left stand for theirs, all of them do
abbrev pub invariant-loop-index : goal.invariant-loop-index
invariant-loop-index l =
    all_named l.worker (drop l.index l.made) (drop l.index l.packets) (stands_in l.names)
    ≡ all_named l.worker l.made l.packets (stands_in l.fn.names)
