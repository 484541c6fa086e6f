-- How an `OwnGuard` is kept. No public clause cites this module.
use Rattle.std.specs.Prelude.{ℕ, Option, Some, None, IfSome}
use Rattle.depot.specs.declared.roll.Roll.{Roll}
use Rattle.depot.specs.Rolls.{IsRoll}
use Rattle.guard.specs.Guards.{IsGuard}
use Rattle.mbufpool_c.specs.Guarded.{Guarded}
use Rattle.mbufpool_c.specs.declared.guard_workers.OwnGuard.TheInside.{Inside}

-- without the roll of numbers no more workers are made
abbrev pub left_of : Option Roll → ℕ → ℕ
left_of None left = 0
left_of (Some roll) left = left

abbrev pub guarded_of : Inside → Guarded
guarded_of w = record { site = w.depot.value; worker = w.worker; left = left_of w.roll w.left }

-- between calls the worker is one of this pool, and so is the roll
abbrev pub IsKept : Inside → Type 0
IsKept w = IsGuard w.depot.value w.worker × IfSome w.roll (IsRoll w.depot.value)
