use Rattle.std.proofs.Common.{inl}
use Rattle.tasks.proofs.Misreadings.{told_of_bytes}
use Rattle.tasks.proofs.auditing.audited.Goals as goal

-- the bytes are no snapshot's, or memory was refused
pub returns-in-Err-clause-cause : goal.returns-in-Err-clause-cause
returns-in-Err-clause-cause c =
    inl (told_of_bytes _ _ c.misread.result c.in-Err.ensures.none c.in-Err.ensures.tells c.misread.ensures)
