use Rattle.std.proofs.Common.{inl}
use Rattle.tasks.proofs.Misreadings.{told_of_text}
use Rattle.tasks.proofs.listing.listed.Goals as goal

-- the bytes are no snapshot's, even with such a list, or memory was refused
pub returns-in-Err-clause-cause : goal.returns-in-Err-clause-cause
returns-in-Err-clause-cause c = inl (
    told_of_text _ _ c.misread.result c.in-Err.ensures.none c.in-Err.ensures.unlisted c.in-Err.ensures.tells
    c.misread.ensures
    )
