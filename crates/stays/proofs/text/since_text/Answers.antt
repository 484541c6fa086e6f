use Rattle.stays.specs.StayText.{since_text_of}
use Rattle.stays.proofs.text.since_text.Goals as goal

-- the statement's text, and behind it the lines of what stays
pub returns-in-Ok-clause-text : goal.returns-in-Ok-clause-text
unfolding since_text_of
returns-in-Ok-clause-text c =
    cc (c.in-Ok.ensures, c.in_ok-out.ensures.text, c.in_ok-stay.ensures.stay, c.as_slice.ensures.value)
