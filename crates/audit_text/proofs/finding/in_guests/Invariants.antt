use Rattle.std.proofs.Common.{◌≡◌, ◌++◌, take}
use Rattle.audit_text.specs.Places.{hosted}
use Rattle.audit_text.proofs.finding.in_guests.Given as goal

-- the places of the guests so far
abbrev pub invariant-loop-guest : goal.invariant-loop-guest
invariant-loop-guest l = l.out.items ≡ l.fn.out.items ++ hosted l.elem (take l.guest-index l.guests)
