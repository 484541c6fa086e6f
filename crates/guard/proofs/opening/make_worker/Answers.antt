use Rattle.std.proofs.Common.{◌≡◌, ℕ, List, ◌+◌, ◌∙◌, length, ap, replicate, false, arith}
use Rattle.depot.specs.Answers.{contents}
use Rattle.guard.proofs.Filling.{guard-new}
use Rattle.guard.proofs.opening.make_worker.Goals as goal

-- it has nothing
pub returns-in-Ok-rack-clause-of : goal.returns-in-Ok-rack-clause-of
returns-in-Ok-rack-clause-of c =
    let r = c.in-Ok-rack.ensures in
    guard-new _ c.in-Ok-rack.rack _ c.in-Ok-new.kept _ _ c.requires.guarded c.in-Ok-new.ensures.none
    (c.in-Ok.ensures ∙ ap (λ (n : ℕ). replicate n false) c.places.ensures) r.racked r.settled r.bare r.number r.some

pub returns-in-Ok-rack-clause-empty : goal.returns-in-Ok-rack-clause-empty
returns-in-Ok-rack-clause-empty c =
    let none = ap (λ (xs : List ℕ). length xs) c.in-Ok-new.ensures.none in
    let empty = ap (λ (xs : List ℕ). length xs) c.in-Ok-rack.ensures.empty in
    let goal : length c.in-Ok-new.kept.items + length (contents c.in-Ok-rack.rack.seat.me.1) ≡ 0 = omega arith in goal
