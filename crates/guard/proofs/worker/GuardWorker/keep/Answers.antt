use Rattle.std.proofs.Common.{refl, ap}
use Rattle.depot.specs.Rule.{Sat}
use Rattle.guard.proofs.Since.{later-kept, since-quiet}
use Rattle.guard.proofs.Workers.{mark-inside, its-own, has-place, holds-some}
use Rattle.guard.proofs.Steps.{holds-kept}
use Rattle.guard.proofs.worker.GuardWorker.keep.Goals as goal

pub rest_in-requires-clause-inside : goal.rest_in-requires-clause-inside
rest_in-requires-clause-inside c = let h = c.requires.of in has-place _ _ h.body.guarded h.inside

pub rest_in-requires-clause-some : goal.rest_in-requires-clause-some
rest_in-requires-clause-some c = holds-some _ _ _ c.requires.of

pub rest_in-requires-clause-number : goal.rest_in-requires-clause-number
rest_in-requires-clause-number c = let h = c.requires.of in its-own _ _ h.body _ refl

pub set-requires : goal.set-requires
set-requires c = let h = c.requires.of in mark-inside _ _ h.body _ h.inside

-- it is in the list
pub returns-clause-of : goal.returns-clause-of
returns-clause-of c =
    let h = c.requires.of in let r = c.rest_in.ensures in
    holds-kept _ _ _ h _ r.racked r.me r.lent _ c.push.ensures _ c.set.ensures

pub returns-clause-resting : goal.returns-clause-resting
returns-clause-resting c = ap (λ (m : Sat). m.0.resting) c.rest_in.ensures.me

pub returns-clause-since : goal.returns-clause-since
returns-clause-since c =
    let r = c.rest_in.ensures in
    since-quiet _ _ (later-kept _ _ _ _ r.me) (ap (λ (m : Sat). m.0.resting.stale) r.me) refl
