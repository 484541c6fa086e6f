use Rattle.std.proofs.Common.{refl, ap, ◌∙◌}
use Rattle.depot.specs.Rule.{Sat}
use Rattle.depot.specs.declared.view.Resting.{Resting}
use Rattle.depot.specs.Resting.{rest_in}
use Rattle.guard.proofs.Since.{later-lost, later-claimed, later-logs, later-on, claimed-stale, since-from, since-quiet}
use Rattle.guard.proofs.Workers.{has-place, holds-lent}
use Rattle.guard.proofs.Steps.{claimed-holds, claimed-stored, claimed-kept, holds-still, holds-stored}
use Rattle.guard.proofs.worker.GuardWorker.put_other.Goals as goal

pub claim-requires-clause-inside : goal.claim-requires-clause-inside
claim-requires-clause-inside c = has-place _ _ c.requires.of.guarded c.requires.inside

pub keep-requires-clause-of : goal.keep-requires-clause-of
keep-requires-clause-of c =
    let t = c.if-not-claim.ensures in
    claimed-holds _ _ c.requires.of _ c.requires.inside c.claim.new.self t.racked t.me (t.won refl) _ refl

pub returns-then-waits-clause-put : goal.returns-then-waits-clause-put
returns-then-waits-clause-put c =
    let t = c.if-not-claim.ensures in
    claimed-kept _ _ c.requires.of _ c.requires.inside c.claim.new.self t.racked t.me (t.won refl) _ c.keep.ensures.resting

pub returns-then-waits-clause-since : goal.returns-then-waits-clause-since
returns-then-waits-clause-since c =
    let t = c.if-not-claim.ensures in since-from _ _ _ (later-claimed _ _ _ _ t.me) (claimed-stale _ _ _ _ t.me) refl c.keep.ensures.since

pub put_one-requires-clause-lent : goal.put_one-requires-clause-lent
put_one-requires-clause-lent c =
    let t = c.if-not-claim.ensures in
    holds-lent _ _ _ (claimed-holds _ _ c.requires.of _ c.requires.inside c.claim.new.self t.racked t.me (t.won refl) _ refl)

-- it is in the magazines
pub returns-in-Ok-clause-of : goal.returns-in-Ok-clause-of
returns-in-Ok-clause-of c =
    let t = c.if-not-claim.ensures in let p = c.in-Ok.ensures in
    holds-stored _ _ _
    (claimed-holds _ _ c.requires.of _ c.requires.inside c.claim.new.self t.racked t.me (t.won refl) _ refl)
    c.put_one.new.self p.racked p.logs.resting p.ok

pub returns-in-Ok-clause-put : goal.returns-in-Ok-clause-put
returns-in-Ok-clause-put c =
    let t = c.if-not-claim.ensures in
    claimed-stored _ _ c.requires.of _ c.requires.inside c.claim.new.self t.racked t.me (t.won refl) _
    c.in-Ok.ensures.logs.resting

pub returns-in-Ok-clause-since : goal.returns-in-Ok-clause-since
returns-in-Ok-clause-since c =
    let t = c.if-not-claim.ensures in let p = c.in-Ok.ensures in
    since-quiet _ _ (later-on _ _ _ (later-claimed _ _ _ _ t.me) (later-logs _ _ p.logs))
    (ap (λ (r : Resting). r.stale) p.logs.resting ∙ claimed-stale _ _ _ _ t.me) refl

-- the depot took nothing
pub keep-requires-in-Err-clause-of : goal.keep-requires-in-Err-clause-of
keep-requires-in-Err-clause-of c =
    let t = c.if-not-claim.ensures in let p = c.in-Err.ensures in
    holds-still _ _ _
    (claimed-holds _ _ c.requires.of _ c.requires.inside c.claim.new.self t.racked t.me (t.won refl) _ refl)
    c.put_one.new.self p.racked p.logs.resting p.err.0

pub returns-in-Err-clause-put : goal.returns-in-Err-clause-put
returns-in-Err-clause-put c =
    let t = c.if-not-claim.ensures in
    claimed-kept _ _ c.requires.of _ c.requires.inside c.claim.new.self t.racked t.me (t.won refl) _
    (c.keep-in-Err.ensures.resting ∙ ap (λ (r : Resting). rest_in r c.args.element) c.in-Err.ensures.logs.resting)

pub returns-in-Err-clause-since : goal.returns-in-Err-clause-since
returns-in-Err-clause-since c =
    let t = c.if-not-claim.ensures in let p = c.in-Err.ensures in
    since-from _ _ _ (later-on _ _ _ (later-claimed _ _ _ _ t.me) (later-logs _ _ p.logs))
    (ap (λ (r : Resting). r.stale) p.logs.resting ∙ claimed-stale _ _ _ _ t.me) refl c.keep-in-Err.ensures.since

-- another was first
pub returns-then-not-claim-clause-since : goal.returns-then-not-claim-clause-since
returns-then-not-claim-clause-since c =
    let t = c.if-not-claim.ensures in
    since-quiet _ _ (later-lost _ _ _ t.me) (ap (λ (m : Sat). m.0.resting.stale) t.me) refl
