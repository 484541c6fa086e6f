use Rattle.std.proofs.Common.{refl, sym, ◌∙◌}
use Rattle.guard.proofs.Since.{since-on, puts-it-after, still-on, still-same}
use Rattle.guard.proofs.Workers.{has-place}
use Rattle.guard.proofs.Steps.{here-of, here-put, here-since, seen-of, seen-still, seen-since, is-unmarked, is-elsewhere}
use Rattle.guard.proofs.worker.GuardWorker.put_here.Goals as goal

pub look_to_put-found-requires-clause-inside : goal.look_to_put-found-requires-clause-inside
look_to_put-found-requires-clause-inside c = has-place _ _ c.requires.of.guarded c.requires.inside

-- it was put by this worker
pub returns-then-not-is-clause-since : goal.returns-then-not-is-clause-since
returns-then-not-is-clause-since c =
    let e = c.look_to_put-found.ensures in let is = c.requires.of in let inside = c.requires.inside in
    seen-since _ _ is _ _ inside _ e.racked e.lent e.me
    (is-unmarked _ _ is _ _ inside _ e.racked e.lent e.me (sym c.is.ensures ∙ c.if-not-is.true))

-- it was out with this worker
pub returns-then-found-self-clause-of : goal.returns-then-found-self-clause-of
returns-then-found-self-clause-of c =
    let e = c.look_to_put-found.ensures in let is = c.requires.of in let inside = c.requires.inside in
    here-of _ _ is _ _ inside _ e.racked e.lent e.me c.if-found-self.true (sym c.is.ensures ∙ c.if-not-is.false)
    _ c.push.ensures _ c.set.ensures _ refl

pub returns-then-found-self-clause-put : goal.returns-then-found-self-clause-put
returns-then-found-self-clause-put c =
    let e = c.look_to_put-found.ensures in let is = c.requires.of in let inside = c.requires.inside in
    here-put _ _ is _ _ inside _ e.racked e.lent e.me c.if-found-self.true (sym c.is.ensures ∙ c.if-not-is.false)

pub returns-then-found-self-clause-since : goal.returns-then-found-self-clause-since
returns-then-found-self-clause-since c =
    let e = c.look_to_put-found.ensures in let is = c.requires.of in let inside = c.requires.inside in
    here-since _ _ is _ _ inside _ e.racked e.lent e.me c.if-found-self.true (sym c.is.ensures ∙ c.if-not-is.false) _ _ _

-- nobody's number was found
pub returns-then-found-eq-NOBODY-clause-of : goal.returns-then-found-eq-NOBODY-clause-of
returns-then-found-eq-NOBODY-clause-of c =
    let e = c.look_to_put-found.ensures in let is = c.requires.of in let inside = c.requires.inside in
    seen-of _ _ is _ _ inside _ e.racked e.lent e.me (is-elsewhere _ _ is _ _ inside _ e.racked e.lent e.me c.if-found-self.false)

pub returns-then-found-eq-NOBODY-clause-still : goal.returns-then-found-eq-NOBODY-clause-still
returns-then-found-eq-NOBODY-clause-still c =
    let e = c.look_to_put-found.ensures in let is = c.requires.of in let inside = c.requires.inside in
    seen-still _ _ is _ _ inside _ e.racked e.lent e.me (is-elsewhere _ _ is _ _ inside _ e.racked e.lent e.me c.if-found-self.false)

pub returns-then-found-eq-NOBODY-clause-since : goal.returns-then-found-eq-NOBODY-clause-since
returns-then-found-eq-NOBODY-clause-since c =
    let e = c.look_to_put-found.ensures in let is = c.requires.of in let inside = c.requires.inside in
    seen-since _ _ is _ _ inside _ e.racked e.lent e.me (is-elsewhere _ _ is _ _ inside _ e.racked e.lent e.me c.if-found-self.false)

-- another worker's was
pub put_other-requires-clause-of : goal.put_other-requires-clause-of
put_other-requires-clause-of c =
    let e = c.look_to_put-found.ensures in let is = c.requires.of in let inside = c.requires.inside in
    seen-of _ _ is _ _ inside _ e.racked e.lent e.me (is-elsewhere _ _ is _ _ inside _ e.racked e.lent e.me c.if-found-self.false)

pub returns-in-Ok-clause-put : goal.returns-in-Ok-clause-put
returns-in-Ok-clause-put c =
    let e = c.look_to_put-found.ensures in let is = c.requires.of in let inside = c.requires.inside in
    puts-it-after _ _ _ _ (seen-still _ _ is _ _ inside _ e.racked e.lent e.me (is-elsewhere _ _ is _ _ inside _ e.racked e.lent e.me c.if-found-self.false)) c.in-Ok.ensures.put

pub returns-in-Ok-clause-since : goal.returns-in-Ok-clause-since
returns-in-Ok-clause-since c =
    let e = c.look_to_put-found.ensures in let is = c.requires.of in let inside = c.requires.inside in
    since-on _ _ _ (seen-since _ _ is _ _ inside _ e.racked e.lent e.me (is-elsewhere _ _ is _ _ inside _ e.racked e.lent e.me c.if-found-self.false))
    c.put_other.ensures.since

pub returns-in-Err-clause-still : goal.returns-in-Err-clause-still
returns-in-Err-clause-still c =
    let e = c.look_to_put-found.ensures in let is = c.requires.of in let inside = c.requires.inside in
    still-on _ _ _ (seen-still _ _ is _ _ inside _ e.racked e.lent e.me (is-elsewhere _ _ is _ _ inside _ e.racked e.lent e.me c.if-found-self.false)) (still-same _ _ c.in-Err.ensures.still)

pub returns-in-Err-clause-since : goal.returns-in-Err-clause-since
returns-in-Err-clause-since c =
    let e = c.look_to_put-found.ensures in let is = c.requires.of in let inside = c.requires.inside in
    since-on _ _ _ (seen-since _ _ is _ _ inside _ e.racked e.lent e.me (is-elsewhere _ _ is _ _ inside _ e.racked e.lent e.me c.if-found-self.false))
    c.put_other.ensures.since
