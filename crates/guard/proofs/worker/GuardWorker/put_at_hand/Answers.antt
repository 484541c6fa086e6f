use Rattle.std.proofs.Common.{◌<◌, refl, sym, ◌∙◌, arith}
use Rattle.guard.proofs.Since.{since-none}
use Rattle.guard.proofs.Steps.{here-of, here-put, here-since, seen-of, seen-still, seen-since, is-unmarked, is-elsewhere}
use Rattle.guard.proofs.worker.GuardWorker.put_at_hand.Goals as goal

-- none of the pool
pub returns-then-element-len-clause-since : goal.returns-then-element-len-clause-since
returns-then-element-len-clause-since c = since-none _

-- or with no room at hand
pub returns-then-not-is_near-clause-since : goal.returns-then-not-is_near-clause-since
returns-then-not-is_near-clause-since c = since-none _

-- the worker's number wasn't found
pub returns-then-self-found-clause-of : goal.returns-then-self-found-clause-of
returns-then-self-found-clause-of c =
    let e = c.look_to_put-found.ensures in let is = c.requires.of in let size = is.size in
    let inside : c.args.element < c.args.depot.now.population = omega arith in
    seen-of _ _ is _ _ inside _ e.racked e.lent e.me
    (is-elsewhere _ _ is _ _ inside _ e.racked e.lent e.me (λ h. c.if-self-found.true (sym h)))

pub returns-then-self-found-clause-still : goal.returns-then-self-found-clause-still
returns-then-self-found-clause-still c _ =
    let e = c.look_to_put-found.ensures in let is = c.requires.of in let size = is.size in
    let inside : c.args.element < c.args.depot.now.population = omega arith in
    seen-still _ _ is _ _ inside _ e.racked e.lent e.me
    (is-elsewhere _ _ is _ _ inside _ e.racked e.lent e.me (λ h. c.if-self-found.true (sym h)))

pub returns-then-self-found-clause-since : goal.returns-then-self-found-clause-since
returns-then-self-found-clause-since c =
    let e = c.look_to_put-found.ensures in let is = c.requires.of in let size = is.size in
    let inside : c.args.element < c.args.depot.now.population = omega arith in
    seen-since _ _ is _ _ inside _ e.racked e.lent e.me
    (is-elsewhere _ _ is _ _ inside _ e.racked e.lent e.me (λ h. c.if-self-found.true (sym h)))

-- it was put by this worker
pub returns-then-not-is-clause-since : goal.returns-then-not-is-clause-since
returns-then-not-is-clause-since c =
    let e = c.look_to_put-found.ensures in let is = c.requires.of in let size = is.size in
    let inside : c.args.element < c.args.depot.now.population = omega arith in
    seen-since _ _ is _ _ inside _ e.racked e.lent e.me
    (is-unmarked _ _ is _ _ inside _ e.racked e.lent e.me (sym c.is.ensures ∙ c.if-not-is.true))

-- it was out with this worker
pub returns-clause-of : goal.returns-clause-of
returns-clause-of c =
    let e = c.look_to_put-found.ensures in let is = c.requires.of in let size = is.size in
    let inside : c.args.element < c.args.depot.now.population = omega arith in
    here-of _ _ is _ _ inside _ e.racked e.lent e.me (sym c.if-self-found.false) (sym c.is.ensures ∙ c.if-not-is.false)
    _ c.push_near.ensures _ c.set.ensures _ refl

pub returns-clause-put : goal.returns-clause-put
returns-clause-put c _ =
    let e = c.look_to_put-found.ensures in let is = c.requires.of in let size = is.size in
    let inside : c.args.element < c.args.depot.now.population = omega arith in
    here-put _ _ is _ _ inside _ e.racked e.lent e.me (sym c.if-self-found.false) (sym c.is.ensures ∙ c.if-not-is.false)

pub returns-clause-since : goal.returns-clause-since
returns-clause-since c =
    let e = c.look_to_put-found.ensures in let is = c.requires.of in let size = is.size in
    let inside : c.args.element < c.args.depot.now.population = omega arith in
    here-since _ _ is _ _ inside _ e.racked e.lent e.me (sym c.if-self-found.false) (sym c.is.ensures ∙ c.if-not-is.false) _ _ _
