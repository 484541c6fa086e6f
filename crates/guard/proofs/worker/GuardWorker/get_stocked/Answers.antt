use Rattle.std.proofs.Common.{refl, ap, ◌∙◌, arith}
use Rattle.depot.specs.Rule.{Sat}
use Rattle.depot.specs.declared.view.Resting.{Resting}
use Rattle.guard.proofs.Since.{later-logs, later-on, later-noted, later-out, gets-from, since-quiet, refused-at}
use Rattle.guard.proofs.Workers.{mark-inside, its-own, has-place, holds-some}
use Rattle.guard.proofs.Steps.{came-inside, came-holds, holds-out, holds-got}
use Rattle.guard.proofs.worker.GuardWorker.get_stocked.Goals as goal

-- what came is one of the pool's
pub overflow_cast-element : goal.overflow_cast-element
overflow_cast-element c =
    let is = c.requires.of in let a = c.in-Ok.ensures in let b = c.own.ensures in
    let inside = came-inside _ _ is c.get_one.new.self _ a.racked a.ok b.owned in
    let few = is.guarded.few in omega arith

pub rest_out-requires-clause-inside : goal.rest_out-requires-clause-inside
rest_out-requires-clause-inside c =
    let is = c.requires.of in let a = c.in-Ok.ensures in let b = c.own.ensures in
    has-place _ _ is.guarded (came-inside _ _ is c.get_one.new.self _ a.racked a.ok b.owned)

pub rest_out-requires-clause-some : goal.rest_out-requires-clause-some
rest_out-requires-clause-some c =
    let is = c.requires.of in let a = c.in-Ok.ensures in let b = c.own.ensures in
    let inside = came-inside _ _ is c.get_one.new.self _ a.racked a.ok b.owned in
    holds-some _ _ _ (came-holds _ _ is c.get_one.new.self c.own.new.self _ b.racked a.ok a.logs.resting b.me b.lent inside)

pub rest_out-requires-clause-number : goal.rest_out-requires-clause-number
rest_out-requires-clause-number c =
    let is = c.requires.of in let a = c.in-Ok.ensures in let b = c.own.ensures in
    let inside = came-inside _ _ is c.get_one.new.self _ a.racked a.ok b.owned in
    let h = came-holds _ _ is c.get_one.new.self c.own.new.self _ b.racked a.ok a.logs.resting b.me b.lent inside in
    its-own _ _ h.body _ refl

pub set-requires : goal.set-requires
set-requires c =
    let is = c.requires.of in let a = c.in-Ok.ensures in let b = c.own.ensures in
    let inside = came-inside _ _ is c.get_one.new.self _ a.racked a.ok b.owned in
    let h = came-holds _ _ is c.get_one.new.self c.own.new.self _ b.racked a.ok a.logs.resting b.me b.lent inside in
    mark-inside _ _ h.body _ inside

-- it is out now
pub returns-in-Ok-clause-of : goal.returns-in-Ok-clause-of
returns-in-Ok-clause-of c =
    let is = c.requires.of in let a = c.in-Ok.ensures in let b = c.own.ensures in let r = c.rest_out.ensures in
    let inside = came-inside _ _ is c.get_one.new.self _ a.racked a.ok b.owned in
    let h = came-holds _ _ is c.get_one.new.self c.own.new.self _ b.racked a.ok a.logs.resting b.me b.lent inside in
    holds-out _ _ _ h c.rest_out.new.self r.racked r.me r.lent _ c.set.ensures _ refl

pub returns-in-Ok-clause-got : goal.returns-in-Ok-clause-got
returns-in-Ok-clause-got c =
    let is = c.requires.of in let a = c.in-Ok.ensures in let b = c.own.ensures in let r = c.rest_out.ensures in
    let inside = came-inside _ _ is c.get_one.new.self _ a.racked a.ok b.owned in
    let h = came-holds _ _ is c.get_one.new.self c.own.new.self _ b.racked a.ok a.logs.resting b.me b.lent inside in
    gets-from _ _ _ _ (ap (λ (m : Sat). m.0.resting) b.me ∙ a.logs.resting)
    (holds-got _ _ _ h c.rest_out.new.self r.racked r.me r.lent)

pub returns-in-Ok-clause-inside : goal.returns-in-Ok-clause-inside
returns-in-Ok-clause-inside c =
    let is = c.requires.of in let a = c.in-Ok.ensures in let b = c.own.ensures in
    came-inside _ _ is c.get_one.new.self _ a.racked a.ok b.owned

pub returns-in-Ok-clause-since : goal.returns-in-Ok-clause-since
returns-in-Ok-clause-since c =
    let a = c.in-Ok.ensures in let b = c.own.ensures in let r = c.rest_out.ensures in
    since-quiet _ _
    (later-on _ _ _ (later-logs _ _ a.logs) (later-on _ _ _ (later-noted _ _ _ b.me) (later-out _ _ _ _ r.me)))
    (ap (λ (m : Sat). m.0.resting.stale) r.me ∙ ap (λ (m : Sat). m.0.resting.stale) b.me
    ∙ ap (λ (x : Resting). x.stale) a.logs.resting) refl

-- the depot refused
pub returns-in-Err-clause-cause : goal.returns-in-Err-clause-cause
returns-in-Err-clause-cause c = refused-at _ _ _ _ c.in-Err.ensures.err.1
