use Rattle.std.proofs.Common.{refl, sym, ap, ◌∙◌}
use Rattle.depot.specs.Rule.{Sat}
use Rattle.depot.specs.declared.view.Resting.{Resting}
use Rattle.depot.specs.Resting.{rest_in}
use Rattle.guard.proofs.Since.{later-back, refused-at, refused-on, refused-by}
use Rattle.guard.proofs.Workers.{body-of, mark-inside, lacks-inside, has-place, holds-lent, unmarked-none}
use Rattle.guard.proofs.Steps.{entry-dropped, is-out, gone-dropped, dropped-of, dropped-still, dropped-since, back-holds, holds-still, holds-stored, kept-again}
use Rattle.guard.proofs.worker.GuardWorker.give_entry.Goals as goal

pub is-requires : goal.is-requires
is-requires c = let l = c.requires.of in mark-inside _ _ (body-of _ _ l.was) _ (lacks-inside _ _ _ l)

pub look_to_get-requires-clause-inside : goal.look_to_get-requires-clause-inside
look_to_get-requires-clause-inside c = let l = c.requires.of in has-place _ _ l.was.guarded (lacks-inside _ _ _ l)

-- it is out: the list had it besides
pub returns-then-is-clause-of : goal.returns-then-is-clause-of
returns-then-is-clause-of c =
    let l = c.requires.of in let e = c.look_to_get.ensures in let note = c.note_stale.ensures in
    dropped-of _ _ _ l _ (entry-dropped _ _ _ l _ _ e.racked e.lent e.me
    (is-out _ _ _ l _ _ e.racked e.lent e.me (sym c.is.ensures ∙ c.if-is.true))) _ note.rest note.count

pub returns-then-is-clause-still : goal.returns-then-is-clause-still
returns-then-is-clause-still c =
    let l = c.requires.of in let e = c.look_to_get.ensures in let note = c.note_stale.ensures in
    dropped-still _ _ _ l _ (entry-dropped _ _ _ l _ _ e.racked e.lent e.me
    (is-out _ _ _ l _ _ e.racked e.lent e.me (sym c.is.ensures ∙ c.if-is.true))) _ note.rest

pub returns-then-is-clause-since : goal.returns-then-is-clause-since
returns-then-is-clause-since c =
    let l = c.requires.of in let e = c.look_to_get.ensures in let note = c.note_stale.ensures in
    dropped-since _ _ _ l _ (entry-dropped _ _ _ l _ _ e.racked e.lent e.me
    (is-out _ _ _ l _ _ e.racked e.lent e.me (sym c.is.ensures ∙ c.if-is.true))) _ note.rest note.stale

-- it isn't
pub take_back-requires-clause-inside : goal.take_back-requires-clause-inside
take_back-requires-clause-inside c = let l = c.requires.of in has-place _ _ l.was.guarded (lacks-inside _ _ _ l)

pub take_back-requires-clause-kept : goal.take_back-requires-clause-kept
take_back-requires-clause-kept c =
    let l = c.requires.of in
    unmarked-none _ _ (body-of _ _ l.was) _ (lacks-inside _ _ _ l) (sym c.is.ensures ∙ c.if-is.false)

-- another has taken it
pub returns-then-not-take_back-clause-of : goal.returns-then-not-take_back-clause-of
returns-then-not-take_back-clause-of c =
    let l = c.requires.of in let t = c.if-not-take_back.ensures in let note = c.note_stale-then-not-take_back.ensures in
    dropped-of _ _ _ l c.take_back.new.self (gone-dropped _ _ _ l c.take_back.new.self t.racked t.me (t.lost refl)) _
    note.rest note.count

pub returns-then-not-take_back-clause-still : goal.returns-then-not-take_back-clause-still
returns-then-not-take_back-clause-still c =
    let l = c.requires.of in let t = c.if-not-take_back.ensures in let note = c.note_stale-then-not-take_back.ensures in
    dropped-still _ _ _ l c.take_back.new.self (gone-dropped _ _ _ l c.take_back.new.self t.racked t.me (t.lost refl)) _
    note.rest

pub returns-then-not-take_back-clause-since : goal.returns-then-not-take_back-clause-since
returns-then-not-take_back-clause-since c =
    let l = c.requires.of in let t = c.if-not-take_back.ensures in let note = c.note_stale-then-not-take_back.ensures in
    dropped-since _ _ _ l c.take_back.new.self (gone-dropped _ _ _ l c.take_back.new.self t.racked t.me (t.lost refl)) _
    note.rest note.stale

-- it is in the hand
pub put_one-requires-clause-lent : goal.put_one-requires-clause-lent
put_one-requires-clause-lent c =
    let l = c.requires.of in let t = c.if-not-take_back.ensures in
    holds-lent _ _ _ (back-holds _ _ _ l c.take_back.new.self t.racked t.me (t.won refl))

-- it is in the magazines
pub returns-in-Ok-clause-of : goal.returns-in-Ok-clause-of
returns-in-Ok-clause-of c =
    let l = c.requires.of in let t = c.if-not-take_back.ensures in let p = c.in-Ok.ensures in
    holds-stored _ _ _ (back-holds _ _ _ l c.take_back.new.self t.racked t.me (t.won refl)) c.put_one.new.self p.racked
    p.logs.resting p.ok

-- the depot took nothing
pub keep-requires-clause-of : goal.keep-requires-clause-of
keep-requires-clause-of c =
    let l = c.requires.of in let t = c.if-not-take_back.ensures in let p = c.in-Err.ensures in
    holds-still _ _ _ (back-holds _ _ _ l c.take_back.new.self t.racked t.me (t.won refl)) c.put_one.new.self p.racked
    p.logs.resting p.err.0

pub keep-requires-clause-room : goal.keep-requires-clause-room
keep-requires-clause-room c = c.requires.of.takes.room

pub returns-in-Err-clause-still : goal.returns-in-Err-clause-still
returns-in-Err-clause-still c =
    let t = c.if-not-take_back.ensures in
    kept-again _ _ _ c.requires.of (sym c.is.ensures ∙ c.if-is.false) _
    (c.keep.ensures.resting
    ∙ ap (λ (r : Resting). rest_in r c.args.element)
    (c.in-Err.ensures.logs.resting ∙ ap (λ (m : Sat). m.0.resting) t.me))

pub returns-in-Err-clause-cause : goal.returns-in-Err-clause-cause
returns-in-Err-clause-cause c =
    let t = c.if-not-take_back.ensures in
    refused-by _ _ _ _ _ (refused-on _ _ _ _ _ (later-back _ _ _ _ t.me) (refused-at _ _ _ _ c.in-Err.ensures.err.1))
    c.keep.ensures.since.later
