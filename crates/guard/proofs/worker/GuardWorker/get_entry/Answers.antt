use Rattle.std.proofs.Common.{refl, sym, ◌∙◌}
use Rattle.guard.proofs.Workers.{body-of, mark-inside, lacks-inside, has-place}
use Rattle.guard.proofs.Steps.{entry-of, entry-got, entry-since, entry-dropped, is-out, is-gone, dropped-of, dropped-still, dropped-since}
use Rattle.guard.proofs.worker.GuardWorker.get_entry.Goals as goal

-- it is one of the pool's
pub look_to_get-found-requires-clause-inside : goal.look_to_get-found-requires-clause-inside
look_to_get-found-requires-clause-inside c =
    let l = c.requires.of in has-place _ _ l.was.guarded (lacks-inside _ _ _ l)

pub is-requires : goal.is-requires
is-requires c = let l = c.requires.of in mark-inside _ _ (body-of _ _ l.was) _ (lacks-inside _ _ _ l)

pub set-requires : goal.set-requires
set-requires c = let l = c.requires.of in mark-inside _ _ (body-of _ _ l.was) _ (lacks-inside _ _ _ l)

-- another has taken it
pub returns-then-found-self-clause-of : goal.returns-then-found-self-clause-of
returns-then-found-self-clause-of c =
    let l = c.requires.of in let e = c.look_to_get-found.ensures in let note = c.note_stale.ensures in
    dropped-of _ _ _ l _ (entry-dropped _ _ _ l _ _ e.racked e.lent e.me
    (is-gone _ _ _ l _ _ e.racked e.lent e.me c.if-found-self.true)) _ note.rest note.count

pub returns-then-found-self-clause-inside : goal.returns-then-found-self-clause-inside
returns-then-found-self-clause-inside c = lacks-inside _ _ _ c.requires.of

pub returns-then-found-self-clause-not : goal.returns-then-found-self-clause-not
returns-then-found-self-clause-not c _ =
    let l = c.requires.of in let e = c.look_to_get-found.ensures in let note = c.note_stale.ensures in
    dropped-still _ _ _ l _ (entry-dropped _ _ _ l _ _ e.racked e.lent e.me
    (is-gone _ _ _ l _ _ e.racked e.lent e.me c.if-found-self.true)) _ note.rest

pub returns-then-found-self-clause-since : goal.returns-then-found-self-clause-since
returns-then-found-self-clause-since c =
    let l = c.requires.of in let e = c.look_to_get-found.ensures in let note = c.note_stale.ensures in
    dropped-since _ _ _ l _ (entry-dropped _ _ _ l _ _ e.racked e.lent e.me
    (is-gone _ _ _ l _ _ e.racked e.lent e.me c.if-found-self.true)) _ note.rest note.stale

-- it is out already: the list had it twice
pub returns-then-is-clause-of : goal.returns-then-is-clause-of
returns-then-is-clause-of c =
    let l = c.requires.of in let e = c.look_to_get-found.ensures in let note = c.note_stale-then-is.ensures in
    dropped-of _ _ _ l _ (entry-dropped _ _ _ l _ _ e.racked e.lent e.me
    (is-out _ _ _ l _ _ e.racked e.lent e.me (sym c.is.ensures ∙ c.if-is.true))) _ note.rest note.count

pub returns-then-is-clause-inside : goal.returns-then-is-clause-inside
returns-then-is-clause-inside c = lacks-inside _ _ _ c.requires.of

pub returns-then-is-clause-not : goal.returns-then-is-clause-not
returns-then-is-clause-not c _ =
    let l = c.requires.of in let e = c.look_to_get-found.ensures in let note = c.note_stale-then-is.ensures in
    dropped-still _ _ _ l _ (entry-dropped _ _ _ l _ _ e.racked e.lent e.me
    (is-out _ _ _ l _ _ e.racked e.lent e.me (sym c.is.ensures ∙ c.if-is.true))) _ note.rest

pub returns-then-is-clause-since : goal.returns-then-is-clause-since
returns-then-is-clause-since c =
    let l = c.requires.of in let e = c.look_to_get-found.ensures in let note = c.note_stale-then-is.ensures in
    dropped-since _ _ _ l _ (entry-dropped _ _ _ l _ _ e.racked e.lent e.me
    (is-out _ _ _ l _ _ e.racked e.lent e.me (sym c.is.ensures ∙ c.if-is.true))) _ note.rest note.stale

-- it is out now
pub returns-clause-of : goal.returns-clause-of
returns-clause-of c =
    let l = c.requires.of in let e = c.look_to_get-found.ensures in
    entry-of _ _ _ l _ _ e.racked e.lent e.me (c.if-found-self.false) (sym c.is.ensures ∙ c.if-is.false) _ c.set.ensures _ refl

pub returns-clause-inside : goal.returns-clause-inside
returns-clause-inside c = lacks-inside _ _ _ c.requires.of

pub returns-clause-got : goal.returns-clause-got
returns-clause-got c _ =
    let l = c.requires.of in let e = c.look_to_get-found.ensures in
    entry-got _ _ _ l _ _ e.racked e.lent e.me (c.if-found-self.false) (sym c.is.ensures ∙ c.if-is.false)

pub returns-clause-since : goal.returns-clause-since
returns-clause-since c =
    let l = c.requires.of in let e = c.look_to_get-found.ensures in
    entry-since _ _ _ l _ _ e.racked e.lent e.me (c.if-found-self.false) (sym c.is.ensures ∙ c.if-is.false) _ _
