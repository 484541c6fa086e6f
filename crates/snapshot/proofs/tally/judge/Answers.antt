-- What the row of own elements says of each element, and how often it can be held then.
use Rattle.std.proofs.Common.{ℕ, ◌≤◌}
use Rattle.std.proofs.lemmas.Result.{IfOk-weaker}
use Rattle.snapshot.specs.Snapshots.{times_own}
use Rattle.snapshot.proofs.Clean.{clean_own}
use Rattle.snapshot.proofs.HoldBounds.{held-le, own-once}
use Rattle.snapshot.proofs.tally.judge.Goals as goal

-- none is the own one of two segments
pub returns-in-None-clause-own : goal.returns-in-None-clause-own
returns-in-None-clause-own c =
    let s = c.args.snapshot.now in
    let once = own-once s c.args.tally.now.own.items c.requires.known c.requires.tally.own
    (rw c.as_slice.ensures.value at c.in-None.ensures.none) in
    IfOk-weaker c.judge_holds.result _ (λ _. (e : ℕ) → times_own s e ≤ 1) (λ _ _. once) c.judge_holds.ensures.once

pub judge_holds-requires-clause-clean : goal.judge_holds-requires-clause-clean
judge_holds-requires-clause-clean c =
    let s = c.args.snapshot.now in
    clean_own s c.requires.clean (own-once s c.args.tally.now.own.items c.requires.known c.requires.tally.own
    (rw c.as_slice.ensures.value at c.in-None.ensures.none))

-- there are no more segments than elements, and each holds an element twice at most
pub judge_holds-requires-clause-few : goal.judge_holds-requires-clause-few
judge_holds-requires-clause-few c = λ e.
    let s = c.args.snapshot.now in
    let row = c.args.tally.now.own.items in
    let once = own-once s row c.requires.known c.requires.tally.own
    (rw c.as_slice.ensures.value at c.in-None.ensures.none) in
    held-le s e c.requires.pool c.requires.shape c.requires.known once
