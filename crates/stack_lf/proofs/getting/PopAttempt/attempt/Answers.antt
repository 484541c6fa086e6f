use Rattle.std.proofs.Common.{◌≡◌, ℕ, inl, inr, ◌+◌, refl, sym, ap, ◌∙◌, subst, arith, length}
use Rattle.std.proofs.lemmas.List.{length-map}
use Rattle.std.specs.Prelude.{None, Some}
use Rattle.commons.specs.declared.limits.Limits.{Limits}
use Rattle.commons.specs.Calls.{spent}
use Rattle.ground.specs.Changing.{KnowsChanges}
use Rattle.ground.specs.Seats.{Seated}
use Rattle.step_core.specs.declared.step.Outcome.TheVariants.{LostTo}
use Rattle.stack_lf.specs.Effects.{IsAlone, start}
use Rattle.stack_lf.specs.Tries.{Stopped, Ended, PopFailed, Popped, IsLostCut, elements, element_in}
use Rattle.stack_lf.proofs.Composing.{lost_once, spent_other}
use Rattle.stack_lf.proofs.Walks.{cut_tried, cut_wins, walk_ended, may_cut, walked_part}
use Rattle.stack_lf.proofs.getting.PopAttempt.attempt.Goals as goal
use Rattle.step_core.specs.World.{every_part}

-- the head was read, and is spent
pub returns-then-head-ge-SPENT-clause-one : goal.returns-then-head-ge-SPENT-clause-one
returns-then-head-ge-SPENT-clause-one c =
    let h = c.load_head-head.result in
    let is : h.count ≡ spent = omega arith in
    let changes : KnowsChanges c.args.seat.now.known spent =
    subst (λ (m : ℕ). KnowsChanges c.args.seat.now.known m) is c.load_head-head.ensures.changes in (
      spent_other,
      (Stopped h, Some (start h), h.count, (h, is, refl), c.load_head-head.ensures.step, changes),
    )

-- the walk ended before its last place
pub returns-in-None-clause-one : goal.returns-in-None-clause-one
returns-in-None-clause-one c =
    let h = c.load_head-head.result in
    let w = c.in-None.ensures.none in
    let places : length c.args.out.now ≡ c.args.self.n = c.requires.may.1 in
    let less = w.2 in
    lost_once (IsLostCut c.args.self.n) c.args.seat.now c.walk.new.seat (Ended h w.0)
    (Some (record { head = h; front = elements w.0; next = 0 })) h.count
    (inl (h, w.0, omega arith, w.1.0, refl))
    (walk_ended h w.0 0 c.args.seat.now c.load_head-head.new.seat c.walk.new.seat
    c.load_head-head.ensures.step w.1)

-- the elements of the walk are in the hand
pub returns-in-Ok-clause-one : goal.returns-in-Ok-clause-one
returns-in-Ok-clause-one c =
    let h = c.load_head-head.result in
    let w = c.in-Some.ensures.some in (
      Popped h w.0,
      None,
      h.count + 1,
      c.walk.ensures.len ∙ c.requires.may.1,
      (h, w.0, c.in-Some.next, w.2, omega arith, w.1.0, refl),
      cut_wins h w.0 c.in-Some.next c.walk.new.out c.args.seat.now c.load_head-head.new.seat
          c.walk.new.seat c.cut.new.seat c.load_head-head.ensures.step w.1 w.2 c.in-Ok.ensures.step,
    )

-- another head stood there, a later one
pub returns-in-Err-clause-one : goal.returns-in-Err-clause-one
returns-in-Err-clause-one c =
    let h = c.load_head-head.result in
    let w = c.in-Some.ensures.some in
    let found = c.in-Err.field-0 in
    let len : length w.0 ≡ c.args.self.n =
    sym (length-map w.0 element_in) ∙ (sym (ap length w.2) ∙ (c.walk.ensures.len ∙ c.requires.may.1)) in
    lost_once (IsLostCut c.args.self.n) c.args.seat.now c.cut.new.seat (PopFailed h w.0 found) None
    found.count (inr (h, found, w.0, c.in-Some.next, len, c.in-Err.ensures.later, w.1.0, refl))
    (cut_tried h w.0 c.in-Some.next (LostTo found) c.args.seat.now c.load_head-head.new.seat
    c.walk.new.seat c.cut.new.seat c.load_head-head.ensures.step w.1 c.in-Err.ensures.step)

-- as many links are walked as are reserved, from a head that isn't spent
pub cut-requires-clause-look : goal.cut-requires-clause-look
cut-requires-clause-look c =
    let h = c.load_head-head.result in
    let w = c.in-Some.ensures.some in
    let len : length (elements w.0) ≡ c.args.self.n =
    sym (ap length w.2) ∙ (c.walk.ensures.len ∙ c.requires.may.1) in
    let some = c.requires.may.0 in
    let reserved = c.requires.may.2 in
    may_cut h w.0 c.in-Some.next c.args.seat.now c.load_head-head.new.seat c.walk.new.seat
    c.load_head-head.ensures.step w.1 (omega arith) (omega arith) (omega arith)

-- the only seat of a pool doesn't come to the end before, and its cut wins
pub returns-in-None-clause-alone : goal.returns-in-None-clause-alone
returns-in-None-clause-alone c = λ whole _.
    let step = c.load_head-head.ensures.step in
    let there : IsAlone c.load_head-head.new.seat = subst IsAlone (sym step) whole in
    let credit : c.load_head-head.new.seat.known.view.credit ≡ c.args.seat.now.known.view.credit =
    ap (λ (z : Seated). z.known.view.credit) step in
    let places : length c.args.out.now ≡ c.args.self.n = c.requires.may.1 in
    let reserved = c.requires.may.2 in
    c.in-None.ensures.alone there (omega arith) refl

-- and its exchange doesn't lose
pub returns-in-Err-clause-alone : goal.returns-in-Err-clause-alone
returns-in-Err-clause-alone c = λ whole _.
    let w = c.in-Some.ensures.some in
    let part = walked_part c.load_head-head.result w.0 c.in-Some.next c.args.seat.now
    c.load_head-head.new.seat c.walk.new.seat c.load_head-head.ensures.step w.1 in
    c.in-Err.ensures.alone (part ∙ (whole ∙ ap (λ (l : Limits). every_part l) c.requires.of.limits))
