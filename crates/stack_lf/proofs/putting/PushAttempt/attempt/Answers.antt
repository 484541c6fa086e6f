use Rattle.std.proofs.Common.{◌≡◌, ℕ, ◌+◌, ◌∙◌, ap, refl, subst, arith}
use Rattle.std.specs.Prelude.{None, Some}
use Rattle.commons.specs.Calls.{spent}
use Rattle.commons.specs.declared.limits.Limits.{Limits}
use Rattle.ground.specs.Changing.{KnowsChanges}
use Rattle.stack_lf.specs.Effects.{start}
use Rattle.stack_lf.specs.Tries.{Stopped, Pushed, PushFailed, IsLostPush}
use Rattle.stack_lf.proofs.Composing.{lost_once, spent_other}
use Rattle.stack_lf.proofs.Storing.{may_push, push_wins, push_loses, linked_part}
use Rattle.stack_lf.proofs.putting.PushAttempt.attempt.Goals as goal
use Rattle.step_core.specs.World.{every_part}

-- the head was read, and is spent
pub returns-then-head-ge-SPENT-clause-one : goal.returns-then-head-ge-SPENT-clause-one
returns-then-head-ge-SPENT-clause-one c =
    let h = c.load_head-head.result in
    let is : h.count ≡ spent = omega arith in
    let changes : KnowsChanges c.args.seat.now.known spent =
    subst (λ (m : ℕ). KnowsChanges c.args.seat.now.known m) is c.load_head-head.ensures.changes in (
      spent_other,
      (Stopped h, Some (start h), h.count, (h, is, refl), c.load_head-head.ensures.step, changes),
    )

-- the list is linked to the top of a head that isn't spent
pub push-requires-clause-look : goal.push-requires-clause-look
push-requires-clause-look c =
    may_push c.load_head-head.result c.args.self.list.now c.store_links-first.result c.args.seat.now
    c.load_head-head.new.seat c.store_links-first.new.seat c.requires.may.0 (omega arith)
    c.store_links-first.ensures.first c.load_head-head.ensures.step
    c.store_links-first.ensures.stored

-- the list has left the hand
pub returns-in-Ok-clause-one : goal.returns-in-Ok-clause-one
returns-in-Ok-clause-one c =
    let h = c.load_head-head.result in (
      Pushed h c.args.self.list.now,
      None,
      h.count + 1,
      (h, omega arith, refl),
      push_wins h c.args.self.list.now c.args.seat.now c.load_head-head.new.seat
          c.store_links-first.new.seat c.push.new.seat c.requires.may.0 c.requires.may.2
          c.load_head-head.ensures.step c.store_links-first.ensures.stored c.in-Ok.ensures.step,
    )

-- another head stood there, a later one
pub returns-in-Err-clause-one : goal.returns-in-Err-clause-one
returns-in-Err-clause-one c =
    let h = c.load_head-head.result in
    let xs = c.args.self.list.now in
    let found = c.in-Err.field-0 in
    lost_once (IsLostPush xs) c.args.seat.now c.push.new.seat (PushFailed h xs found) None found.count
    (h, found, c.in-Err.ensures.later, refl)
    (push_loses h found xs c.args.seat.now c.load_head-head.new.seat
    c.store_links-first.new.seat c.push.new.seat c.requires.may.0 c.requires.may.2
    c.load_head-head.ensures.step c.store_links-first.ensures.stored c.in-Err.ensures.step)

-- the push of a pool's only seat wins
pub returns-in-Err-clause-alone : goal.returns-in-Err-clause-alone
returns-in-Err-clause-alone c = λ whole _.
    let part = linked_part c.load_head-head.result c.args.self.list.now c.args.seat.now
    c.load_head-head.new.seat c.store_links-first.new.seat c.requires.may.0
    c.load_head-head.ensures.step c.store_links-first.ensures.stored in
    c.in-Err.ensures.alone (part ∙ (whole ∙ ap (λ (l : Limits). every_part l) c.requires.of.limits))
