use Rattle.std.proofs.Common.{◌≡◌, ◌+◌, ◌++◌, ◌*◌, ◌∙◌, IfSome, List, drop, length, sym, ap, subst, arith}
use Rattle.std.specs.Slots.{slots_items}
use Rattle.commons.specs.declared.closed.Closed.{Closed}
use Rattle.commons.specs.declared.limits.Limits.{Limits}
use Rattle.ground.specs.Layout.{links_at}
use Rattle.ground.specs.Changing.{IsFresh, closed_at_start}
use Rattle.ground.specs.Closing.{LeftOf, AreOnFullDesks}
use Rattle.ground.specs.Lying.{LieByNotes}
use Rattle.ground.specs.Rule.{Slot}
use Rattle.ground.specs.Seats.{Grounded, Seated}
use Rattle.ground.proofs.Closes.{Closes, closes, small_words}
use Rattle.step_core.specs.World.{every_part}
use Rattle.ground.proofs.pool.Ground.close.Goals as goal

-- links fit the words that they are read into
pub read_row-requires-clause-small : goal.read_row-requires-clause-small
read_row-requires-clause-small c = small_words _ _ _ _ _ c.close_with-left.ensures.values.2

-- counts fit the words that they are read into
pub read_row-requires-2-clause-small : goal.read_row-requires-2-clause-small
read_row-requires-2-clause-small c i past =
    small_words _ _ _ _ _ c.close_with-left.ensures.values.2 i (omega arith)

-- what was read
abbrev closed_by : goal.After-new-3 → Closed
closed_by c = record {
  top = c.head_of-head.result.top;
  length = c.word-length.result;
  links = c.new.result;
  counts = c.new-2.result;
  desks = c.new-3.result;
}

-- what was read is of the last world, which has the view of this seat
left_of : (c : goal.After-new-3) → Closes c.self.inside.limits c.args.seat.known.view c.seat.inside.seat.me.0 (closed_by c)
left_of c =
    let view : c.seat.inside.seat.me.0.view ≡ c.args.seat.known.view =
    ap (λ (z : Seated). z.known.view) c.seat.view_is in
    closes _ c.self.inside.limits c.self.invariant.2 c.args.seat.known.view _ _ view _ _
    c.close_with-left.ensures.values.2 c.word.result c.head_of-head.result c.word-length.result
    c.new.result c.new-2.result c.word.ensures c.head_of-head.ensures.head c.word-length.ensures
    (c.new.ensures ∙ c.read_row.ensures) (c.new-2.ensures ∙ c.read_row-2.ensures) c.new-3.result
    (ap (λ (xs : List Slot). length xs) c.new-3.ensures
    ∙ (c.read_desks.ensures.count ∙ (c.close_with-left.ensures.counts.1 ∙ c.self.invariant.3)))
    (subst (λ (xs : List Slot).
    AreOnFullDesks (drop (links_at + 2 * c.self.inside.limits.population) (slots_items c.close_with-left.result.words))
    (slots_items c.close_with-left.result.slots) xs) (sym c.new-3.ensures) c.read_desks.ensures.desks)
    c.seat.invariant.0.busy

-- the words are those of that world, by the limits of the ground as its contract sees it
pub returns-clause-closed : goal.returns-clause-closed
returns-clause-closed c =
    subst (λ (l : Limits). LeftOf l c.args.seat.known.view (closed_by c))
    (ap (λ (z : Grounded). z.limits) c.self.view_is) (left_of c).0

-- the packets of full desks are those that the seat knows to lie there
pub returns-clause-desks : goal.returns-clause-desks
returns-clause-desks c =
    subst (λ (z : Seated). IfSome z.known.lying (λ ds. c.new-3.result ≡ ds)) c.seat.view_is (left_of c).1

-- where nobody has done anything, the words are those that the ground was made with
pub returns-clause-fresh : goal.returns-clause-fresh
returns-clause-fresh c =
    subst (λ (z : Grounded × Seated). IsFresh z.1.known → closed_by c ≡ closed_at_start z.0.limits)
    (λ i. (c.self.view_is i, c.seat.view_is i)) (left_of c).2

-- where the seat is the only one, its notes tell what lies on the desks
pub returns-clause-noted : goal.returns-clause-noted
returns-clause-noted c =
    subst (λ (z : Grounded × Seated). z.1.known.view.part ≡ every_part z.0.limits →
    LieByNotes (z.1.known.steps ++ z.1.known.joined) c.new-3.result)
    (λ i. (c.self.view_is i, c.seat.view_is i)) (left_of c).3
