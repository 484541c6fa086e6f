use Rattle.std.proofs.Common.{rules, ◌≡◌, ◌++◌, sym, arith}
use Rattle.std.proofs.lemmas.List.{length-reverse, reverse-append}
use Rattle.commons.specs.inside.Site.{lists_of}
use Rattle.commons.proofs.Tables.{table_put, others_put, room_put, put_below}
use Rattle.commons.proofs.site.PlainSite.put.Goals.{After-place}
use Rattle.commons.proofs.site.PlainSite.put.Goals as goal

-- elements of a hand aren't in the common list, so with them it still fits the population's room
pub unwrap-requires : goal.unwrap-requires
unwrap-requires c =
    let room =
    room_put (lists_of c.self.inside) c.args.worker c.args.list.now c.self.invariant.table
    (rw (sym c.self.view_is) at c.requires.in_hand) in
    c.extend_from_slice.ensures.succeeds (omega (
      arith,
      room,
      c.self.invariant.room,
      c.self.inside.common.ok,
      length-reverse c.self.inside.common.items,
    ))

-- elements of a hand are elements of the pool, so each has a place to be written
pub place-requires : goal.place-requires
place-requires c = λ k d l.
    omega (
      arith,
      put_below (lists_of c.self.inside) c.args.worker c.args.list.now c.self.invariant.table
          (rw (sym c.self.view_is) at c.requires.in_hand) k d l,
      c.self.invariant.table.elements,
      c.self.inside.places.ok,
    )

-- the common list, its top last, has the elements put at its end
longer : (c : After-place) → c.extend_from_slice.new.self.items ≡ c.self.inside.common.items ++ c.args.list.now
longer c = search (rules, c.extend_from_slice.ensures.items, c.unwrap.ensures)

-- the table after the put: the list, its top last, got the elements, and their places say so
pub returns-clause-kept : goal.returns-clause-kept
returns-clause-kept c =
    rw (c.place.ensures.items, longer (goal.at.returns-clause-kept c).After-place, reverse-append)
    (table_put (lists_of c.self.inside) c.args.worker c.args.list.now c.self.invariant.table
    (rw (sym c.self.view_is) at c.requires.in_hand)
    (omega (arith, c.self.invariant.table.changed, c.if-self-eq-SPENT.false)))

-- the elements put were in this worker's hand, so no other hand loses one; no hold changes
pub returns-clause-others : goal.returns-clause-others
returns-clause-others c =
    rw (sym c.self.view_is, c.place.ensures.items, longer (goal.at.returns-clause-others c).After-place, reverse-append)
    (others_put (lists_of c.self.inside) c.args.worker c.args.list.now c.self.invariant.table
    (rw (sym c.self.view_is) at c.requires.in_hand))

-- the lists are kept as that table, and the common list has the room that it had
pub invariant_of-self : goal.invariant_of-self
invariant_of-self c = record {
  table = returns-clause-kept c;
  room = omega (arith, c.extend_from_slice.ensures.capacity, c.self.invariant.room);
}
