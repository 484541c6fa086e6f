use Rattle.std.proofs.Common.{length, sym, arith}
use Rattle.commons.specs.Lists.{Lists}
use Rattle.commons.specs.inside.Site.{lists_of}
use Rattle.commons.proofs.Tables.{table_get, others_get, taken_below}
use Rattle.commons.proofs.site.PlainSite.get.Goals as goal

-- what is taken from the common list are elements of the pool, so each has a place to be written
pub place-requires : goal.place-requires
place-requires c =
    let s : Lists = lists_of c.self.inside in
    rw c.take_top.ensures.out (λ k d l.
    omega (
      arith,
      taken_below s (length c.args.out.now) c.self.invariant.table k d l,
      c.self.invariant.table.elements,
      c.self.inside.places.ok,
    ))

-- the table after the get: the count of changes was below the spent one, so one more is in range
pub returns-clause-kept : goal.returns-clause-kept
returns-clause-kept c =
    rw (c.place.ensures.items, c.take_top.ensures.out, c.take_top.ensures.common)
    (table_get (lists_of c.self.inside) c.args.worker (length c.args.out.now) c.self.invariant.table
    c.requires.low (rw (sym c.self.view_is) at c.requires.high)
    (omega (arith, c.self.invariant.table.changed, c.if-self-eq-SPENT.false)))

-- the elements taken were in nobody's hand, so no other hand changes; no hold does
pub returns-clause-others : goal.returns-clause-others
returns-clause-others c =
    rw (sym c.self.view_is, c.place.ensures.items, c.take_top.ensures.out, c.take_top.ensures.common)
    (others_get (lists_of c.self.inside) c.args.worker (length c.args.out.now) c.self.invariant.table)

-- the lists are kept as that table, and the common list has the room that it had
pub invariant_of-self : goal.invariant_of-self
invariant_of-self c = record {
  table = returns-clause-kept c;
  room = omega (arith, c.take_top.ensures.capacity, c.self.invariant.room);
}
