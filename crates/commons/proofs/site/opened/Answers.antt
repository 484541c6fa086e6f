use Rattle.std.proofs.Common.{refl, arith}
use Rattle.commons.proofs.Opening.{table_opening}
use Rattle.commons.proofs.site.opened.Goals as goal

-- the lists as made are those of a new pool, and the room taken is the population's
pub invariant_of-result : goal.invariant_of-result
invariant_of-result c = record {
  table =
      rw (
        c.in_ok-common.ensures.items,
        c.in_ok-places.ensures,
        c.in_ok-holds.ensures,
        c.in_ok-headers.ensures,
        c.in_ok-desks.ensures,
      )
      (table_opening c.args.limits.now c.requires);
  room = omega (arith, c.in_ok-common.common.ok, c.in_ok-common.ensures.len);
}

-- each list as made is the opening one: numbers downwards, and copies of one value
pub returns-clause-made : goal.returns-clause-made
returns-clause-made c =
    rw (
      c.in_ok-common.ensures.items,
      c.in_ok-places.ensures,
      c.in_ok-holds.ensures,
      c.in_ok-headers.ensures,
      c.in_ok-desks.ensures,
    ) refl

-- all elements lie in the common list once, none is held, and no desk has a packet
pub returns-clause-table : goal.returns-clause-table
returns-clause-table c =
    rw (
      c.in_ok-common.ensures.items,
      c.in_ok-places.ensures,
      c.in_ok-holds.ensures,
      c.in_ok-headers.ensures,
      c.in_ok-desks.ensures,
    ) (table_opening c.args.limits.now c.requires)
