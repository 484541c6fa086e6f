-- Each slot and each desk was looked at, so what either pool leaves is packets, and it is lawful.
use Rattle.std.proofs.Common.{sym}
use Rattle.share_book.specs.inside.TwinSite.{lists_of}
use Rattle.share_book.proofs.TwinPackets.{first_typed, second_typed}
use Rattle.share_book.proofs.twin_site.TwinSite.each_pool_is_lawful.Goals as goal

-- the first pool has packets in slots and on desks
pub returns-clause-first_packets : goal.returns-clause-first_packets
returns-clause-first_packets c =
    let desks = rw c.desks.ensures.desks at c.look_at_desks.ensures in
    let first = rw c.as_slice.ensures.value at c.look_at_members.ensures.first in
    let second = rw c.as_slice.ensures.value at c.look_at_members.ensures.second in
    rw (sym c.self.view_is)
    (first_typed (lists_of c.self.inside) c.self.invariant.tables desks first second)

-- the second has them in slots alone
pub returns-clause-second_packets : goal.returns-clause-second_packets
returns-clause-second_packets c =
    let second = rw c.as_slice.ensures.value at c.look_at_members.ensures.second in
    rw (sym c.self.view_is) (second_typed (lists_of c.self.inside) c.self.invariant.tables second)

-- so the first is lawful without a condition, and the second too
pub returns-clause-first_lawful : goal.returns-clause-first_lawful
returns-clause-first_lawful c = c.is_lawful_by_types.ensures.first (returns-clause-first_packets c)

pub returns-clause-second_lawful : goal.returns-clause-second_lawful
returns-clause-second_lawful c =
    c.is_lawful_by_types.ensures.second (returns-clause-second_packets c)
