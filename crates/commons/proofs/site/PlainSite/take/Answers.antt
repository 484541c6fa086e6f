use Rattle.std.proofs.Common.{◌≡◌, ◌-◌, ◌<◌, ◌≤◌, [], List, length, get_or, Some, None, ◌∙◌, sym, refl, arith, ℕ}
use Rattle.std.proofs.lemmas.List.{get_or_default}
use Rattle.commons.specs.Lists.{Lists, IsTable, KeepsOthers, HasMore, desk_of, placed}
use Rattle.commons.specs.Packets.{own_of_packet}
use Rattle.commons.specs.inside.Site.{lists_of}
use Rattle.commons.specs.declared.packet.Seg.{Seg}
use Rattle.commons.proofs.DeskTables.{passed, held_on_desk, few_taken, own_on_desk, table_taken, others_taken, more_taken}
use Rattle.commons.proofs.Tables.{row_below}
use Rattle.commons.proofs.site.PlainSite.take.Goals.{After-index_mut, After-ok_or}
use Rattle.commons.proofs.site.PlainSite.take.Goals as goal

-- what is known of the lists, as they are kept, once the packet is found on the desk
record Found (s : Lists) (w d : ℕ) (packet : List Seg) (lent : List ℕ) : Type 0 where
  table : IsTable s
  low : 1 ≤ w
  high : w ≤ s.limits.workers
  here : d < length s.desks
  full : desk_of s d ≡ Some packet
  row : lent ≡ get_or s.holds (w - 1) []
  size : length (get_or s.holds (w - 1) []) ≡ s.limits.population

-- the packet that was read is the desk's, and the row that is lent is the worker's
found : (c : After-index_mut) →
    Found (lists_of c.self.inside) c.args.worker c.args.desk c.in-Some.packet c.index_mut.result.now
found c =
    let s : Lists = lists_of c.self.inside in
    let table : IsTable s = c.self.invariant.table in
    let high : c.args.worker ≤ s.limits.workers = rw (sym c.self.view_is) at c.requires.high in
    let here : c.args.desk < length s.desks =
    omega (arith, c.if-desk-len.false, c.len.ensures, c.self.inside.desks.ok) in
    let row = row_below s c.args.worker table c.requires.low high in record {
      table = table;
      low = c.requires.low;
      high = high;
      here = here;
      full = get_or_default s.desks c.args.desk None c.index.result.now here ∙ sym c.index.ensures ∙ c.in-Some.is;
      row = c.index_mut.ensures.value
          ∙ get_or_default s.holds (c.args.worker - 1) c.index_mut.result.now [] row.0;
      size = row.1;
    }

-- what a take makes of the lists: a table, this packet's holds and headers more, the others the same
record Taken (s new : Lists) (w : ℕ) (packet : List Seg) : Type 0 where
  table : IsTable new
  more : HasMore w packet s new
  others : KeepsOthers w s new

-- the packet leaves the desk, its holds join the worker's row, and its own elements are its headers
taken : (c : After-ok_or) →
    Taken (lists_of c.self.inside)
    (passed c.args.worker c.args.desk None c.add_holds.new.row
    (placed (own_of_packet c.in-Some.packet) (Some c.args.worker) c.self.inside.headers.items)
    (lists_of c.self.inside)) c.args.worker c.in-Some.packet
taken c =
    let s : Lists = lists_of c.self.inside in
    let f = found (goal.at.returns-clause-did c).After-index_mut in
    let sum = rw (f.row, c.segs.ensures.segs) at c.add_holds.ensures.holds in
    let len = rw f.row at c.add_holds.ensures.len in record {
      table = table_taken s c.args.worker c.args.desk c.in-Some.packet c.add_holds.new.row f.table
          f.low f.high sum len f.here f.full;
      more = more_taken s c.args.worker c.args.desk c.in-Some.packet c.add_holds.new.row f.table
          f.low f.high sum len f.here f.full;
      others = others_taken s c.args.worker c.args.desk c.in-Some.packet c.add_holds.new.row f.table
          f.low f.high sum len f.here f.full;
    }

-- a packet on a desk holds elements of the pool alone, so the worker's row has room for each
pub add_holds-requires-clause-below : goal.add_holds-requires-clause-below
add_holds-requires-clause-below c =
    let f = found (goal.at.add_holds-requires-clause-below c).After-index_mut in
    rw (f.row, c.segs.ensures.segs) (λ i p. omega (
      arith,
      held_on_desk (lists_of c.self.inside) c.args.desk c.in-Some.packet f.table f.here f.full i p,
      f.size,
    ))

-- the worker's holds and the packet's are both in the count, which is at most the reference limit
pub add_holds-requires-clause-few : goal.add_holds-requires-clause-few
add_holds-requires-clause-few c =
    let f = found (goal.at.add_holds-requires-clause-few c).After-index_mut in
    rw (f.row, c.segs.ensures.segs) (λ i. omega (
      arith,
      few_taken (lists_of c.self.inside) c.args.worker c.args.desk c.in-Some.packet f.table f.low
          f.high f.here f.full i,
      f.table.limited i,
      f.table.pool.refs,
    ))

-- the packet's own elements are elements of the pool, so each has a place among the headers
pub set_owner-requires : goal.set_owner-requires
set_owner-requires c =
    let f = found (goal.at.set_owner-requires c).After-index_mut in
    rw c.segs-2.ensures.segs (λ k d l. omega (
      arith,
      own_on_desk (lists_of c.self.inside) c.args.desk c.in-Some.packet f.table f.here f.full k d l,
      c.self.inside.headers.ok,
    ))

-- the packet that leaves is what the desk had, and the worker has its holds and own elements more
pub returns-clause-did : goal.returns-clause-did
returns-clause-did c =
    let s : Lists = lists_of c.self.inside in
    let f = found (goal.at.returns-clause-did c).After-index_mut in
    let there : c.take.result ≡ Some c.in-Some.packet =
    c.take.ensures.value ∙ c.index_mut-2.ensures.value
    ∙ get_or_default s.desks c.args.desk c.index_mut-2.result.now None f.here ∙ f.full in
    rw (
      sym c.self.view_is,
      c.ok_or.ensures.value,
      there,
      c.take.ensures.after,
      c.set_owner.ensures.items,
      c.segs-2.ensures.segs,
    ) (omega (arith, f.here, f.table.desks), f.full, refl, (taken c).more)

-- the table after the take: the desk's part of each sum is now the worker's
pub returns-clause-kept : goal.returns-clause-kept
returns-clause-kept c =
    rw (c.take.ensures.after, c.set_owner.ensures.items, c.segs-2.ensures.segs) (taken c).table

-- only this worker's row grows, and the own elements of a packet on a desk were nobody's headers
pub returns-clause-others : goal.returns-clause-others
returns-clause-others c =
    rw (sym c.self.view_is, c.take.ensures.after, c.set_owner.ensures.items, c.segs-2.ensures.segs)
    (taken c).others

-- the packet's holds leave the desk as they join the worker's row, so no count changes
pub invariant_of-self : goal.invariant_of-self
invariant_of-self c = record { table = returns-clause-kept c; room = c.self.invariant.room }
