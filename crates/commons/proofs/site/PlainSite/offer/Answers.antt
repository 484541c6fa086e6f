use Rattle.std.proofs.Common.{◌≡◌, ◌-◌, ◌<◌, ◌≤◌, [], List, length, get_or, Option, Some, None, is_some, false, ◌∙◌, sym, refl, arith, ℕ}
use Rattle.std.proofs.lemmas.List.{get_or_default}
use Rattle.std.proofs.lemmas.Bool.{true≢false}
use Rattle.commons.specs.Bag.{bag}
use Rattle.commons.specs.Lists.{Lists, IsTable, KeepsOthers, HasLess, desk_of, header_of, placed}
use Rattle.commons.specs.Packets.{own_of_packet}
use Rattle.commons.specs.inside.Site.{lists_of}
use Rattle.commons.specs.declared.packet.Seg.{Seg}
use Rattle.commons.proofs.Tables.{row_below}
use Rattle.commons.proofs.DeskTables.{passed, is_below, table_offered, others_offered, less_offered}
use Rattle.commons.proofs.site.PlainSite.offer.Goals.{After-segs, After-set_owner}
use Rattle.commons.proofs.site.PlainSite.offer.Goals as goal

-- a desk on which no packet is seen is an empty one
no_packet : (x : Option (List Seg)) → is_some x ≡ false → x ≡ None
no_packet None h = refl
no_packet (Some packet) h = absurd (true≢false h)

-- what is known of the lists, as they are kept, once the desk is found to be empty
record Empty (s : Lists) (w d : ℕ) (packet : List Seg) (lent : List ℕ) : Type 0 where
  table : IsTable s
  low : 1 ≤ w
  high : w ≤ s.limits.workers
  own : (i : ℕ) → bag (own_of_packet packet) i ≤ header_of s w i
  here : d < length s.desks
  empty : desk_of s d ≡ None
  row : lent ≡ get_or s.holds (w - 1) []

-- no packet was read on the desk, the own elements are the worker's headers, the row lent its own
found_empty : (c : After-segs) →
    Empty (lists_of c.self.inside) c.args.worker c.args.desk c.args.packet c.index_mut-row.result.now
found_empty c =
    let s : Lists = lists_of c.self.inside in
    let table : IsTable s = c.self.invariant.table in
    let high : c.args.worker ≤ s.limits.workers = rw (sym c.self.view_is) at c.requires.high in
    let here : c.args.desk < length s.desks =
    omega (arith, c.if-desk-len.false, c.len.ensures, c.self.inside.desks.ok) in
    record {
      table = table;
      low = c.requires.low;
      high = high;
      own = rw (sym c.self.view_is) at c.requires.own;
      here = here;
      empty = get_or_default s.desks c.args.desk None c.index.result.now here ∙ sym c.index.ensures
          ∙ no_packet c.index.result.now (sym c.is_some.ensures ∙ c.if-is_some.false);
      row = c.index_mut-row.ensures.value
          ∙ get_or_default s.holds (c.args.worker - 1) c.index_mut-row.result.now []
          (row_below s c.args.worker table c.requires.low high).0;
    }

-- what an offer makes of the lists: a table, this packet's holds and headers less, the others the same
record Offered (s new : Lists) (w : ℕ) (packet : List Seg) : Type 0 where
  table : IsTable new
  less : HasLess w packet s new
  others : KeepsOthers w s new

-- the packet stands on the desk, its holds left the worker's row, and its own elements its headers
offered : (c : After-set_owner) →
    Empty (lists_of c.self.inside) c.args.worker c.args.desk c.args.packet c.index_mut-row.result.now →
    Offered (lists_of c.self.inside)
    (passed c.args.worker c.args.desk (Some c.args.packet) c.end_holds.new.row
    (placed (own_of_packet c.args.packet) None c.end_holds.new.headers.items)
    (lists_of c.self.inside)) c.args.worker c.args.packet
offered c f =
    let s : Lists = lists_of c.self.inside in
    let ended = rw (f.row, c.segs.ensures.segs ∙ c.insert-packet.ensures.value) at c.end_holds.ensures in
    record {
      table = table_offered s c.args.worker c.args.desk c.args.packet c.end_holds.new.row
          c.end_holds.new.headers.items f.table f.low f.high ended f.own f.here f.empty;
      less = less_offered s c.args.worker c.args.desk c.args.packet c.end_holds.new.row
          c.end_holds.new.headers.items f.table f.low f.high ended f.own f.here f.empty;
      others = others_offered s c.args.worker c.args.desk c.args.packet c.end_holds.new.row
          c.end_holds.new.headers.items f.table f.low f.high ended f.own f.here f.empty;
    }

-- the own elements are headers of this worker, so each has a place among the headers
pub set_owner-requires : goal.set_owner-requires
set_owner-requires c =
    let f = found_empty (goal.at.set_owner-requires c).After-segs in
    rw (c.segs-2.ensures.segs ∙ c.insert-packet.ensures.value) (λ k d l. omega (
      arith,
      is_below (lists_of c.self.inside) c.args.worker c.args.packet f.table f.low f.high f.own k d l,
      c.end_holds.ensures.headers_len,
      c.end_holds.new.headers.ok,
    ))

-- the desk was there and empty, it has this packet now, and the worker has that much less
pub returns-clause-did : goal.returns-clause-did
returns-clause-did c =
    let at = goal.at.returns-clause-did c in
    let f = found_empty at.After-segs in
    rw (
      sym c.self.view_is,
      c.insert-packet.ensures.value,
      c.set_owner.ensures.items,
      c.segs-2.ensures.segs ∙ c.insert-packet.ensures.value,
    ) (omega (arith, f.here, f.table.desks), f.empty, refl, (offered at.After-set_owner f).less)

-- the table after the offer: the worker's part of each sum is now the desk's
pub returns-clause-kept : goal.returns-clause-kept
returns-clause-kept c =
    let at = goal.at.returns-clause-kept c in
    rw (c.insert-packet.ensures.value, c.set_owner.ensures.items, c.segs-2.ensures.segs ∙ c.insert-packet.ensures.value)
    (offered at.After-set_owner (found_empty at.After-segs)).table

-- holds end in this worker's row alone, and the headers given up were its own
pub returns-clause-others : goal.returns-clause-others
returns-clause-others c =
    let at = goal.at.returns-clause-others c in
    rw (
      sym c.self.view_is,
      c.insert-packet.ensures.value,
      c.set_owner.ensures.items,
      c.segs-2.ensures.segs ∙ c.insert-packet.ensures.value,
    ) (offered at.After-set_owner (found_empty at.After-segs)).others

-- the lists are kept as that table: holds leave the row as the packet comes, so no count changes
pub invariant_of-self : goal.invariant_of-self
invariant_of-self c = record { table = returns-clause-kept c; room = c.self.invariant.room }
