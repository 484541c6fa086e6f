use Rattle.std.proofs.Common.{◌≡◌, ◌+◌, ◌<◌, ℕ, [], length, get_or, set, Some, None, refl, sym, arith}
use Rattle.std.proofs.lemmas.List.{set-get_or}
use Rattle.commons.specs.Bag.{bag}
use Rattle.commons.proofs.Bags.{bag-nil}
use Rattle.mbuf.specs.Foreign.{CloneFreed, bases_in, bases_in_slot}
use Rattle.mbuf.specs.inside.Kept.{member_of}
use Rattle.mbuf.proofs.ForeignLemmas.{bases_in-set, bases_in_slot_held, own_freed, own_guests, own_in_slot_held, own_twin_at}
use Rattle.mbuf.proofs.PlaceLemmas.{alike, emptied, lent, recached, standing}
use Rattle.mbuf.proofs.TableLemmas.{taken_slot, length-shown}
use Rattle.mbuf.proofs.packets.Packets.free_foreign.Goals as goal

-- The clone's bases are guests in the first pool.
pub end_segs-freed-requires-clause-first_held : goal.end_segs-freed-requires-clause-first_held
end_segs-freed-requires-clause-first_held g c = λ i.
    let p = c.self.inside in
    let slot = c.in-Some.slot in
    let segs = c.segs.result.now in
    let own = rw (sym c.self.view_is, sym c.first.view_is) at c.requires.own in
    let at = rw (sym c.self.view_is) at c.in-Some.ensures in
    let stood =
    lent p slot c.args.p segs c.index.result.now c.self.invariant at c.segs.ensures.segs
    c.index.ensures in
    bases_in_slot_held (member_of c.first.inside) (g.C.Commons.side c.args.c.now) (member_of p).table slot segs i
    own.first stood.there

-- The own elements of the clone are held in the second pool.
pub end_segs-freed-requires-clause-second_held : goal.end_segs-freed-requires-clause-second_held
end_segs-freed-requires-clause-second_held g c = λ i.
    let p = c.self.inside in
    let slot = c.in-Some.slot in
    let segs = c.segs.result.now in
    let own = rw (sym c.self.view_is, sym c.first.view_is) at c.requires.own in
    let at = rw (sym c.self.view_is) at c.in-Some.ensures in
    let stood =
    lent p slot c.args.p segs c.index.result.now c.self.invariant at c.segs.ensures.segs
    c.index.ensures in
    own_in_slot_held (member_of p) (g.D.Commons.side c.args.d.now) slot segs i own.second stood.there

-- A clone stands in the slot, so the slot isn't free.
pub give-requires-clause-taken : goal.give-requires-clause-taken
give-requires-clause-taken g c =
    let p = c.self.inside in
    let slot = c.in-Some.slot in
    let at = rw (sym c.self.view_is) at c.in-Some.ensures in
    let src = standing p slot c.args.p c.self.invariant at in
    taken_slot p.free p.packets.items slot src.within (alike p c.self.invariant)
    (rw (sym at.0) at at.2)

-- The clone's segments ended in order, and its slot, once it is given back, shows nothing. The guests
-- lost the clone's bases, and the clones its own elements, as the worker did on either side.
pub returns : goal.returns
returns g c =
    let p = c.self.inside in
    let q = c.first.inside in
    let slot = c.in-Some.slot in
    let segs = c.segs.result.now in
    let done = c.end_segs-freed.new in
    let did = c.end_segs-freed.ensures in
    let own = rw (sym c.self.view_is, sym c.first.view_is) at c.requires.own in
    let at = rw (sym c.self.view_is) at c.in-Some.ensures in
    let stood =
    lent p slot c.args.p segs c.index.result.now c.self.invariant at c.segs.ensures.segs
    c.index.ensures in
    let long = length-shown p.free p.packets.items (alike p c.self.invariant) in
    let within : slot < length (member_of p).table = omega (arith, stood.within, long) in
    let second =
    emptied p done.second c.give.new.self p.packets.items slot (get_or p.packets.items slot [])
    c.self.invariant did.second.number c.give.ensures (sym (set-get_or p.packets.items slot [])) in
    let first = recached q done.first did.first.number in
    let table = set (member_of p).table slot None in
    let guests : (i : ℕ) → bases_in table i + bag (bases_in_slot (Some segs)) i ≡ bases_in (member_of p).table i =
    λ i. let u = rw stood.there at (bases_in-set (member_of p).table slot None i within) in
    omega (arith, u, bag-nil i) in
    record {
      calls = rw (sym c.self.view_is, sym c.first.view_is, sym at.0) (
        did.calls.0,
        did.calls.1,
        (
          did.calls.2.0,
          did.calls.2.1,
          CloneFreed segs done.first.cache done.second.cache c.end_segs-freed.result stood.there
              did.calls.2.2 refl first second,
        ),
      );
      own =
          own_twin_at _ _ _ _ _ _ first second (record {
            first =
                own_guests (bases_in (member_of p).table) (bases_in table) (member_of q)
                (g.C.Commons.side c.args.c.now) (g.C.Commons.side done.c) done.first.cache own.first
                did.first.limits did.first.hand (λ i. omega (arith, did.first.holds i, guests i))
                did.first.headers;
            second =
                own_freed (member_of p) (g.D.Commons.side c.args.d.now) (g.D.Commons.side done.d)
                done.second.cache slot segs own.second did.second.limits within stood.there did.second.hand
                did.second.holds did.second.headers;
          });
      first_refused = tt;
      second_refused = tt;
    }
