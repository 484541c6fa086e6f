use Rattle.std.proofs.Common.{◌≡◌, ◌+◌, ℕ, List, [], ◌∷◌, get_or, set, Option, Some, None, refl, sym, ap, ◌∙◌, arith}
use Rattle.commons.specs.Bag.{bag}
use Rattle.commons.specs.declared.limits.Limits.{Limits}
use Rattle.commons.specs.declared.packet.Seg.{Seg}
use Rattle.commons.specs.declared.refusal.Refusal.TheVariants.{NoSuchPacket, PacketsFull}
use Rattle.commons.specs.Packets.{own_of_packet}
use Rattle.commons.proofs.Bags.{bag-nil}
use Rattle.mbuf.specs.Foreign.{CantClone, CloneGivenUp, ClonedInto, bases_in, bases_in_slot}
use Rattle.mbuf.specs.Fresh.{own_in_slots}
use Rattle.mbuf.specs.inside.Kept.{member_of}
use Rattle.mbuf.specs.Members.{Member}
use Rattle.mbuf.specs.PacketRules.{free_slot}
use Rattle.mbuf.specs.Sharing.{clonable}
use Rattle.mbuf.proofs.ForeignLemmas.{bases_in-set, own_cloned_into, own_guests, own_not_cloned, own_twin_at}
use Rattle.mbuf.proofs.FreshLemmas.{fresh_headers, own_in_one}
use Rattle.mbuf.proofs.OwnLemmas.{free_slot-is}
use Rattle.mbuf.proofs.PlaceLemmas.{alike, filled, hidden, lent, lowest, recached, standing}
use Rattle.mbuf.proofs.SharingLemmas.{in_slot_held}
use Rattle.mbuf.proofs.TableLemmas.{free_slot-shown}
use Rattle.mbuf.proofs.packets.Packets.clone_foreign.Goals as goal

-- No packet stands in the slot, so none can be cloned, and nothing is asked.
pub returns-in_default-clause-calls : goal.returns-in_default-clause-calls
returns-in_default-clause-calls g c =
    let n = c.args.self.now in (
      [],
      refl,
      (
        [],
        refl,
        CantClone NoSuchPacket (ap (λ (o : Option (List Seg)). clonable o (free_slot n.table)) c.in_default.ensures)
            refl refl refl refl refl,
      ),
    )

-- A packet stands in the slot, but no slot is free for its clone, and nothing is asked.
pub returns-in_default-lowest-clause-calls : goal.returns-in_default-lowest-clause-calls
returns-in_default-lowest-clause-calls g c =
    let p = c.self.inside in
    let q = c.first.inside in
    let source = c.in-Some.source in
    let at = rw (sym c.first.view_is) at c.in-Some.ensures in
    let src = standing q source c.args.p c.first.invariant at in
    let full : free_slot (member_of p).table ≡ None =
    free_slot-shown p.free p.packets.items (alike p c.self.invariant)
    ∙ sym c.in_default-lowest.ensures in
    let find =
    ap (λ (o : Option (List Seg)). clonable o (free_slot (member_of p).table)) src.there
    ∙ ap (λ (o : Option ℕ). clonable (Some (get_or q.packets.items source [])) o) full in
    rw (sym c.self.view_is, sym c.first.view_is, sym at.0)
    ([], refl, ([], refl, CantClone PacketsFull find refl refl refl refl refl))

-- What the packet holds that is cloned is held by its worker.
pub clone_segs-requires-clause-first_held : goal.clone_segs-requires-clause-first_held
clone_segs-requires-clause-first_held g c = λ i.
    let q = c.first.inside in
    let source = c.in-Some.source in
    let segs = c.segs.result.now in
    let own = rw (sym c.self.view_is, sym c.first.view_is) at c.requires.own in
    let at = rw (sym c.first.view_is) at c.in-Some.ensures in
    let stood =
    lent q source c.args.p segs c.index.result.now c.first.invariant at c.segs.ensures.segs
    c.index.ensures in
    in_slot_held (bases_in (member_of c.self.inside).table) (member_of q) (g.C.Commons.side c.args.c.now) source segs i
    own.first stood.there

-- The lowest free slot is free.
pub take-requires-clause-free : goal.take-requires-clause-free
take-requires-clause-free g c =
    (lowest c.self.inside c.in-Some-lowest.lowest c.self.invariant c.in-Some-lowest.ensures).flag

-- Each segment was cloned, and the clones are what the lowest free slot shows once it is taken. The
-- clone's bases are guests now, and its own elements headers and holds in the second pool, where
-- nobody held them before.
pub returns : goal.returns
returns g c =
    let p = c.self.inside in
    let q = c.first.inside in
    let source = c.in-Some.source in
    let slot = c.in-Some-lowest.lowest in
    let segs = c.segs.result.now in
    let at = rw (sym c.first.view_is) at c.in-Some.ensures in
    let stood =
    lent q source c.args.p segs c.index.result.now c.first.invariant at c.segs.ensures.segs
    c.index.ensures in
    let low = lowest p slot c.self.invariant c.in-Some-lowest.ensures in
    let empty = free_slot-is (member_of p).table slot low.free in
    let own = rw (sym c.self.view_is, sym c.first.view_is) at c.requires.own in
    let done = c.clone_segs.new in
    let did = c.in_default-clone_segs.ensures in
    let calls = did.calls in
    let second =
    filled p done.second c.take.new.self (set p.packets.items slot done.packet) slot done.packet
    c.self.invariant low did.second_number c.take.ensures refl in
    let first = recached q done.first did.first_number in
    let untouched =
    first ∙ ap (λ (cache : List ℕ). let m : Member = record (member_of q) { cache = cache } in m) calls.2.2.1 in
    let find =
    ap (λ (o : Option (List Seg)). clonable o (free_slot (member_of p).table)) stood.there
    ∙ ap (λ (o : Option ℕ). clonable (Some segs) o) low.free in
    let table = set (member_of p).table slot (Some done.packet) in
    let guests : (i : ℕ) → bases_in table i ≡ bases_in (member_of p).table i + bag (bases_in_slot (Some done.packet)) i =
    λ i. let u = rw empty.1 at (bases_in-set (member_of p).table slot (Some done.packet) i empty.0) in
    omega (arith, u, bag-nil i) in
    let side = g.D.Commons.side in
    let before = side c.args.d.now in
    let after = side done.d in
    let met = g.met.D.Commons in
    let list =
    ap (λ (m : Member). own_in_slots m.table (slot ∷ [])) second
    ∙ own_in_one (member_of p).table slot done.packet empty.0 in
    let same : after.limits.population ≡ p.worker.limits.population =
    ap (λ (x : Limits). x.population) (did.second_limits ∙ sym own.second.limits) in
    record {
      calls = rw (sym c.self.view_is, sym c.first.view_is, sym at.0) (
        calls.0,
        calls.1,
        (
          calls.2.0,
          calls.2.1,
          ClonedInto segs slot find done.packet done.second.cache calls.2.2.0 refl untouched second,
        ),
      );
      own =
          own_twin_at _ _ _ _ _ _ first second (record {
            first =
                own_guests (bases_in (member_of p).table) (bases_in table) (member_of q)
                (g.C.Commons.side c.args.c.now) (g.C.Commons.side done.c) done.first.cache own.first
                did.first_limits did.first_hand (λ i. omega (arith, did.first_holds i, guests i))
                (λ i some. did.first_headers i);
            second =
                own_cloned_into (member_of p) before after done.second.cache slot done.packet own.second
                did.second_limits empty.0 empty.1 did.second_hand did.second_holds did.second_headers;
          });
      fresh =
          rw (sym c.self.view_is, list)
          (fresh_headers before after p.worker.limits.population before.holds (own_of_packet done.packet)
          (met.header_once done.d) (met.header_held done.d)
          (λ i b. met.holds_below done.d i (omega (arith, same, b))) did.second_headers did.unheld);
      first_refused = tt;
      second_refused = tt;
    }

-- The clones were given up, and the slot where they lie is free still. All but cache and hand is as
-- before on both sides.
pub returns-in-Err : goal.returns-in-Err
returns-in-Err g c =
    let p = c.self.inside in
    let q = c.first.inside in
    let source = c.in-Some.source in
    let slot = c.in-Some-lowest.lowest in
    let segs = c.segs.result.now in
    let at = rw (sym c.first.view_is) at c.in-Some.ensures in
    let stood =
    lent q source c.args.p segs c.index.result.now c.first.invariant at c.segs.ensures.segs
    c.index.ensures in
    let low = lowest p slot c.self.invariant c.in-Some-lowest.ensures in
    let own = rw (sym c.self.view_is, sym c.first.view_is) at c.requires.own in
    let done = c.clone_segs.new in
    let did = c.in-Err.ensures in
    let calls = did.calls in
    let second =
    hidden p done.second (set p.packets.items slot done.packet) slot done.packet low did.second_number refl in
    let first = recached q done.first did.first_number in
    let find =
    ap (λ (o : Option (List Seg)). clonable o (free_slot (member_of p).table)) stood.there
    ∙ ap (λ (o : Option ℕ). clonable (Some segs) o) low.free in
    record {
      calls = rw (sym c.self.view_is, sym c.first.view_is, sym at.0) (
        calls.0,
        calls.1,
        (
          calls.2.0,
          calls.2.1,
          CloneGivenUp segs slot find c.in-Err.cause done.first.cache done.second.cache calls.2.2 refl first second,
        ),
      );
      own =
          own_twin_at _ _ _ _ _ _ first second (record {
            first =
                own_guests (bases_in (member_of p).table) (bases_in (member_of p).table) (member_of q)
                (g.C.Commons.side c.args.c.now) (g.C.Commons.side done.c) done.first.cache own.first
                did.first_limits did.first_hand (λ i. omega (arith, did.first_holds_err i))
                (λ i some. did.first_headers i);
            second =
                own_not_cloned (member_of p) (g.D.Commons.side c.args.d.now) (g.D.Commons.side done.d)
                done.second.cache own.second did.second_limits did.second_hand did.second_holds_err
                did.second_headers_err;
          });
      fresh = tt;
      first_refused = rw (sym c.first.view_is)
          (record { packets = first; holds = did.first_holds_err; headers = did.first_headers });
      second_refused = rw (sym c.self.view_is)
          (record { packets = second; holds = did.second_holds_err; headers = did.second_headers_err });
    }
