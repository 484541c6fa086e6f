use Rattle.std.proofs.Common.{◌≡◌, ℕ, [], ◌∷◌, List, get_or, Option, Some, None, refl, sym, ap, subst, ◌∙◌, arith}
use Rattle.commons.specs.declared.limits.Limits.{Limits}
use Rattle.commons.specs.declared.packet.Seg.{Seg}
use Rattle.commons.specs.declared.refusal.Refusal.TheVariants.{NoSuchPacket, PacketsFull}
use Rattle.commons.specs.Packets.{own_of_packet}
use Rattle.mbuf.specs.inside.Kept.{member_of}
use Rattle.mbuf.specs.Fresh.{own_in_slots}
use Rattle.mbuf.specs.Members.{Member}
use Rattle.mbuf.specs.Own.{OwnWith, no_guests}
use Rattle.mbuf.specs.PacketRules.{free_slot}
use Rattle.mbuf.specs.Sharing.{clonable, NotClonable, WasGivenUp, WasCloned}
use Rattle.mbuf.proofs.FreshLemmas.{fresh_headers, own_in_one}
use Rattle.mbuf.proofs.OwnLemmas.{free_slot-is}
use Rattle.mbuf.proofs.PlaceLemmas.{alike, filled, found, hidden, lowest, standing}
use Rattle.mbuf.proofs.SharingLemmas.{in_slot_held, own_cloned, own_given_up}
use Rattle.mbuf.proofs.TableLemmas.{free_slot-shown}
use Rattle.mbuf.proofs.packets.Packets.clone_packet.Goals as goal

-- No packet stands in the slot, so none can be cloned, and nothing is asked.
pub returns-in_default-clause-calls : goal.returns-in_default-clause-calls
returns-in_default-clause-calls g c =
    let m = c.args.self.now in (
      [],
      refl,
      NotClonable NoSuchPacket
          (ap (λ (o : Option (List Seg)). clonable o (free_slot m.table)) c.in_default.ensures)
          refl refl refl,
    )

-- A packet stands in the slot, but no slot is free for its clone, and nothing is asked.
pub returns-in_default-lowest-clause-calls : goal.returns-in_default-lowest-clause-calls
returns-in_default-lowest-clause-calls g c =
    let p = c.self.inside in
    let source = c.in-Some.source in
    let at = rw (sym c.self.view_is) at c.in-Some.ensures in
    let src = standing p source c.args.p c.self.invariant at in
    let full : free_slot (member_of p).table ≡ None =
    free_slot-shown p.free p.packets.items (alike p c.self.invariant)
    ∙ sym c.in_default-lowest.ensures in
    let find =
    ap (λ (o : Option (List Seg)). clonable o (free_slot (member_of p).table)) src.there
    ∙ ap (λ (o : Option ℕ). clonable (Some (get_or p.packets.items source [])) o) full in
    rw (sym c.self.view_is, sym at.0) ([], refl, NotClonable PacketsFull find refl refl refl)

-- A packet stands in the one slot and none in the other, so they differ.
pub clone_segs-requires-clause-apart : goal.clone_segs-requires-clause-apart
clone_segs-requires-clause-apart g c = λ same.
    let p = c.self.inside in
    let source = c.in-Some.source in
    let slot = c.in-Some-lowest.lowest in
    let at = rw (sym c.self.view_is) at c.in-Some.ensures in
    let src = standing p source c.args.p c.self.invariant at in
    let low = lowest p slot c.self.invariant c.in-Some-lowest.ensures in
    let none =
    sym (free_slot-is (member_of p).table slot low.free).1
    ∙ ap (λ (n : ℕ). get_or (member_of p).table n None) (sym same) ∙ src.there in
    cc

-- What the packet holds that is cloned is held by its worker.
pub clone_segs-requires-clause-held : goal.clone_segs-requires-clause-held
clone_segs-requires-clause-held g c = λ i.
    let p = c.self.inside in
    let source = c.in-Some.source in
    let at = rw (sym c.self.view_is) at c.in-Some.ensures in
    let src = standing p source c.args.p c.self.invariant at in
    let own = rw (sym c.self.view_is) at c.requires.own.1 in
    in_slot_held c.requires.own.0 (member_of p) (g.C.Commons.side c.args.c.now) source
    (get_or p.packets.items source []) i own src.there

-- The lowest free slot is free.
pub take-requires-clause-free : goal.take-requires-clause-free
take-requires-clause-free g c =
    (lowest c.self.inside c.in-Some-lowest.lowest c.self.invariant c.in-Some-lowest.ensures).flag

-- Each segment was cloned, and the clones are what the lowest free slot shows once it is taken. Their
-- holds and headers are those that came to the worker, and its cache is its hand; the own elements
-- are new headers, and nobody held them before.
pub returns-in-Ok : goal.returns-in-Ok
returns-in-Ok g c =
    let p = c.self.inside in
    let source = c.in-Some.source in
    let slot = c.in-Some-lowest.lowest in
    let at = rw (sym c.self.view_is) at c.in-Some.ensures in
    let src = standing p source c.args.p c.self.invariant at in
    let low = lowest p slot c.self.invariant c.in-Some-lowest.ensures in
    let done = c.clone_segs.new in
    let new = get_or done.packets.items slot [] in
    let is =
    filled p done.worker c.take.new.self done.packets.items slot new c.self.invariant low
    c.clone_segs.ensures.number c.take.ensures c.clone_segs.ensures.packets in
    let did = c.in-Ok.ensures in
    let side = g.C.Commons.side in
    let first = c.args.c.now in
    let last = done.c in
    let l = p.worker.limits in
    let met = g.met.C.Commons in
    let own = rw (sym c.self.view_is) at c.requires.own.1 in
    let list =
    ap (λ (m : Member). own_in_slots m.table (slot ∷ [])) is
    ∙ own_in_one (member_of p).table slot new (free_slot-is (member_of p).table slot low.free).0 in
    let same : (side last).limits.population ≡ l.population =
    ap (λ (x : Limits). x.population) (did.limits ∙ sym own.limits) in
    let stays =
    λ (guests : ℕ → ℕ) (owned : OwnWith guests c.args.self.now (side first)).
    subst (λ (m : Member). OwnWith guests m (side last)) (sym is)
    (own_cloned guests (member_of p) (side first) (side last) done.worker.cache slot new
    (rw (sym c.self.view_is) at owned) did.limits low.free did.hand did.holds did.headers) in
    record {
      calls = rw (sym c.self.view_is, sym at.0) (
        did.calls.0,
        did.calls.1,
        WasCloned (get_or p.packets.items source []) slot (found p source slot src low) new
            done.worker.cache did.calls.2 refl is,
      );
      holds_err = tt;
      headers_err = tt;
      table_err = tt;
      fresh = rw (sym c.self.view_is, list)
          (fresh_headers (side first) (side last) l.population (side first).holds
          (own_of_packet new) (met.header_once last) (met.header_held last)
          (λ i b. met.holds_below last i (omega (arith, same, b))) did.headers
          did.unheld);
      own = stays no_guests;
      guests = stays;
    }

-- The clones were given up, and the slot where they lie is free still: the table is as before, and
-- holds and headers too.
pub returns-in-Err : goal.returns-in-Err
returns-in-Err g c =
    let p = c.self.inside in
    let source = c.in-Some.source in
    let slot = c.in-Some-lowest.lowest in
    let at = rw (sym c.self.view_is) at c.in-Some.ensures in
    let src = standing p source c.args.p c.self.invariant at in
    let low = lowest p slot c.self.invariant c.in-Some-lowest.ensures in
    let done = c.clone_segs.new in
    let is =
    hidden p done.worker done.packets.items slot (get_or done.packets.items slot []) low
    c.clone_segs.ensures.number c.clone_segs.ensures.packets in
    let did = c.in-Err.ensures in
    let side = g.C.Commons.side in
    let stays =
    λ (guests : ℕ → ℕ) (owned : OwnWith guests c.args.self.now (side c.args.c.now)).
    subst (λ (m : Member). OwnWith guests m (side done.c)) (sym is)
    (own_given_up guests (member_of p) (side c.args.c.now) (side done.c) done.worker.cache
    (rw (sym c.self.view_is) at owned) did.limits did.hand did.holds_err did.headers_err) in
    record {
      calls = rw (sym c.self.view_is, sym at.0) (
        did.calls.0,
        did.calls.1,
        WasGivenUp (get_or p.packets.items source []) slot (found p source slot src low)
            c.in-Err.cause
            done.worker.cache did.calls.2 refl is,
      );
      holds_err = did.holds_err;
      headers_err = did.headers_err;
      table_err = rw (sym c.self.view_is) (ap (λ (m : Member). m.table) is);
      fresh = tt;
      own = stays no_guests;
      guests = stays;
    }
