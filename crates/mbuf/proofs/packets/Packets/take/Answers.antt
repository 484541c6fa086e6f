use Rattle.std.proofs.Common.{ℕ, ◌≡◌, ◌<◌, [], ◌∷◌, set, None, Ok, Err, refl, sym, ap, subst, ◌∙◌, arith}
use Rattle.commons.specs.Calls.{Take}
use Rattle.commons.specs.declared.limits.Limits.{Limits}
use Rattle.commons.proofs.Leading.{Leads-one, made_by}
use Rattle.mbuf.specs.Desks.{NoSlot, NotTaken, WasTaken}
use Rattle.mbuf.specs.inside.Kept.{member_of}
use Rattle.mbuf.specs.Members.{Member}
use Rattle.mbuf.specs.Own.{OwnWith, no_guests}
use Rattle.mbuf.specs.PacketRules.{free_slot}
use Rattle.mbuf.proofs.DeskLemmas.{own_taken}
use Rattle.mbuf.proofs.OwnLemmas.{free_slot-is}
use Rattle.mbuf.proofs.PlaceLemmas.{alike, filled, lowest}
use Rattle.mbuf.proofs.TableLemmas.{free_slot-shown}
use Rattle.mbuf.proofs.packets.Packets.take.Goals as goal

-- The desk is one of the pool's, but no flag is up: no slot is free, and nothing is asked.
pub returns-in_default-clause-calls : goal.returns-in_default-clause-calls
returns-in_default-clause-calls g c =
    let p = c.self.inside in
    let none : free_slot (member_of p).table ≡ None =
    free_slot-shown p.free p.packets.items (alike p c.self.invariant) ∙ sym c.in_default.ensures in
    let here : c.args.desk < p.worker.limits.desks =
    omega (
      arith,
      c.if-from-limits.false,
      c.from.ensures,
      ap (λ (l : Limits). l.desks) c.limits.ensures.limits,
    ) in
    rw (sym c.self.view_is) ([], refl, NoSlot here none refl refl refl)

-- The lowest free slot is free.
pub take-requires-in-Ok-clause-free : goal.take-requires-in-Ok-clause-free
take-requires-in-Ok-clause-free g c =
    (lowest c.self.inside c.in-Some.place c.self.invariant c.in-Some.ensures).flag

-- The one call gave the packet, and the lowest free slot shows it once it is taken; its holds and
-- headers came to the worker with it.
pub returns-in-Ok : goal.returns-in-Ok
returns-in-Ok g c =
    let p = c.self.inside in
    let slot = c.in-Some.place in
    let segs = c.in-Ok.packet in
    let low = lowest p slot c.self.invariant c.in-Some.ensures in
    let here : c.args.desk < p.worker.limits.desks =
    omega (
      arith,
      c.if-from-limits.false,
      c.from.ensures,
      ap (λ (l : Limits). l.desks) c.limits.ensures.limits,
    ) in
    let is =
    filled p p.worker c.take-in-Ok.new.self (set p.packets.items slot segs) slot segs
    c.self.invariant low (record { limits = refl; number = refl }) c.take-in-Ok.ensures refl in
    let did = c.in-Ok.ensures.did in
    let effect = did.step.effect in
    let call = Take c.args.desk (Ok segs) in
    let side = g.C.Commons.side in
    let first = c.args.c.now in
    let last = c.take.new.self in
    let empty = free_slot-is (member_of p).table slot low.free in
    let stays =
    λ (guests : ℕ → ℕ) (owned : OwnWith guests c.args.self.now (side first)).
    subst (λ (m : Member). OwnWith guests m (side last)) (sym is)
    (own_taken guests (member_of p) (side first) (side last) slot segs (rw (sym c.self.view_is) at owned)
    effect.limits empty.0 empty.1 effect.hand effect.holds effect.headers) in
    record {
      calls = rw (sym c.self.view_is) (
        made_by g.C.Commons.did side first call last did ∷ [],
        Leads-one g.C.Commons.did side first call last did,
        WasTaken here slot low.free segs refl refl is,
      );
      own = stays no_guests;
      guests = stays;
      refused = tt;
    }

-- The desk is one of the pool's and a slot is free, but the one call was refused.
pub returns-in-Err-clause-calls : goal.returns-in-Err-clause-calls
returns-in-Err-clause-calls g c =
    let p = c.self.inside in
    let slot = c.in-Some.place in
    let low = lowest p slot c.self.invariant c.in-Some.ensures in
    let here : c.args.desk < p.worker.limits.desks =
    omega (
      arith,
      c.if-from-limits.false,
      c.from.ensures,
      ap (λ (l : Limits). l.desks) c.limits.ensures.limits,
    ) in
    let did = c.in-Err.ensures in
    let call = Take c.args.desk (Err c.in-Err.cause) in
    rw (sym c.self.view_is) (
      made_by g.C.Commons.did g.C.Commons.side c.args.c.now call c.take.new.self did.did ∷ [],
      Leads-one g.C.Commons.did g.C.Commons.side c.args.c.now call c.take.new.self did.did,
      NotTaken here slot low.free c.in-Err.cause refl refl refl,
    )
