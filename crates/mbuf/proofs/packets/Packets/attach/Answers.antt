use Rattle.std.proofs.Common.{ℕ, [], ◌∷◌, set, Some, Err, inl, inr, refl, sym, ap, subst, ◌∙◌}
use Rattle.std.proofs.lemmas.Result.{err_from_is_err_and}
use Rattle.commons.specs.declared.packet.Seg.{Seg}
use Rattle.mbuf.specs.inside.Kept.{member_of}
use Rattle.mbuf.specs.Members.{Member}
use Rattle.mbuf.specs.Own.{OwnWith, no_guests}
use Rattle.mbuf.specs.Sharing.{NotAttachable, HeldElsewhere, NotRaised, WasAttached}
use Rattle.mbuf.proofs.PlaceLemmas.{changed}
use Rattle.mbuf.proofs.SharingLemmas.{pair_held, own_attached}
use Rattle.mbuf.proofs.packets.Packets.attach.Goals as goal

-- The two packets are no pair to be attached, and nothing was asked of the shared pool.
pub returns-in_err-elem-clause-calls : goal.returns-in_err-elem-clause-calls
returns-in_err-elem-clause-calls g c =
    let p = err_from_is_err_and c.from_residual.result c.from_residual.ensures.1 in
    rw (p.1, p.2) (
      [],
      refl,
      NotAttachable c.in_err-elem.field-0.0 (sym c.in_err-elem.ensures.pair) refl refl refl,
    )

-- The packet that is attached stands in a slot, so its worker holds its element.
pub attach-requires-clause-own : goal.attach-requires-clause-own
attach-requires-clause-own g c =
    let now = c.args.c.now in
    (pair_held c.requires.own.0 c.args.self.now (g.C.Commons.side now) c.args.mi c.args.target
    (c.in_ok-elem.elem, c.in_ok-elem.seg) c.requires.own.1 c.in_ok-elem.ensures.are).0

-- The packet in the other slot holds the buffer, and so does its worker.
pub attach-requires-clause-held : goal.attach-requires-clause-held
attach-requires-clause-held g c =
    let now = c.args.c.now in
    (pair_held c.requires.own.0 c.args.self.now (g.C.Commons.side now) c.args.mi c.args.target
    (c.in_ok-elem.elem, c.in_ok-elem.seg) c.requires.own.1 c.in_ok-elem.ensures.are).1

-- Either another count than 1 was read of the element, or the raise was refused.
pub returns-in_err-attached-clause-calls : goal.returns-in_err-attached-clause-calls
returns-in_err-attached-clause-calls g c =
    let p =
    err_from_is_err_and c.from_residual-in_err-attached.result
    c.from_residual-in_err-attached.ensures.1 in
    let did = c.in_err-attached.ensures.calls in
    let pair = sym c.in_ok-elem.ensures.pair in
    let e = c.in_ok-elem.elem in
    let seg = c.in_ok-elem.seg in
    let cause = c.in_err-attached.field-0.0 in
    rw (p.1, p.2) (
      did.0,
      did.1,
      elim did.2 [
        | inl used ↦ HeldElsewhere e used.0 seg pair used.1 used.2 (ap Err used.3) refl
        | inr calls ↦ NotRaised e seg pair cause calls refl refl
      ],
    )

-- The count was 1 and the raise was done, and the packet is its element attached to the buffer. The
-- table has one hold of the buffer more, and so has the worker; its headers are the same.
pub returns : goal.returns
returns g c =
    let p = c.self.inside in
    let mi = c.args.mi in
    let e = c.in_ok-elem.elem in
    let seg = c.in_ok-elem.seg in
    let new = c.in_ok-attached.attached in
    let done = c.in_ok-attached.ensures in
    let did = done.calls in
    let are = rw (sym c.self.view_is) at c.in_ok-elem.ensures.are in
    let is =
    changed p p.worker (set p.packets.items mi c.restart.new.self) mi (are.own ∷ []) (new ∷ [])
    c.self.invariant are.within are.here (record { limits = refl; number = refl })
    (ap (set p.packets.items mi) c.restart.ensures) in
    let pair = rw (sym c.self.view_is) at c.in_ok-elem.ensures.pair in
    let same =
    ap (λ (x : Seg). let m : Member =
    record (member_of p) { table = set (member_of p).table mi (Some (x ∷ [])) } in m) did.2.1 in
    let side = g.C.Commons.side in
    let first = c.args.c.now in
    let last = c.attach.new.c in
    let stays =
    λ (guests : ℕ → ℕ) (owned : OwnWith guests c.args.self.now (side first)).
    subst (λ (m : Member). OwnWith guests m (side last)) (sym is)
    (own_attached guests (member_of p) (side first) (side last) mi c.args.target (e, seg) new
    (rw (sym c.self.view_is) at owned) done.ok.limits are did.2.1
    done.ok.hand done.ok.holds done.ok.headers) in
    record {
      calls = rw (sym c.self.view_is) (did.0, did.1, WasAttached e seg (sym pair) did.2.0 refl (is ∙ same));
      own = stays no_guests;
      guests = stays;
      refused = tt;
    }
