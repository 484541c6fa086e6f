use Rattle.std.proofs.Common.{ℕ, ◌≡◌, [], ◌∷◌, set, refl, sym, ap, subst, ◌∙◌}
use Rattle.std.proofs.lemmas.Result.{err_from_is_err_and}
use Rattle.commons.specs.declared.limits.Limits.{Limits}
use Rattle.commons.specs.declared.packet.Seg.{Seg}
use Rattle.mbuf.specs.inside.Kept.{member_of}
use Rattle.mbuf.specs.Members.{Member}
use Rattle.mbuf.specs.Own.{OwnWith, no_guests}
use Rattle.mbuf.specs.PacketRules.{fresh_seg}
use Rattle.mbuf.specs.Sharing.{NotDetachable, WasDetached}
use Rattle.mbuf.proofs.EndLemmas.{one_ended}
use Rattle.mbuf.proofs.PlaceLemmas.{changed}
use Rattle.mbuf.proofs.SharingLemmas.{base_held, own_detached}
use Rattle.mbuf.proofs.packets.Packets.detach.Goals as goal

-- There is no packet of one indirect segment in the slot, and nothing was asked.
pub returns-in_err-elem-clause-calls : goal.returns-in_err-elem-clause-calls
returns-in_err-elem-clause-calls g c =
    let p = err_from_is_err_and c.from_residual.result c.from_residual.ensures.1 in
    rw (p.1, p.2) (
      [],
      refl,
      NotDetachable c.in_err-elem.field-0.0 (sym c.in_err-elem.ensures.pair) refl refl refl,
    )

-- The base is held by the packet that stands in the slot.
pub end_hold-freed-requires-clause-held : goal.end_hold-freed-requires-clause-held
end_hold-freed-requires-clause-held g c =
    let now = c.args.c.now in
    base_held c.requires.own.0 c.args.self.now (g.C.Commons.side now) c.args.p (c.in_ok-elem.elem, c.in_ok-elem.base)
    c.requires.own.1 c.in_ok-elem.ensures.is

-- The base's hold ended by its rule, and the packet's element is a fresh segment of its own. The
-- table has one hold of the base less, as the worker has; what it holds keeps its header.
pub returns : goal.returns
returns g c =
    let p = c.self.inside in
    let slot = c.args.p in
    let e = c.in_ok-elem.elem in
    let l = p.worker.limits in
    let later = c.end_hold-freed.new.worker in
    let done = c.end_hold-freed.ensures in
    let there = rw (sym c.self.view_is) at c.in_ok-elem.ensures.is in
    let fresh : c.restart.new.self ≡ fresh_seg l e ∷ [] =
    c.restart.ensures ∙ ap (λ (s : Seg). s ∷ []) (c.fresh-fresh.ensures.seg
    ∙ ap (λ (l : Limits). fresh_seg l e) (c.limits.ensures.limits ∙ done.number.limits)) in
    let is =
    changed p later (set p.packets.items slot c.restart.new.self) slot (there.own ∷ [])
    (fresh_seg l e ∷ []) c.self.invariant there.within there.here done.number
    (ap (set p.packets.items slot) fresh) in
    let pair = rw (sym c.self.view_is) at c.in_ok-elem.ensures.pair in
    let lost = (one_ended done).lost in
    let side = g.C.Commons.side in
    let first = c.args.c.now in
    let last = c.end_hold-freed.new.c in
    let stays =
    λ (guests : ℕ → ℕ) (owned : OwnWith guests c.args.self.now (side first)).
    subst (λ (m : Member). OwnWith guests m (side last)) (sym is)
    (own_detached guests (member_of p) (side first) (side last) later.cache slot
    (e, c.in_ok-elem.base) (rw (sym c.self.view_is) at owned) done.limits there
    done.hand done.holds lost.headers) in
    record {
      calls = rw (sym c.self.view_is) (
        done.calls.0,
        done.calls.1,
        WasDetached e c.in_ok-elem.base (sym pair) later.cache c.end_hold-freed.result done.calls.2 refl is,
      );
      own = stays no_guests;
      guests = stays;
      refused = tt;
    }
