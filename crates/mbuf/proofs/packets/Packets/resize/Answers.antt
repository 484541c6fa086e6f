use Rattle.std.proofs.Common.{◌≡◌, ◌<◌, ℕ, List, length, set, get_or, get_or-set_same, Some, Result, Ok, Err, refl, sym, ap, subst, ◌∙◌, arith}
use Rattle.std.proofs.lemmas.List.{set-get_or}
use Rattle.commons.specs.Packets.{pkt_len}
use Rattle.commons.specs.declared.packet.Seg.{Seg}
use Rattle.commons.specs.declared.refusal.Refusal.{Refusal}
use Rattle.mbuf.specs.inside.Kept.{member_of, shown, KeepsHolds}
use Rattle.mbuf.specs.Members.{Member}
use Rattle.mbuf.specs.inside.Changes.{resized, not_resized}
use Rattle.mbuf.proofs.PacketCases.{not_resized_is, was_resized_is}
use Rattle.mbuf.proofs.ResizeLemmas.{resized_holds, KeepsHolds-set}
use Rattle.mbuf.proofs.TableLemmas.{stands, length-shown, shown-packet, member_is}
use Rattle.mbuf.proofs.packets.Packets.resize.Goals as goal

-- an answer that a change was refused
abbrev refused : Refusal → Result ℕ Refusal
refused cause = Err cause

-- an answer with a packet's new length
abbrev answered : ℕ → Result ℕ Refusal
answered len = Ok len

-- nothing is put where the segments are those that were there
put_back : (packets : List (List Seg)) (slot : ℕ) (new old : List Seg) → new ≡ old →
    old ≡ get_or packets slot old → set packets slot new ≡ packets
put_back packets slot new old same lent = ap (set packets slot) (same ∙ lent) ∙ set-get_or packets slot old

-- The packet has no such change, and its segments, put back as they were, show the same table.
pub returns-then-not-resize-clause-resized : goal.returns-then-not-resize-clause-resized
returns-then-not-resize-clause-resized c =
    let inv = c.self.invariant in
    let flags = c.self.inside.free in
    let packets = c.self.inside.packets.items in
    let slot = c.in-Some.slot in
    let w = c.self.inside.worker in
    let old = c.index_mut.result.now in
    let new = c.resize.new.packet in
    let at = rw (sym c.self.view_is) at c.in-Some.ensures in
    let within : slot < length flags = omega (arith, at.1, inv.flags) in
    let there =
    stands flags packets slot old within (inv.packets ∙ sym inv.flags) (rw (sym at.0) at at.2)
    c.index_mut.ensures.value in
    let none = rw c.if-not-resize.true at c.resize.ensures.resized in
    let same = put_back packets slot new old (c.resize.ensures.same c.if-not-resize.true) c.index_mut.ensures.value in
    rw (sym c.self.view_is, sym at.0)
    (not_resized_is (resized c.args.change) (not_resized c.args.change) (member_of c.self.inside) _
    slot _ old there (sym none) (ap refused c.refusal.ensures)
    (member_is w.limits w.limits w.number w.number w.cache (shown flags (set packets slot new))
    (shown flags packets) refl refl (ap (shown flags) same)))

-- The changed segments stand in the slot, and their length is the answer.
pub returns-clause-resized : goal.returns-clause-resized
returns-clause-resized c =
    let inv = c.self.invariant in
    let flags = c.self.inside.free in
    let packets = c.self.inside.packets.items in
    let slot = c.in-Some.slot in
    let w = c.self.inside.worker in
    let old = c.index_mut.result.now in
    let new = c.resize.new.packet in
    let at = rw (sym c.self.view_is) at c.in-Some.ensures in
    let within : slot < length flags = omega (arith, at.1, inv.flags) in
    let alike = inv.packets ∙ sym inv.flags in
    let some = rw (sym at.0) at at.2 in
    let there = stands flags packets slot old within alike some c.index_mut.ensures.value in
    let done = rw c.if-not-resize.false at c.resize.ensures.resized in
    let bound : slot < length packets = omega (arith, at.1, inv.packets) in
    let lent : c.index.result.now ≡ new = c.index.ensures ∙ get_or-set_same packets slot new c.index.result.now bound in
    rw (sym c.self.view_is, sym at.0)
    (was_resized_is (resized c.args.change) (not_resized c.args.change) (member_of c.self.inside) _
    slot _ old new there (sym done) (ap answered (c.pkt_len.ensures ∙ ap pkt_len lent))
    (member_is w.limits w.limits w.number w.number w.cache (shown flags (set packets slot new))
    (set (shown flags packets) slot (Some new)) refl refl
    (shown-packet flags packets slot new within alike some)))

-- A change of lengths leaves each segment its element and base, so the packet holds what it held.
pub returns-clause-kept : goal.returns-clause-kept
returns-clause-kept c =
    let inv = c.self.invariant in
    let flags = c.self.inside.free in
    let packets = c.self.inside.packets.items in
    let slot = c.in-Some.slot in
    let w = c.self.inside.worker in
    let old = c.index_mut.result.now in
    let new = c.resize.new.packet in
    let at = rw (sym c.self.view_is) at c.in-Some.ensures in
    let within : slot < length flags = omega (arith, at.1, inv.flags) in
    let alike = inv.packets ∙ sym inv.flags in
    let some = rw (sym at.0) at at.2 in
    let there = stands flags packets slot old within alike some c.index_mut.ensures.value in
    let done = rw c.if-not-resize.false at c.resize.ensures.resized in
    rw (sym c.self.view_is)
    (subst (λ (m : Member). KeepsHolds (member_of c.self.inside) m)
    (sym (member_is w.limits w.limits w.number w.number w.cache (shown flags (set packets slot new))
    (set (shown flags packets) slot (Some new)) refl refl
    (shown-packet flags packets slot new within alike some)))
    (KeepsHolds-set (member_of c.self.inside) slot old new
    (omega (arith, within, length-shown flags packets alike)) there
    (resized_holds c.args.change old new (sym done))))
