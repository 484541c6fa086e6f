use Rattle.std.proofs.Common.{◌≡◌, ℕ, ◌<◌, List, [], ◌++◌, length, set, get_or, Some, None, refl, sym, ap, subst, ◌∙◌, arith}
use Rattle.std.proofs.lemmas.List.{get_or_default}
use Rattle.commons.specs.declared.packet.Seg.{Seg}
use Rattle.mbuf.specs.inside.Kept.{member_of, shown, KeepsHolds}
use Rattle.mbuf.specs.Members.{Member}
use Rattle.mbuf.proofs.ChainLemmas.{shown_chained, KeepsHolds-chain}
use Rattle.mbuf.proofs.PacketCases.{same_is, too_long_is, was_chained_is}
use Rattle.mbuf.proofs.TableLemmas.{shown_some, taken_slot, length-shown, member_is}
use Rattle.mbuf.proofs.packets.Packets.join.Goals as goal

-- what is lent from a place is what stands there
lent_is : (packets : List (List Seg)) (k : ℕ) (segs lent : List Seg) → k < length packets →
    segs ≡ lent → lent ≡ get_or packets k lent → segs ≡ get_or packets k []
lent_is packets k segs lent within same is = same ∙ is ∙ get_or_default packets k lent [] within

-- A packet stands in the slot, and both names are that slot's.
pub returns-then-first-second-clause-chained : goal.returns-then-first-second-clause-chained
returns-then-first-second-clause-chained c =
    let inv = c.self.invariant in
    let flags = c.self.inside.free in
    let packets = c.self.inside.packets.items in
    let at = rw (sym c.self.view_is) at c.in-Some.ensures in
    let other = rw (sym c.self.view_is) at c.in-Some-slot.ensures in
    let first = c.in-Some.first in
    let there =
    shown_some flags packets first (omega (arith, at.1, inv.flags))
    (inv.packets ∙ sym inv.flags) (rw (sym at.0) at at.2) in
    rw (sym c.self.view_is, sym at.0, sym other.0) (same_is (member_of c.self.inside) first
    c.in-Some-slot.second (get_or packets first []) there c.if-first-second.true)

-- What is lent from the two slots stands there, and both together have too many segments.
pub returns-then-segs-gt-MAX_SEGS-clause-chained : goal.returns-then-segs-gt-MAX_SEGS-clause-chained
returns-then-segs-gt-MAX_SEGS-clause-chained c =
    let inv = c.self.invariant in
    let flags = c.self.inside.free in
    let packets = c.self.inside.packets.items in
    let at = rw (sym c.self.view_is) at c.in-Some.ensures in
    let other = rw (sym c.self.view_is) at c.in-Some-slot.ensures in
    let first = c.in-Some.first in
    let second = c.in-Some-slot.second in
    let alike = inv.packets ∙ sym inv.flags in
    let there = shown_some flags packets first (omega (arith, at.1, inv.flags)) alike (rw (sym at.0) at at.2) in
    let behind =
    shown_some flags packets second (omega (arith, other.1, inv.flags)) alike
    (rw (sym other.0) at other.2) in
    let a =
    lent_is packets first c.segs.result.now c.index.result.now
    (omega (arith, at.1, inv.packets)) c.segs.ensures.segs c.index.ensures in
    let b =
    lent_is packets second c.segs-2.result.now c.index-2.result.now
    (omega (arith, other.1, inv.packets)) c.segs-2.ensures.segs c.index-2.ensures in
    rw (sym c.self.view_is, sym at.0, sym other.0)
    (too_long_is (member_of c.self.inside) first second (get_or packets first [])
    (get_or packets second []) there behind c.if-first-second.false
    (omega (arith, c.if-segs-gt-MAX_SEGS.true, ap (λ (s : List Seg). length s) a, ap (λ (s : List Seg). length s) b)))

-- The tail stands in its slot, so the slot isn't free.
pub give-requires-clause-taken : goal.give-requires-clause-taken
give-requires-clause-taken c =
    let inv = c.self.invariant in
    let other = rw (sym c.self.view_is) at c.in-Some-slot.ensures in
    taken_slot c.self.inside.free c.self.inside.packets.items c.in-Some-slot.second
    (omega (arith, other.1, inv.flags)) (inv.packets ∙ sym inv.flags)
    (rw (sym other.0) at other.2)

-- The head's slot shows both packets' segments, and the tail's, given back, shows nothing.
pub returns-clause-chained : goal.returns-clause-chained
returns-clause-chained c =
    let inv = c.self.invariant in
    let flags = c.self.inside.free in
    let packets = c.self.inside.packets.items in
    let w = c.self.inside.worker in
    let at = rw (sym c.self.view_is) at c.in-Some.ensures in
    let other = rw (sym c.self.view_is) at c.in-Some-slot.ensures in
    let first = c.in-Some.first in
    let second = c.in-Some-slot.second in
    let alike = inv.packets ∙ sym inv.flags in
    let some = rw (sym at.0) at at.2 in
    let within : first < length flags = omega (arith, at.1, inv.flags) in
    let there = shown_some flags packets first within alike some in
    let behind =
    shown_some flags packets second (omega (arith, other.1, inv.flags)) alike
    (rw (sym other.0) at other.2) in
    let a =
    lent_is packets first c.segs.result.now c.index.result.now
    (omega (arith, at.1, inv.packets)) c.segs.ensures.segs c.index.ensures in
    let b =
    lent_is packets second c.segs-2.result.now c.index-2.result.now
    (omega (arith, other.1, inv.packets)) c.segs-2.ensures.segs c.index-2.ensures in
    let joined = get_or packets first [] ++ get_or packets second [] in
    let table : shown c.give.new.self c.push_segs.new.packets.items
    ≡ set (set (shown flags packets) first (Some joined)) second None =
    rw (c.give.ensures, c.push_segs.ensures) (shown_chained flags packets first second joined within alike some) in
    rw (sym c.self.view_is, sym at.0, sym other.0)
    (was_chained_is (member_of c.self.inside) _ first second (get_or packets first [])
    (get_or packets second []) there behind c.if-first-second.false
    (omega (arith, c.if-segs-gt-MAX_SEGS.false, ap (λ (s : List Seg). length s) a, ap (λ (s : List Seg). length s) b))
    (member_is w.limits w.limits w.number w.number w.cache
    (shown c.give.new.self c.push_segs.new.packets.items)
    (set (set (shown flags packets) first (Some joined)) second None) refl refl table))

-- The segments moved from one slot to another, so the table holds what it held.
pub returns-clause-kept : goal.returns-clause-kept
returns-clause-kept c =
    let inv = c.self.invariant in
    let flags = c.self.inside.free in
    let packets = c.self.inside.packets.items in
    let w = c.self.inside.worker in
    let at = rw (sym c.self.view_is) at c.in-Some.ensures in
    let other = rw (sym c.self.view_is) at c.in-Some-slot.ensures in
    let first = c.in-Some.first in
    let second = c.in-Some-slot.second in
    let alike = inv.packets ∙ sym inv.flags in
    let some = rw (sym at.0) at at.2 in
    let within : first < length flags = omega (arith, at.1, inv.flags) in
    let there = shown_some flags packets first within alike some in
    let behind =
    shown_some flags packets second (omega (arith, other.1, inv.flags)) alike
    (rw (sym other.0) at other.2) in
    let joined = get_or packets first [] ++ get_or packets second [] in
    let table : shown c.give.new.self c.push_segs.new.packets.items
    ≡ set (set (shown flags packets) first (Some joined)) second None =
    rw (c.give.ensures, c.push_segs.ensures) (shown_chained flags packets first second joined within alike some) in
    let long = length-shown flags packets alike in
    rw (sym c.self.view_is)
    (subst (λ (m : Member). KeepsHolds (member_of c.self.inside) m)
    (sym (member_is w.limits w.limits w.number w.number w.cache
    (shown c.give.new.self c.push_segs.new.packets.items)
    (set (set (shown flags packets) first (Some joined)) second None) refl refl table))
    (KeepsHolds-chain (member_of c.self.inside) first second (get_or packets first [])
    (get_or packets second []) (omega (arith, within, long))
    (omega (arith, other.1, inv.flags, long)) c.if-first-second.false there behind))
