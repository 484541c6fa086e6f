use Rattle.std.proofs.Common.{◌≡◌, ◌≤◌, ℕ, List, [], refl, sym, ap, ◌∙◌, subst, rules, arith}
use Rattle.atomic_table.specs.Seated.{TableId}
use Rattle.atomic_table.specs.Table.{Splits}
use Rattle.commons.specs.Packets.{holds_of_packet}
use Rattle.commons.specs.declared.limits.Limits.{Limits}
use Rattle.commons.specs.declared.packet.Seg.{Seg}
use Rattle.step_core.specs.Bags.{Includes}
use Rattle.step_core.specs.Headers.{OwnsHeaders}
use Rattle.ground.specs.Own.{AtRest}
use Rattle.ground.specs.Parting.{parcel_of, with_parcel, left_by_noted, lent_noted}
use Rattle.ground.specs.Rule.{Sat, Ruled}
use Rattle.ground.specs.Seats.{Seated}
use Rattle.ground.proofs.Calls.{of_view, Keeps}
use Rattle.ground.proofs.Parts.{parcels, owned_parting, owned_parcel}
use Rattle.ground.proofs.pool.Ground.lend_packet.Goals as goal

-- the packet may be lent by the one seat, and the other is that seat once the packet is noted
record MayPart (m m' : Sat) (p : List Seg) : Type 0 where
  two : 2 ≤ m.0.view.part
  rest : AtRest m.0.view
  held : Includes m.0.view.holds (holds_of_packet p)
  owns : OwnsHeaders m.0.view p
  kept : Keeps m
  noted : m' ≡ with_parcel (parcel_of p) m

may_part : {table : TableId} {id : ℕ} (m m' : Sat) (s : Seated) (segs p : List Seg) →
    record { table = table; id = id; known = m.0; slots = m.1 } ≡ s → segs ≡ p →
    m' ≡ with_parcel (parcel_of segs) m → 2 ≤ s.known.view.part → AtRest s.known.view →
    Includes s.known.view.holds (holds_of_packet p) → OwnsHeaders s.known.view p → Keeps m → MayPart m m' p
may_part m m' s segs p is same noted two rest held owns kept = record {
  two = of_view is (λ v. 2 ≤ v.part) two;
  rest = of_view is AtRest rest;
  held = of_view is (λ v. Includes v.holds (holds_of_packet p)) held;
  owns = of_view is (λ v. OwnsHeaders v p) owns;
  kept = kept;
  noted = noted ∙ ap (λ (xs : List Seg). with_parcel (parcel_of xs) m) same;
}

module _ (m m' : Sat) (p : List Seg) (may : MayPart m m' p) where
  parts : (l : Limits) (id : ℕ) → Splits (Ruled l) id m'.0 (left_by_noted m'.0) (lent_noted m'.0)
  parts l id =
      subst (λ (z : Sat). Splits (Ruled l) id z.0 (left_by_noted z.0) (lent_noted z.0)) (sym may.noted)
      (parcels l id p (with_parcel (parcel_of p) m).0 may.two may.rest may.held may.owns)

  left_keeps : Keeps (left_by_noted m'.0, m'.1)
  left_keeps =
      let two = may.two in
      let within = may.kept.0.within in
      subst (λ (z : Sat). Keeps (left_by_noted z.0, z.1)) (sym may.noted) (
        owned_parting m.0.limits p m.0.view may.two may.held may.owns may.kept.0,
        may.kept.1,
        λ whole. absurd (omega arith),
      )

  new_keeps : Keeps (lent_noted m'.0, [])
  new_keeps =
      let two = may.two in
      let within = may.kept.0.within in
      subst (λ (z : Sat). Keeps (lent_noted z.0, [])) (sym may.noted) (
        owned_parcel m.0.limits p m.0.view may.held may.owns may.kept.0,
        refl,
        λ whole. absurd (omega arith),
      )

-- the rule stands once the packet is the new seat's
pub split_seat-seat-requires : goal.split_seat-seat-requires
split_seat-seat-requires c =
    let may =
    may_part c.seat.inside.seat.me c.note_packet.new.seat.me _ c.segs.result.now c.args.packet.now c.seat.view_is
    c.segs.ensures.segs c.note_packet.ensures.me c.requires.part c.requires.rest c.requires.held c.requires.owned
    c.seat.invariant in
    (search rules, search rules, parts _ _ _ may _ _)

may_split : (c : goal.After-split_seat-seat) →
    MayPart c.seat.inside.seat.me c.note_packet.new.seat.me c.args.packet.now
may_split c =
    may_part c.seat.inside.seat.me c.note_packet.new.seat.me _ c.segs.result.now c.args.packet.now c.seat.view_is
    c.segs.ensures.segs c.note_packet.ensures.me c.requires.part c.requires.rest c.requires.held c.requires.owned
    c.seat.invariant

-- the seat names what it named, but for the packet
pub invariant_of-seat : goal.invariant_of-seat
invariant_of-seat c = subst Keeps (sym c.split_seat-seat.ensures.2) (left_keeps _ _ _ (may_split c))

-- and the new one that alone
pub invariant_of-result : goal.invariant_of-result
invariant_of-result c = subst Keeps (sym c.split_seat-seat.ensures.4) (new_keeps _ _ _ (may_split c))
