use Rattle.std.proofs.Common.{List, Option, Ok, ap, arith, length, refl, subst, ◌∙◌}
use Rattle.commons.specs.declared.packet.Seg.{Seg}
use Rattle.word_pool.specs.Parcels.{IsParcel, Parcelled, stood, with_stood}
use Rattle.mbufpool_c.specs.Labels.{slot_in}
use Rattle.mbufpool_c.specs.Parcels.{IsSent, NoPartLeft, SendsBy, TooFewPlaces, Writes}
use Rattle.mbufpool_c.proofs.ParcelLemmas.{under_way}
use Rattle.mbufpool_c.proofs.parcels.send.Goals as goal

-- the packet has more segments than there are places
pub returns-then-places-segs : goal.returns-then-places-segs
returns-then-places-segs c =
    TooFewPlaces c.in-Some.packet.now (let none = c.if-out-ne0.false in omega (arith, none)) c.in-Some.ensures
    (omega (arith, c.if-places-segs.true, ap length c.segs-segs.ensures.segs)) c.number-then-places-segs.ensures
    (record { worker = refl; same = refl; unwritten = refl })

-- the packet is written, and under way
pub returns-in-Ok : goal.returns-in-Ok
returns-in-Ok c =
    let m = c.args.own.now in
    let n = c.send.new.self in
    let number = c.args.number in
    let packet = c.in-Some.packet.now in
    let seat = c.in-Ok.seat in
    let p : Parcelled = record { packet = packet; seat = seat } in
    let sends : SendsBy number m (Ok p) n =
    subst (λ (place : Option (List Seg)). SendsBy number m (with_stood place (Ok seat)) n) c.in-Some.ensures
    c.in-Ok.ensures.sends in
    let parcel : IsParcel p =
    subst (λ (place : Option (List Seg)). IsParcel (record { packet = stood place; seat = seat })) c.in-Some.ensures
    c.in-Ok.ensures.parcel in
    IsSent p (let none = c.if-out-ne0.false in omega (arith, none)) sends refl
    (under_way (slot_in m.labels number) m.worker n.worker p seat packet c.fill.new.self sends.sends refl parcel
    c.owned.ensures c.knows_desks.ensures c.segs-segs.ensures.packet c.in-Some.ensures
    (c.fill.ensures.segments ∙ ap length c.segs-segs.ensures.segs) c.fill.ensures.table c.fill.ensures.seat)
    (subst (λ (segs : List Seg). Writes segs c.args.places.now c.write.new.out) c.segs-segs.ensures.segs c.write.ensures)

-- there is room, and no part for the parcel
pub returns-then-part-lt2 : goal.returns-then-part-lt2
returns-then-part-lt2 c =
    NoPartLeft c.in-Some.packet.now (let none = c.if-out-ne0.false in omega (arith, none)) c.in-Some.ensures
    (omega (arith, c.if-places-segs.false, ap length c.segs-segs.ensures.segs))
    (let few = c.if-part-lt2.true in omega (arith, few, c.part.ensures)) refl
    (record { worker = refl; same = refl; unwritten = refl })
