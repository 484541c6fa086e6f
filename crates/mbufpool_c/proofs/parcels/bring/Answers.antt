use Rattle.std.proofs.Common.{◌≡◌, [], ◌∷◌, refl, sym, ap, ◌∙◌}
use Rattle.commons.specs.Refusals.{number_of}
use Rattle.ground.specs.Seats.{Seated}
use Rattle.word_pool.specs.Parcels.{Parcelled}
use Rattle.mbufpool_c.specs.Parcels.{IsReceived, NoSlotFree}
use Rattle.mbufpool_c.proofs.ParcelLemmas.{not_received, same_parcel, some_segments, under_way_by}
use Rattle.mbufpool_c.proofs.parcels.bring.Goals as goal

-- the packet was under way by the seat that was taken out, and stands in a slot
pub returns-in-Ok : goal.returns-in-Ok
returns-in-Ok c =
    let p : Parcelled = record { packet = c.args.segs.now; seat = c.take.result } in
    IsReceived p c.in-Ok.slot
    (under_way_by c.args.own.now.worker c.requires.0 c.args.parcel.now c.args.segs.now c.take.result c.requires.1
    c.requires.2 c.take.ensures.table c.take.ensures.seat c.take.ensures.slots)
    c.in-Ok.ensures refl c.take.ensures.segments c.take.ensures.left c.label.ensures

-- or no slot was free, and the parcel has its seat again
pub returns-in-Err : goal.returns-in-Err
returns-in-Err c =
    let p : Parcelled = record { packet = c.args.segs.now; seat = c.take.result } in
    let same : Parcelled = record { packet = c.args.segs.now; seat = c.in-Err.seat } in
    let back = not_received p same c.args.own.now c.receive.new.self c.in-Err.cause c.in-Err.ensures in
    let seated : c.in-Err.seat ≡ c.take.result = ap (λ (x : Parcelled). x.seat) back.2 in
    NoSlotFree (some_segments c.args.own.now.worker c.requires.0 c.args.parcel.now c.requires.1) back.0
    (c.number.ensures ∙ ap number_of back.1) back.3
    (same_parcel c.fill.new.self c.args.parcel.now c.fill.ensures.segments
    (c.fill.ensures.table ∙ ap (λ (x : Seated). x.table) seated ∙ c.take.ensures.table)
    (c.fill.ensures.seat ∙ ap (λ (x : Seated). x.known ∷ []) seated ∙ sym c.take.ensures.seat))
    refl
