-- `blank` owns nothing.
use Rattle.std.proofs.Common.{◌≡◌, ℕ, [], ◌∷◌, refl}
use mir.Val.{Val}
use base.Logic.{SProp, emp}
use base.Fml.{ftrue}
use types.Kit.{‵, raw, ◌⊛◌, ◌$◌, ◌∵◌, !, qed, by, keep, split, fjoin, fpack, use0}
use types.Run.{no_more, returns, enter}
use types.ByLocal.{alloc_all, pass_all, free_all, look_at, sets}
use types.Part.{agg}
use contract.Monad.{fact, fact_i}
use contract.Running.{tables}
use denote.RattleType.{owns}
use denote.Signature.{types_at}
use denote.Steps.{nothing}
use denote.Triple.Walked.{Stays, walk_of}
use Rattle.std.proofs.raw_atomic.Walks.{proved_at, leaves}
use Rattle.atomic_table.specs.Seated.{TableId, badge_owns}
use Rattle.ground.specs.contracts.known.Known.{the_row as known}
use Rattle.mbufpool_c.proofs.SeatTokens.{SeatData, seat_made, empty_val}
use Rattle.mbufpool_c.specs.contracts.parcel_seat.ParcelSeat as seat
use Rattle.mbufpool_c.specs.contracts.parcel_seat.ParcelSeat.blank.{ended, clauses}
use Rattle.mbufpool_c.specs.contracts.parcel_seat.ParcelSeat.blank.Key.{name as #self}
use Rattle.mbufpool_c.proofs.parcel_seat.ParcelSeat.blank.Statement.{statement}
use Rattle.mbufpool_c.proofs.parcel_seat.ParcelSeat.blank.Code as code

pub blank_spec : {M : Type 1} → statement M
blank_spec 𝓤 𝓛 𝓜 𝓡 wired =
    let H = 𝓛.H in let 𝓣 = tables 𝓤 H 𝓜 𝓡 𝓡.env in let En = ended in let c = clauses 𝓛 𝓜.mem 𝓡.returns in let fn = code.function in
    let hs : Stays En.signature.params En.kept = tt in
    proved_at 𝓛 En hs c 𝓜 𝓡 tt #self fn (code.unfolded 𝓤 H 𝓜 𝓡 wired) (λ z are.
    let Post : Val → SProp 𝓤 = (walk_of 𝓛 En hs c).post z in
    qed 𝓛 ((‵ ftrue ⊛ ‵ (owns (types_at En.signature.params z.0.0) z.0.3 z.0.4)) ∷ raw ((c z.0.0 z.0.3).requires z.1) ∷ []) ∵ split ! $ enter ! 𝓣.C 𝓣.Λ fn [] Post $ alloc_all ! (λ l. pass_all ! refl tt $
    sets ! (agg ! (no_more !)) refl (tt, tt) $
    let t : TableId = record { words = 0; slots = 0; views_name = 0; atom = 0; block = 0; offset = 0; slot_names = [] } in
    let r : seat.the_row.Denot = record { table = t; views = [] } in let Told : Type 0 = r.views ≡ [] in
    nothing ! $ fpack ! ℕ (λ id. badge_owns known.coded.code t id []) 0 $ use0 𝓛 (‵ (SeatData.own_val tt (empty_val ∷ []))) (seat_made 𝓛) $ fjoin ! $
    use0 𝓛 (raw (fact 𝓤 Told)) (fact_i 𝓤 Told (emp 𝓤) refl) $ nothing ! $
    returns ! (look_at ! 0 refl) $ free_all ! refl $ keep ! (3 ∷ 0 ∷ 2 ∷ 1 ∷ []) $ by ! (leaves 𝓛 En hs c z empty_val r tt tt)))
