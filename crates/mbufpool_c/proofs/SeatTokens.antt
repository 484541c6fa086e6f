-- The machine values of a badge, of the seat of a parcel and of both, which have no bytes. Assumes
-- `Logic`.
use Rattle.std.proofs.Common.{◌≡◌, List, [], ◌∷◌, ◌++◌, refl, ap, ◌∙◌}
use seplogic.Ra.Ura.{Ura}
use mir.Val.{Val, vstruct, vcons, vnil, of_list}
use base.Logic.{ent, emp}
use types.Logic.{Logic, sem}
use denote.RattleType.{RattleType}
use denote.Laws.{Is}
use denote.Shadow.{makes_shadow}
use denote.Struct.Struct.{Struct}
use denote.Struct.Owning.{shape}
use Rattle.atomic_table.proofs.Fields.{token_val, pin_told}
use Rattle.ground.specs.contracts.known.Known.{the_row as known}
use Rattle.mbufpool_c.specs.contracts.parcel_seat.ParcelSeat as seat
use Rattle.mbufpool_c.specs.contracts.parcel_seat.Exchange as exchange
use denote.Param.Send.{IsSend}
use Rattle.atomic_table.proofs.Sent.{badge_keyless}

abbrev pub empty_val : Val
empty_val = vstruct vnil

abbrev pub SeatData : RattleType
SeatData = Struct (shape seat.the_type)

pub seat_made : {M : Type 1} {𝓤 : Ura M} (𝓛 : Logic 𝓤) → ent 𝓤 (emp 𝓤) (sem 𝓛 (SeatData.own_val tt (empty_val ∷ [])))
seat_made 𝓛 = makes_shadow 𝓛 (SeatData.own_val tt (empty_val ∷ [])) (λ vss. (tt, tt)) (tt, (refl, tt))

abbrev pub both_val : Val
both_val = vstruct (vcons token_val (vcons empty_val vnil))

pub told : (d : exchange.the_row.Denot) (vs : List Val) → Is exchange.the_row d vs → vs ≡ both_val ∷ []
told d vs is = is.1.0 ∙ ap (λ (ws : List Val). vstruct (of_list (ws ++ (is.0.1.0 ++ []))) ∷ []) (pin_told known is.0.0 is.1.1.0.0)
    ∙ ap (λ (ws : List Val). vstruct (of_list (token_val ∷ (ws ++ []))) ∷ []) is.1.1.1.0.0.1.0

-- the seat of a parcel may go to another thread
pub seat_send : IsSend seat.the_row
seat_send = record { owned = λ d vs. ((λ vss. (tt, tt)), λ id. badge_keyless known.coded.code d.table id d.views); leaving = λ k f vs. tt }
