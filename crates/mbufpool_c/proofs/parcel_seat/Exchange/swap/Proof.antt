-- `swap` moves what the badge owns to the seat in the hands of C, and what that owned to the badge.
use Rattle.std.proofs.Common.{◌≡◌, ℕ, List, [], ◌∷◌, ◌++◌, refl}
use mir.Val.{Val}
use base.Logic.{SProp, emp}
use base.Fml.{ftrue}
use prog.Wp.{WpFn}
use types.Kit.{‵, raw, ◌⊛◌, prop, ◌$◌, ◌∵◌, !, qed, by, move, keep, drop, split, fsplit, fjoin, fpick, fpack, rewrite, regoal, use0}
use types.Run.{of_opd, returns, enter}
use types.ByLocal.{alloc_all, pass_all, free_all, look_at, get, sets}
use contract.Monad.{fact as says, fact_i}
use contract.Running.{tables}
use denote.Exit.{yes}
use denote.RattleType.{owns, Valss}
use denote.Signature.{types_at, plain}
use denote.Steps.{nothing}
use denote.Struct.Struct.{within}
use denote.Struct.Declared.{shape}
use denote.Triple.Walked.{Stays, walk_of, stay_dropped}
use Rattle.std.proofs.alloc.Calls.{Goes-blank}
use Rattle.std.proofs.raw_atomic.Walks.{proved_at, leaves}
use Rattle.atomic_table.specs.Seated.{badge_owns}
use Rattle.ground.specs.contracts.known.Known.{the_row as known}
use Rattle.mbufpool_c.specs.contracts.parcel_seat.Exchange as exchange
use Rattle.mbufpool_c.proofs.SeatTokens.{both_val, told}
use Rattle.mbufpool_c.specs.contracts.parcel_seat.Exchange.swap.{ended, clauses}
use Rattle.mbufpool_c.specs.contracts.parcel_seat.Exchange.swap.Key.{name as #self}
use Rattle.mbufpool_c.proofs.parcel_seat.Exchange.swap.Statement.{statement}
use Rattle.mbufpool_c.proofs.parcel_seat.Exchange.swap.Code as code

pub swap_spec : {M : Type 1} → statement M
swap_spec 𝓤 𝓛 𝓜 𝓡 wired =
    let H = 𝓛.H in let 𝓣 = tables 𝓤 H 𝓜 𝓡 𝓡.env in let En = ended in let c = clauses 𝓛 𝓜.mem 𝓡.returns in let fn = code.function in
    let X = exchange.the_row in let hs : Stays En.signature.params En.kept = (stay_dropped (plain (λ _. X)) yes, tt) in
    proved_at 𝓛 En hs c 𝓜 𝓡 (Goes-blank 𝓛 0 (plain (λ _. X)) yes (λ κs x f. tt), tt) #self fn (code.unfolded 𝓤 H 𝓜 𝓡 wired) (λ z are.
    let Post : Val → SProp 𝓤 = (walk_of 𝓛 En hs c).post z in let d : X.Denot = z.0.3.0 in let vs : List Val = z.0.4.0 in let is = told d vs are.0 in
    qed 𝓛 ((‵ ftrue ⊛ ‵ (owns (types_at En.signature.params z.0.0) z.0.3 z.0.4)) ∷ raw ((c z.0.0 z.0.3).requires z.1) ∷ []) ∵ split ! $ move ! (2 ∷ []) $ drop ! $
    move ! (1 ∷ []) $ fsplit ! $ fpick ! (λ vss. fsplit ! $ move ! (1 ∷ []) $ fsplit ! $
    -- [the badge; the seat; the values; nothing; nothing]
    fsplit ! $ move ! (2 ∷ []) $ fsplit ! $ fsplit ! $
    -- [data and views of the seat; nothing; data and view of the badge; the values; nothing;
    -- nothing]
    move ! (1 ∷ []) $ fpick ! (λ id.
    let d' : X.Denot = record { badge = record d.badge { table_id = d.seat.table; id = id; views = d.seat.views }; seat = record { table = d.badge.table_id; views = d.badge.views } } in
    let Told : Type 0 = (d'.badge.table_id ≡ d.seat.table) × (d'.badge.views ≡ d.seat.views) × (d'.seat ≡ record { table = d.badge.table_id; views = d.badge.views }) in
    move ! (4 ∷ []) $ fpack ! ℕ (λ i. badge_owns known.coded.code d.badge.table_id i d.badge.views) d.badge.id $
    move ! (2 ∷ 0 ∷ []) $ fjoin ! $ move ! (0 ∷ 2 ∷ []) $ fjoin ! $
    move ! (2 ∷ 1 ∷ []) $ fjoin ! $ fjoin ! $ move ! (1 ∷ 0 ∷ []) $ fjoin ! $
    fpack ! (Valss (shape exchange.the_type).fields) (within (shape exchange.the_type) (exchange.the_type.to d') vs) vss $
    rewrite ! 0 (λ (us : List Val). ‵ (X.own_val d' us)) is refl $ regoal ! (λ (us : List Val). prop (WpFn 𝓤 H 𝓣.C 𝓣.Λ fn us Post)) (λ i. is i ++ []) refl $
    enter ! 𝓣.C 𝓣.Λ fn (both_val ∷ []) Post $ alloc_all ! (λ k. pass_all ! refl ((tt, ((tt, tt), (tt, tt))), tt) $
    sets ! (of_opd ! (get ! refl)) refl (tt, ((tt, tt), (tt, tt))) $
    use0 𝓛 (raw (says 𝓤 Told)) (fact_i 𝓤 Told (emp 𝓤) (refl, refl, refl)) $ nothing ! $ nothing ! $ fjoin ! $
    returns ! (look_at ! 0 refl) $ free_all ! refl $ keep ! (4 ∷ 0 ∷ 2 ∷ 1 ∷ []) $ by ! (leaves 𝓛 En hs c z both_val d' ((tt, (tt, tt)), tt) (tt, tt))))))
