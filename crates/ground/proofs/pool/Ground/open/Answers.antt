use Rattle.std.proofs.Common.{sym, subst, rules}
use Rattle.ground.specs.DeskSeats.{MayOpen}
use Rattle.ground.specs.Seats.{Seated, view_with_slot}
use Rattle.ground.proofs.Calls.{sits, allowed, desk_placed}
use Rattle.ground.proofs.DeskSteps.{opens_desk}
use Rattle.ground.proofs.Phasing.{filled_at}
use Rattle.ground.proofs.pool.Ground.open.Goals as goal

-- the word is one of the table, and the store keeps the rule
pub store-requires : goal.store-requires
store-requires c =
    let placed =
    desk_placed c.self.invariant c.self.view_is c.requires.desk c.desk_word-word.ensures in
    let may =
    subst (λ (z : Seated). MayOpen c.args.desk (view_with_slot z)) (sym c.seat.view_is)
    c.requires.may in
    let stands = filled_at _ _ c.args.desk may.packet c.seat.invariant.1 may.phase in (
      search rules,
      placed.within,
      allowed (opens_desk _ _ _ _ c.args.desk _ may.packet placed.at placed.below stands.0 stands.1
          stands.2 may.held may.owned (sits c.seat.invariant)),
    )
