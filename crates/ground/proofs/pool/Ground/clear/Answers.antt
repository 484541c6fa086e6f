use Rattle.std.proofs.Common.{◌≡◌, Some, sym, subst, rules}
use Rattle.step_core.specs.Views.{phase_at}
use Rattle.step_core.specs.declared.view.Phase.TheVariants.{TakenOut}
use Rattle.ground.specs.Seats.{Seated, view_with_slot}
use Rattle.ground.proofs.Calls.{sits, allowed, desk_placed}
use Rattle.ground.proofs.DeskSteps.{clears_desk}
use Rattle.ground.proofs.Phasing.{taken_at}
use Rattle.ground.proofs.pool.Ground.clear.Goals as goal

-- the word is one of the table, and the store keeps the rule
pub store-requires : goal.store-requires
store-requires c =
    let placed =
    desk_placed c.self.invariant c.self.view_is c.requires.desk c.desk_word-word.ensures in
    let phase =
    subst (λ (z : Seated). phase_at c.args.desk (view_with_slot z).work ≡ Some TakenOut)
    (sym c.seat.view_is) c.requires.phase in
    let stands = taken_at _ _ c.args.desk c.seat.invariant.1 phase in (
      search rules,
      placed.within,
      allowed (clears_desk _ _ _ _ c.args.desk _ stands.0 placed.at placed.below stands.1 stands.2
          (sits c.seat.invariant)),
    )
