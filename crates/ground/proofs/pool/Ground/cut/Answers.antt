use Rattle.std.proofs.Common.{rules}
use Rattle.step_core.specs.Views.{MayCut}
use Rattle.ground.proofs.Calls.{of_view, sits, allowed}
use Rattle.ground.proofs.Stepping.{cuts}
use Rattle.ground.proofs.pool.Ground.cut.Goals as goal

-- the exchange keeps the rule
pub compare_exchange-found-requires : goal.compare_exchange-found-requires
compare_exchange-found-requires c =
    let may = of_view c.seat.view_is (λ v. MayCut v c.args.head c.args.next) c.requires.look in (
      search rules,
      search rules,
      allowed (cuts _ _ _ _ c.args.head c.args.next _ _ c.word_of-old.ensures c.word_of-new.ensures
          may (sits c.seat.invariant)),
    )
