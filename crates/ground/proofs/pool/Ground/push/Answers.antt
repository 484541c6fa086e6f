use Rattle.std.proofs.Common.{rules}
use Rattle.step_core.specs.Views.{MayPush}
use Rattle.ground.proofs.Calls.{of_view, sits, allowed}
use Rattle.ground.proofs.Stepping.{pushes}
use Rattle.ground.proofs.pool.Ground.push.Goals as goal

-- the exchange keeps the rule
pub compare_exchange-found-requires : goal.compare_exchange-found-requires
compare_exchange-found-requires c =
    let may = of_view c.seat.view_is (λ v. MayPush v c.args.head c.args.first) c.requires.look in (
      search rules,
      search rules,
      allowed (pushes _ _ _ _ c.args.head c.args.first _ _ c.word_of-old.ensures
          c.word_of-new.ensures may (sits c.seat.invariant)),
    )
