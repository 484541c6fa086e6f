use Rattle.std.proofs.Common.{◌≡◌, None, rules}
use Rattle.ground.proofs.Calls.{of_view, sits, allowed, desk_placed}
use Rattle.ground.proofs.DeskSteps.{seizes_desk}
use Rattle.ground.proofs.pool.Ground.seize.Goals as goal

-- the word is one of the table, and the exchange keeps the rule
pub compare_exchange-found-requires : goal.compare_exchange-found-requires
compare_exchange-found-requires c =
    let placed =
    desk_placed c.self.invariant c.self.view_is c.requires.desk c.desk_word-word.ensures in
    let idle = of_view c.seat.view_is (λ v. v.work ≡ None) c.requires.idle in (
      search rules,
      placed.within,
      allowed (seizes_desk _ _ _ _ c.args.desk _ placed.at placed.below idle
          (sits c.seat.invariant)),
    )
