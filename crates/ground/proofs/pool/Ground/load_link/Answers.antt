use Rattle.std.proofs.Common.{◌≡◌, true, rules}
use Rattle.step_core.specs.Views.{walks_to}
use Rattle.ground.proofs.Calls.{of_view, sits, allowed, link_within}
use Rattle.ground.proofs.Stepping.{loads_link, next_inside}
use Rattle.ground.proofs.pool.Ground.load_link.Goals as goal

-- the word is one of the table, and the load keeps the rule
pub load-requires : goal.load-requires
load-requires c =
    let at = c.link_word.ensures in
    let inside = next_inside _ _ c.args.element c.owned.ensures c.requires.next in
    let may =
    of_view c.seat.view_is (λ v. walks_to v.look c.args.element ≡ true) c.requires.next in (
      search rules,
      link_within c.self.invariant c.self.view_is c.requires.of inside at,
      allowed (loads_link _ _ _ _ c.args.element _ at may (sits c.seat.invariant)
          c.seat.invariant.0),
    )
