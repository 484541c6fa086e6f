use Rattle.std.proofs.Common.{◌<◌, rules, arith, sym, subst}
use Rattle.ground.specs.Rule.{Sat}
use Rattle.ground.proofs.Joining.{merges, looks}
use Rattle.ground.proofs.life.merge.Goals as goal

-- the rule stands once the two are one
pub join_seat-requires : goal.join_seat-requires
join_seat-requires c = (
  c.requires.of,
  c.requires.other_of,
  c.requires.slots,
  c.requires.words,
  merges _ _ _ _ _ c.requires.part c.requires.rest c.requires.other_rest,
)

-- the one has a part, and the load changes nothing
pub load-requires : goal.load-requires
load-requires c =
    let e = c.join_seat.ensures in
    let part = c.requires.part in (
      search rules,
      c.requires.words,
      looks _ _ _ _ (subst (λ (m : Sat). 0 < m.0.view.part) (sym e.2) (omega arith)),
    )
