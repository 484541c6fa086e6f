use Rattle.std.proofs.Common.{◌≡◌, ◌∙◌, refl, rules, ap, sym, subst, length, arith}
use Rattle.commons.specs.Bounds.{IsPool}
use Rattle.ground.specs.Opening.{opening_words}
use Rattle.ground.proofs.Calls.{Keeps}
use Rattle.ground.proofs.Opens.{opens, length_words, owned_none}
use Rattle.ground.proofs.pool.Ground.make.Goals as goal
use Rattle.step_core.specs.World.{every_part}

-- the rule holds of the words at the start
pub vacant-requires : goal.vacant-requires
vacant-requires c =
    opens c.args.limits.now (search rules) c.as_slice.result.now (search rules)

-- there are this many words
pub invariant_of-ground : goal.invariant_of-ground
invariant_of-ground c =
    let e = c.in-Ok-vacant.ensures in
    let is : c.as_slice.result.now ≡ opening_words c.args.limits.now = search rules in
    (e.0 ∙ (ap length is ∙ length_words c.args.limits.now), search rules, search rules, search rules)

-- the first seat names nothing
pub invariant_of-result : goal.invariant_of-result
invariant_of-result c =
    let l = c.args.limits.now in
    let pool : IsPool l = search rules in
    let e = c.in-Ok-vacant.ensures in
    subst Keeps (sym e.4)
    (owned_none l (every_part l) pool (let some = pool.workers_low in omega arith) (omega arith), refl, λ _. refl)
