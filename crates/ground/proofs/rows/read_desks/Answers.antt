use Rattle.std.proofs.Common.{◌≡◌, ◌++◌, ◌∷◌, [], List, drop, sym, ap, ◌∙◌, subst, rules}
use Rattle.std.specs.Slots.{slots_items}
use mathlib.Core.Option.{some}
use lib.ListN.{get_elem?}
use Rattle.ground.specs.Closing.{AreOnFullDesks}
use Rattle.ground.specs.Rule.{Slot}
use Rattle.ground.proofs.Closes.{drop_get, kept_more}
use Rattle.ground.proofs.rows.read_desks.Goals as goal

-- one desk more
pub loop-i-preserved : goal.loop-i-preserved
loop-i-preserved c =
    let inv = c.loop-i.invariant in
    let words = slots_items c.args.left.now.words in
    let slots = slots_items c.args.left.now.slots in
    let at_word : get_elem? (drop c.args.from words) c.loop-i.i ≡ some c.word-word.result =
    drop_get words c.args.from c.loop-i.i c.word-word.result (search rules) in
    let at_slot : get_elem? slots c.loop-i.i ≡ some c.take-slot.result = search rules in
    let more : AreOnFullDesks (drop c.args.from words) slots c.push_reserved.new.self.items =
    subst (λ (xs : List Slot). AreOnFullDesks (drop c.args.from words) slots xs)
    (sym (c.push_reserved.ensures.items
    ∙ ap (λ (y : Slot). c.loop-i.out.items ++ y ∷ []) c.kept_on.ensures))
    (kept_more (drop c.args.from words) slots c.loop-i.out.items c.loop-i.i c.word-word.result
    c.take-slot.result inv.5 at_word at_slot inv.8) in (
      search rules,
      search rules,
      search rules,
      search rules,
      search rules,
      search rules,
      search rules,
      search rules,
      more,
    )
