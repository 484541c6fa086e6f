use Rattle.std.proofs.Common.{rules, ◌≡◌, ◌∙◌, ℕ, List, [], replicate, length, ap, sym, subst, arith}
use Rattle.std.proofs.lemmas.List.{length-replicate}
use Rattle.atomic_table.specs.Table.{opening}
use Rattle.depot.specs.Opening.{opening_words}
use Rattle.depot.specs.Rule.{Ruled, first_view}
use Rattle.depot.specs.declared.view.Shape.{Shape}
use Rattle.depot.proofs.Opens.{opens, opening-length}
use Rattle.depot.proofs.depot.Depot.make_seat.Goals as goal

-- the rule holds at the start
pub new-requires : goal.new-requires
new-requires c =
    let many = c.args.size.magazines in
    let places = c.from.result in
    let words : c.as_slice.result.now ≡ opening_words many places = search rules in
    let slots : c.in_ok-slots.slots.items ≡ replicate many [] = search rules in
    let p : Shape = record { population = c.args.population; rounds = c.args.size.rounds; places = places } in
    subst (λ (ws : List ℕ). Ruled p (opening ws c.in_ok-slots.slots.items (first_view p))) (sym words)
    (subst (λ (xs : List (List ℕ)). Ruled p (opening (opening_words many places) xs (first_view p))) (sym slots)
    (opens p many c.requires.magazines))

-- there are so many words and magazines
pub invariant_of-depot : goal.invariant_of-depot
invariant_of-depot c =
    let many = c.args.size.magazines in
    let places = c.args.places in
    let words : c.as_slice.result.now ≡ opening_words many places = search rules in
    let slots : c.in_ok-slots.slots.items ≡ replicate many [] = search rules in
    let e = c.in-Ok.ensures.ok in
    let w = e.0 ∙ ap (λ (ws : List ℕ). length ws) words ∙ opening-length many places in
    let s = e.1 ∙ ap (λ (xs : List (List ℕ)). length xs) slots ∙ length-replicate many [] in
    let few = c.requires.magazines in
    (w ∙ omega arith, omega arith, search rules, c.requires.some_rounds, c.requires.few_rounds)
