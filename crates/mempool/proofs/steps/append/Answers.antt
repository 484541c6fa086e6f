use Rattle.std.proofs.Common.{◌≡◌, ◌++◌, ◌∙◌, ℕ, List, sym, ap, arith, rules}
use Rattle.commons.proofs.Bags.{bag-append}
use Rattle.mempool.proofs.Singles.{one_alone}
use Rattle.mempool.proofs.steps.append.Goals as goal

-- The list has one element, and that was pushed.
pub returns-then-list-eq1 : goal.returns-then-list-eq1
returns-then-list-eq1 c =
    let cache = c.args.cache.now.items in
    let items : c.push_reserved.new.self.items ≡ cache ++ c.args.list.now =
    c.push_reserved.ensures.items ∙ ap (λ (xs : List ℕ). cache ++ xs) (sym (one_alone c.args.list.now c.if-list-eq1.true)) in
    record {
      items = items;
      len = omega arith;
      capacity = search rules;
      bag = λ i. rw items (bag-append cache c.args.list.now i);
    }
