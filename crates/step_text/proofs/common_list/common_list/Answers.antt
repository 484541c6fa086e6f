use Rattle.std.proofs.Common.{ℕ, ◌-◌, ◌<◌, List, [], ◌∷◌, ◌++◌, length, get_or, subst, sym, ap}
use Rattle.step_text.proofs.CommonLemmas.{Followed, from_the_top, next_of_pool, followed_on, followed_whole}
use Rattle.step_text.proofs.common_list.common_list.Goals as goal

-- nothing was followed yet
pub loop-next-init : goal.loop-next-init
loop-next-init c = record {
  followed =
      from_the_top c.args.world.now c.links-links.ensures.world c.new-list.result.items
      c.new-list.ensures.items c.head-next.result.top (ap (λ h. h.top) c.head-next.ensures.head);
  links = c.links-links.ensures.links;
}

-- the value is that of an element of the pool
pub bounds-links-next : goal.bounds-links-next
bounds-links-next c =
    subst (λ (links : List ℕ). c.loop-next.next - 1 < length links) (sym c.loop-next.invariant.links)
    (next_of_pool c.args.world.now c.loop-next.list.items c.loop-next.next c.loop-next-test.true
    c.loop-next.invariant.followed)

-- one element more, and its link
pub loop-next-preserved : goal.loop-next-preserved
loop-next-preserved c = record {
  followed =
      subst (λ (xs : List ℕ). Followed c.args.world.now xs
      (get_or c.links-links.result.now (c.loop-next.next - 1) 0))
      (sym c.in_ok-push.ensures.items)
      (subst (λ (links : List ℕ). Followed c.args.world.now
      (c.loop-next.list.items ++ (c.loop-next.next - 1) ∷ [])
      (get_or links (c.loop-next.next - 1) 0)) (sym c.loop-next.invariant.links)
      (followed_on c.args.world.now c.loop-next.list.items c.loop-next.next c.loop-next-test.true
      c.loop-next.invariant.followed));
  links = c.loop-next.invariant.links;
}

-- the value is the end
pub returns : goal.returns
returns c =
    followed_whole c.args.world.now c.loop-next.list.items c.loop-next.next c.loop-next-test.false
    c.loop-next.invariant.followed
