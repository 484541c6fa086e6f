-- The view names the worker and its site, so what the calls do through it is done to this site.
use Rattle.std.proofs.Common.{ℕ, ap, subst, rules}
use Rattle.commons.specs.Lists.{side_of}
use Rattle.commons.specs.declared.limits.Limits.{Limits}
use Rattle.mbuf.specs.Own.{Own}
use Rattle.commons.proofs.PlainCalls.{leaves_others, plainly}
use Rattle.share_book.specs.inside.Own.{OwnOnLists}
use Rattle.share_book.proofs.site_pool.act_alone.Goals as goal

-- the calls through the view are calls on the lists
pub returns-clause-calls : goal.returns-clause-calls
returns-clause-calls g c =
    let e = c.perform_in.ensures.calls in
    let p = plainly c.new-c.result e.0 c.perform_in.new.c e.1 in
    let same = p.same in
    let led = p.led in
    search (rules, same, led, e.2, c.new-c.ensures.same, c.new-c.ensures.now, c.new-c.ensures.worker)

-- the calls change neither the worker nor the pool's limits, and the packets are left its own
pub returns-clause-own : goal.returns-clause-own
returns-clause-own g c =
    let s = c.new-c.result in
    let t = c.perform_in.new.c.site.now in
    let e = c.perform_in.ensures.calls in
    let left = leaves_others s e.0 c.perform_in.new.c e.1 in
    let same = left.site in
    let workers = ap (λ (l : Limits). l.workers) left.sides.limits in
    let before : Own c.args.packets.now (side_of s.site.now s.worker) =
    rw (c.new-c.ensures.now, c.new-c.ensures.worker) c.requires.own.share in
    let owned : OwnOnLists t s.worker c.perform_in.new.packets = record {
      first = s.positive;
      last = rw workers s.of_pool;
      share = subst (λ (w : ℕ). Own c.perform_in.new.packets (side_of t w)) left.worker
          (c.perform_in.ensures.own before);
    } in
    search (rules, same, owned, c.new-c.ensures.same, c.new-c.ensures.worker)

-- and they leave what the others have
pub returns-clause-sides : goal.returns-clause-sides
returns-clause-sides g c =
    let e = c.perform_in.ensures.calls in
    let left = leaves_others c.new-c.result e.0 c.perform_in.new.c e.1 in
    let same = left.site in
    let sides = left.sides in
    search (rules, same, sides, c.new-c.ensures.same, c.new-c.ensures.now, c.new-c.ensures.worker)
