use Rattle.std.proofs.Common.{◌≡◌, ◌≤◌, ◌+◌, ◌-◌, Some, arith}
use Rattle.std.proofs.lemmas.List.Elements.{All-pop}
use Rattle.ground.specs.Seats.{Grounded}
use Rattle.mbufpool_c.proofs.SharedLemmas.{gathered_all, gathered_more}
use Rattle.mbufpool_c.proofs.closing.gathered.Goals as goal

-- one more entry is passed
pub loop-k-preserved : goal.loop-k-preserved
loop-k-preserved c =
    let g = c.args.ground.now in
    let all = c.limits-count.result.workers in
    let split =
    All-pop (λ (tag : Grounded). tag ≡ g) c.loop-k.entries.items c.pop.new.self.items (Some c.in_ok-entry.entry)
    c.in_ok-entry.ensures.items c.loop-k.invariant.entries in
    let next : all - c.loop-k.k ≡ (all - (c.loop-k.k + 1)) + 1 = omega (arith, c.loop-k-test.true) in
    let low : all - c.loop-k.k ≤ g.limits.workers = omega (arith, c.loop-k.invariant.all) in
    record {
      entries = split.0;
      above =
          gathered_more g c.in_ok-entry.entry (all - (c.loop-k.k + 1)) (all - c.loop-k.k) c.loop-k.workers.items
          c.gather.new.workers.items c.loop-k.missing.items c.gather.new.missing.items split.1 next low
          c.loop-k.invariant.above c.in-Ok.ensures;
      all = c.loop-k.invariant.all;
    }

-- all entries are passed
pub returns : goal.returns
returns c =
    let last : c.limits-count.result.workers - c.loop-k.k ≡ 0 = omega (arith, c.loop-k-test.false) in
    gathered_all c.args.ground.now (c.limits-count.result.workers - c.loop-k.k) c.loop-k.workers.items
    c.reverse.new.self.items c.loop-k.missing.items last c.reverse.ensures.items c.loop-k.invariant.above
