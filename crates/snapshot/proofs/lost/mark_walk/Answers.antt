use Rattle.std.proofs.Common.{◌+◌, ◌-◌, rules, arith}
use Rattle.snapshot.proofs.Marks.{walking-full, walking-more, walking-none, walking-over, walking-zero}
use Rattle.snapshot.proofs.lost.mark_walk.Goals as goal
use Rattle.snapshot.proofs.lost.mark_walk.Goals.{then-word-eq0-via-then-word-eq0, then-word-eq0-via-else-word-eq0+then-from-population}

-- nothing is marked yet
pub loop-init : goal.loop-init
loop-init c =
    walking-none c.args.population c.args.links.now c.args.top (c.args.population + 1 - 0) c.args.met.now.items
    (omega arith)

-- the walk has ended, or has left the pool
pub returns-then-word-eq0 : goal.returns-then-word-eq0
returns-then-word-eq0 c =
    elim c.then-word-eq0.branch [
      | then-word-eq0-via-then-word-eq0 w ↦
          walking-zero c.args.population c.args.links.now c.args.top c.args.met.now.items c.loop.met.items
          (c.args.population + 1 - c.loop.counter) c.loop.word c.loop.invariant (search rules)
      | then-word-eq0-via-else-word-eq0+then-from-population w ↦
          walking-over c.args.population c.args.links.now c.args.top c.args.met.now.items c.loop.met.items
          (c.args.population + 1 - c.loop.counter) c.loop.word c.loop.invariant (omega arith)
    ]

-- one element more is marked
pub loop-preserved : goal.loop-preserved
loop-preserved c =
    walking-more c.args.population c.args.links.now c.args.top c.args.met.now.items c.loop.met.items
    c.mark.new.met.items (c.args.population + 1 - c.loop.counter) (c.args.population + 1 - (c.loop.counter + 1))
    c.loop.word (c.loop.word - 1) c.link_of-word.result c.loop.invariant c.mark.ensures (omega arith) (omega arith)
    (omega arith) (omega arith) (omega arith) c.link_of-word.ensures

-- it has one element more than the population
pub returns : goal.returns
returns c =
    walking-full c.args.population c.args.links.now c.args.top c.args.met.now.items c.loop.met.items
    (c.args.population + 1 - c.loop.counter) c.loop.word c.loop.invariant (omega arith)
