use Rattle.std.proofs.Common.{◌≡◌, ◌-◌, ◌++◌, ◌∷◌, [], inr, arith, rules}
use Rattle.snapshot.proofs.Walks.{walked_more, walked_walk, walked_words, walked_ends, walked_over, walked_full}
use Rattle.snapshot.proofs.BrokenWalks.{broken-full, broken-over}
use Rattle.snapshot.proofs.walking.walk.Goals as goal

-- a word above the population is the only one, since the walk ends at it
pub returns-then-from-population-clause-first : goal.returns-then-from-population-clause-first
returns-then-from-population-clause-first c =
    inr (walked_over c.args.snapshot.now c.loop-word.elems.items c.loop-word.word c.requires.shape
    c.loop-word.invariant.walked
    (omega arith))

-- and says why the walk has no end
pub returns-then-from-population-clause-broken : goal.returns-then-from-population-clause-broken
returns-then-from-population-clause-broken c =
    inr (broken-over c.args.snapshot.now c.loop-word.elems.items c.loop-word.word c.loop-word.invariant.walked
    (omega arith))

-- one element more than there are makes a loop
pub returns-then-len-population-clause-first : goal.returns-then-len-population-clause-first
returns-then-len-population-clause-first c =
    inr (walked_full c.args.snapshot.now c.loop-word.elems.items c.loop-word.word c.requires.shape
    c.loop-word.invariant.walked
    (omega arith) (omega arith) (omega arith))

-- which says why too
pub returns-then-len-population-clause-broken : goal.returns-then-len-population-clause-broken
returns-then-len-population-clause-broken c =
    inr (broken-full c.args.snapshot.now c.loop-word.elems.items c.loop-word.word c.loop-word.invariant.walked
    (omega arith) (omega arith) (omega arith))

-- one element more was passed
pub loop-word-preserved : goal.loop-word-preserved
loop-word-preserved c =
    let items : c.push.new.self.items ≡ c.loop-word.elems.items ++ (c.loop-word.word - 1) ∷ [] = search rules in
    let links : c.as_slice-links.result.now ≡ c.args.snapshot.now.links = search rules in
    record {
      walked =
          rw (items, links) (walked_more c.args.snapshot.now c.loop-word.elems.items
          c.loop-word.word c.loop-word.invariant.walked (omega arith) (omega arith)
          (omega arith));
    }

-- the walk has ended at 0: these are its elements
pub returns-clause-walk : goal.returns-clause-walk
returns-clause-walk c =
    walked_walk c.args.snapshot.now c.loop-word.elems.items
    (rw c.loop-word-test.false at c.loop-word.invariant.walked)

-- none of its words is above the population
pub returns-clause-words : goal.returns-clause-words
returns-clause-words c = walked_words c.args.snapshot.now c.loop-word.elems.items
    (rw c.loop-word-test.false at c.loop-word.invariant.walked)

-- it has room in the population
pub returns-clause-ends : goal.returns-clause-ends
returns-clause-ends c =
    walked_ends c.args.snapshot.now c.loop-word.elems.items
    (rw c.loop-word-test.false at c.loop-word.invariant.walked)
