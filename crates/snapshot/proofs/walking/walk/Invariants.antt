use Rattle.std.proofs.Common.{◌-◌, length}
use Rattle.snapshot.proofs.Walks.{Walked}
use Rattle.snapshot.proofs.walking.walk.Given as goal

-- the elements so far are those that are met before the word
abbrev pub invariant-loop-word : goal.invariant-loop-word
invariant-loop-word l = record {
  walked : Walked l.snapshot l.elems.items l.word;
}

-- the elements that there is room for
abbrev pub decreases-loop-word : goal.decreases-loop-word
decreases-loop-word l = l.population - length l.elems.items
