use Rattle.std.proofs.Common.{◌≡◌, ◌++◌}
use Rattle.snapshot.specs.Snapshots.{elements_of, walk, words_from}
use Rattle.audit_text.proofs.walking.walk.Given as goal

-- the elements so far, with those from the word on, are those of the walk
abbrev pub invariant-loop-word : goal.invariant-loop-word
invariant-loop-word l =
    l.elems.items
    ++ elements_of l.snapshot.limits.population
    (words_from l.left l.snapshot.limits.population l.snapshot.links l.word)
    ≡ walk l.snapshot

abbrev pub decreases-loop-word : goal.decreases-loop-word
decreases-loop-word l = l.left
