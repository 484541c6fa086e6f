use Rattle.snapshot_json.specs.Doubles.{AreFirst, IsLeastOf}
use Rattle.snapshot_json.proofs.stack.doubled.Given as goal

-- where elements stand first, and which is the least that stands twice so far
abbrev pub invariant-loop-index : goal.invariant-loop-index
invariant-loop-index l = record {
  places : AreFirst l.common l.index l.population l.places.items;
  least : IsLeastOf l.common l.index l.least;
}
