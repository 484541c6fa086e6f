use Rattle.std.proofs.Common.{ℕ, List, refl, rules, subst}
use Rattle.snapshot.specs.AllFaults.{AreAllFaults, IsToldOn}
use Rattle.tasks.proofs.listing.of_list.Goals as goal

-- the stack is the list
pub returns-in-Ok-clause-listed : goal.returns-in-Ok-clause-listed
returns-in-Ok-clause-listed c = record {
  snapshot = refl;
  stack = refl;
  pool = search rules;
  faults = subst (λ (xs : List ℕ). AreAllFaults (IsToldOn xs c.args.repeats.snapshot) c.in-Ok.faults.items)
      c.as_slice.ensures c.in-Ok.ensures;
}
