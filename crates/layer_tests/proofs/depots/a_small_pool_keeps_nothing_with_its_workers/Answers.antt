use Rattle.std.proofs.Common.{sym, subst}
use Rattle.depot.specs.Lending.{AreOf}
use Rattle.depot.specs.declared.loans.Loans.{Loans}
use Rattle.layer_tests.proofs.depots.a_small_pool_keeps_nothing_with_its_workers.Goals as goal
use Rattle.layer_tests.proofs.depots.a_small_pool_keeps_nothing_with_its_workers.Goals.{in-Ok-one, in-Err}

-- the loans are the depot's, whether the first got an element or not
pub one_at_hand-at_hand-requires-clause-loans : goal.one_at_hand-at_hand-requires-clause-loans
one_at_hand-at_hand-requires-clause-loans g c =
    let are : Loans → Type 0 = AreOf c.in_ok-depot.depot in
    elim c.match-one.branch [
      | in-Ok-one w ↦ subst are (sym w.loans-is) w.put_one-put.ensures.loans
      | in-Err w ↦ subst are (sym w.loans-is) c.get-others.ensures.loans
    ]
