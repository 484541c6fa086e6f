use Rattle.book.proofs.Causes.{twin_memory_alone, twin_memory_typed}
use Rattle.book.specs.TwinSettling.{first_with, second_with}
use Rattle.book.proofs.twin_settling.settle_twin.Goals as goal

-- lawful snapshots have no fault that could be named
pub returns-in-Err-clause-memory : goal.returns-in-Err-clause-memory
returns-in-Err-clause-memory c = λ full one two.
    let faultless = c.a_lawful_snapshot_has_no_fault.ensures.lawful in
    twin_memory_alone c.args.book c.args.first c.args.second c.in-Err.cause full
    ((faultless (first_with c.args.book c.args.first)).0 one)
    ((faultless (second_with c.args.book c.args.second)).0 two) c.in-Err.ensures.unsettled

-- nor do those that are lawful, given what types keep
pub returns-in-Err-clause-faultless : goal.returns-in-Err-clause-faultless
returns-in-Err-clause-faultless c = λ full one two.
    twin_memory_typed c.args.book c.args.first c.args.second c.in-Err.cause full one two
    (λ s is. (c.a_lawful_snapshot_has_no_fault.ensures.lawful s).0 is) c.in-Err.ensures.unsettled
