use Rattle.book.proofs.Causes.{memory_alone, memory_typed}
use Rattle.book.specs.Settling.{snapshot_with}
use Rattle.book.proofs.settling.settle.Goals as goal

-- a lawful snapshot has no fault that could be named
pub returns-in-Err-clause-memory : goal.returns-in-Err-clause-memory
returns-in-Err-clause-memory c = λ full lawful.
    let sound = (c.a_lawful_snapshot_has_no_fault.ensures.lawful (snapshot_with c.args.book c.args.closed)).0 lawful in
    memory_alone c.args.book c.args.closed c.in-Err.cause full sound c.in-Err.ensures.unsettled

-- nor does one that is lawful, given what types keep
pub returns-in-Err-clause-faultless : goal.returns-in-Err-clause-faultless
returns-in-Err-clause-faultless c = λ full lawful.
    memory_typed c.args.book c.args.closed c.in-Err.cause full lawful
    (λ s is. (c.a_lawful_snapshot_has_no_fault.ensures.lawful s).0 is) c.in-Err.ensures.unsettled
