-- What is before a fault that isn't told is told.
use Rattle.snapshot.proofs.ToldLaws.{told-first}
use Rattle.snapshot.proofs.laws.the_first_told_fault_is_the_audits.Goals as goal

pub returns : goal.returns
returns c = record { first = told-first }
