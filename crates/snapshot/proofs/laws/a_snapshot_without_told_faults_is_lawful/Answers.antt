-- A fault is told, or another one before it.
use Rattle.snapshot.proofs.ToldLaws.{lawful-told, told-none}
use Rattle.snapshot.proofs.laws.a_snapshot_without_told_faults_is_lawful.Goals as goal

pub returns-clause-lawful : goal.returns-clause-lawful
returns-clause-lawful c = told-none

pub returns-clause-none : goal.returns-clause-none
returns-clause-none c = lawful-told
