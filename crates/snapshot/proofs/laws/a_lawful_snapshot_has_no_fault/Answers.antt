-- Each part of the law rules one kind of fault out, and each is decidable.
use Rattle.snapshot.proofs.Lawful.{lawful_faultless}
use Rattle.snapshot.proofs.laws.a_lawful_snapshot_has_no_fault.Goals as goal

-- the law in both directions
pub returns : goal.returns
returns c = record { lawful = lawful_faultless }
