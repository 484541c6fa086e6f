-- How the answer of an audit tells why a pool isn't settled. No public clause cites this module.
use Rattle.snapshot.specs.declared.fault.Fault.{Fault}
use Rattle.snapshot.specs.declared.fault.Fault.TheVariants.{OutOfMemory}
use Rattle.book.specs.declared.settling.Unsettled.{Unsettled}
use Rattle.book.specs.declared.twin_settling.TwinUnsettled.{TwinUnsettled}
use Rattle.book.specs.declared.twin_settling.TwinUnsettled.TheVariants as twin
use Rattle.book.specs.declared.settling.Unsettled.TheVariants.{OutOfMemory as NoMemory, Fault as HasFault}

-- a lack of memory is none of the pool's faults
abbrev pub cause_of : Fault → Unsettled
cause_of OutOfMemory = NoMemory
cause_of f = HasFault f

-- nor one of either of two pools
abbrev pub first_cause_of : Fault → TwinUnsettled
first_cause_of OutOfMemory = twin.OutOfMemory
first_cause_of f = twin.First f

abbrev pub second_cause_of : Fault → TwinUnsettled
second_cause_of OutOfMemory = twin.OutOfMemory
second_cause_of f = twin.Second f
