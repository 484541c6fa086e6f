use Rattle.std.proofs.Common.{◌≡◌, length}
use Rattle.depot.specs.Lending.{AreOf, IsWorker}
use Rattle.layer_tests.proofs.depots.drain.Given as goal

abbrev pub invariant-loop : goal.invariant-loop
invariant-loop l =
    IsWorker l.fn.depot l.worker × AreOf l.fn.depot l.loans × (length l.out ≡ 128)
