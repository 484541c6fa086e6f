-- Each worker is left the same by its call, so they are of the crew.
use Rattle.std.proofs.Common.{slice_index_or, subst}
use Rattle.word_pool.specs.Workers.{AllAreSame, IsSameWorker, WorkerState}
use Rattle.word_tests.proofs.tests.parcels.pass.Goals as goal

pub returns : goal.returns
returns g c =
    let same : AllAreSame c.args.workers.now c.for_each_mut.new.s = record {
      as_many = c.for_each_mut.auto.s;
      each = λ i d l.
          let changed = (c.for_each_mut.ensures i d l).1 in
          subst (λ (x : WorkerState). IsSameWorker x (slice_index_or c.for_each_mut.new.s i d)) changed.argument_is
          (subst (λ (x : WorkerState). IsSameWorker changed.argument.now x) changed.left changed.call);
    } in
    c.workers_who_send_and_receive_are_its_crew.ensures.same c.args.ground.now c.args.workers.now c.for_each_mut.new.s
    c.requires.crew same
