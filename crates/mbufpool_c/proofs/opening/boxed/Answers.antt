use Rattle.std.proofs.Common.{◌++◌, ◌∷◌, [], Box, Global, List, Some, length, length-append, map, reverse, arith, ap, ◌∙◌, sym}
use Rattle.std.proofs.lemmas.List.{map-append}
use Rattle.std.proofs.lemmas.List.Elements.{All-pop}
use Rattle.word_pool.specs.Workers.{WorkerState, IsAt}
use Rattle.mbufpool_c.specs.Labelled.{Labelled, newly}
use Rattle.mbufpool_c.specs.declared.workers.OwnWorker.{OwnWorker}
use Rattle.mbufpool_c.proofs.SharedLemmas.{last_number}
use Rattle.mbufpool_c.proofs.OpenLemmas.{goes_over}
use Rattle.mbufpool_c.proofs.opening.boxed.Goals as goal

-- the last of those who are left has the number of all
pub owned-requires-clause-number : goal.owned-requires-clause-number
owned-requires-clause-number c =
    let last =
    last_number c.loop-worker.workers.items c.pop.new.self.items c.in-Some.worker c.in-Some.ensures.items
    c.loop-worker.invariant.numbers in
    omega (arith, c.len-in-Some.ensures, c.pop.new.self.ok, last.0)

-- it goes over to those on the heap
pub loop-worker-preserved : goal.loop-worker-preserved
loop-worker-preserved c =
    let worker_in : Box OwnWorker Global → Labelled = λ own. own.value in
    let left = c.loop-worker.workers.items in
    let rest = c.pop.new.self.items in
    let last = last_number left rest c.in-Some.worker c.in-Some.ensures.items c.loop-worker.invariant.numbers in
    let more = ap (λ (ms : List WorkerState). length ms) c.in-Some.ensures.items in
    record {
      each =
          (All-pop (IsAt c.args.shared.now.value) left rest (Some c.in-Some.worker) c.in-Some.ensures.items
          c.loop-worker.invariant.each).0;
      numbers = last.1;
      few = omega (arith, c.loop-worker.invariant.few, more, length-append rest (c.in-Some.worker ∷ []));
      split =
          goes_over worker_in (map newly c.args.workers.items) (map newly left) (map newly rest) (newly c.in-Some.worker)
          c.loop-worker.boxes.items c.in_ok-owned.field-0 c.loop-worker.invariant.split
          (ap (λ (ms : List WorkerState). map newly ms) c.in-Some.ensures.items ∙ map-append newly rest (c.in-Some.worker ∷ []))
          c.in_ok-owned.ensures
          ∙ ap (λ (own : List (Box OwnWorker Global)). map newly rest ++ reverse (map worker_in own)) (sym c.in_ok-push.ensures.items);
    }
