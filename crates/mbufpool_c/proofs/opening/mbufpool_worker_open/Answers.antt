use Rattle.std.proofs.Common.{◌≡◌, Box, Global, List, map, reverse, subst, sym, ap, ◌∙◌}
use Rattle.commons.specs.declared.limits.Limits.{Limits}
use Rattle.commons.specs.declared.refusal.Refusal.TheVariants.{BadPool}
use Rattle.word_pool.specs.Workers.{WorkerState}
use Rattle.mbufpool_c.specs.Labelled.{newly}
use Rattle.mbufpool_c.specs.Opens.{IsNewCrew, pool_limits}
use Rattle.mbufpool_c.specs.declared.workers.OwnWorker.{OwnWorker}
use Rattle.mbufpool_c.proofs.OpenLemmas.{opens_with}
use Rattle.mbufpool_c.proofs.opening.mbufpool_worker_open.Goals as goal

-- there isn't one handle for each worker
pub returns-then-out-limits-clause-cause : goal.returns-then-out-limits-clause-cause
returns-then-out-limits-clause-cause c _ = (
  BadPool,
  c.number.ensures,
  λ both. c.if-out-limits.true (both.1 ∙ sym (ap (λ (l : Limits). l.workers) c.limits_of-limits.ensures)),
)

-- the workers that were made came into the handles
pub returns-in-Ok-clause-opened : goal.returns-in-Ok-clause-opened
returns-in-Ok-clause-opened c _ =
    let all = reverse (map (λ (own : Box OwnWorker Global). own.value) c.in-Ok.boxes.items) in
    opens_with (pool_limits c.args.limits.now) all c.fill.new.out
    (subst (λ (l : Limits). (ms : List WorkerState) × IsNewCrew l ms × (all ≡ map newly ms)) c.limits_of-limits.ensures
    c.in-Ok.ensures.crew)
    c.fill.ensures
