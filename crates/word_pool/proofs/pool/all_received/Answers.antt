-- What is left of every part, once the workers' parts are taken off one after another.
use Rattle.std.proofs.Common.{ℕ, ◌≡◌, take, ap, arith, eq-eqb, eqb-true, rules}
use Rattle.std.proofs.lemmas.List.{take_all}
use Rattle.std.proofs.lemmas.List.Sums.{sum_by_more, sum_by_more_le}
use Rattle.commons.specs.declared.limits.Limits.{Limits}
use Rattle.word_pool.specs.Workers.{WorkerState, parts_of}
use Rattle.word_pool.proofs.pool.all_received.Goals as goal

-- a worker's part
abbrev part_of : WorkerState → ℕ
part_of m = m.seat.known.view.part

-- a pool has 64 workers at most, and so 2^62 at most for all of them
pub overflow_mul-left : goal.overflow_mul-left
overflow_mul-left c =
    omega (arith, c.limits-left.ensures.pool.workers, ap (λ (l : Limits). l.workers) c.limits-left.ensures.limits)

-- nothing is taken off at first
pub loop-worker-init : goal.loop-worker-init
loop-worker-init c = omega (arith, ap (λ (l : Limits). l.workers) c.limits-left.ensures.limits)

-- the next worker's part is taken off what is left
pub loop-worker-preserved : goal.loop-worker-preserved
loop-worker-preserved c =
    let ms = c.args.workers.now in
    let k = c.loop-worker.worker-index in
    let more = sum_by_more part_of ms k c.worker-item.result c.loop-worker-test.true in
    let here = ap part_of c.worker-item.is in
    omega (arith, more, here, c.part-part.ensures, c.loop-worker.invariant, c.if-part-left.false)

-- a part above what is left is one too many
pub returns-then-part-left : goal.returns-then-part-left
returns-then-part-left c =
    let ms = c.args.workers.now in
    let k = c.loop-worker.worker-index in
    let more = sum_by_more_le part_of ms k c.worker-item.result c.loop-worker-test.true in
    let here = ap part_of c.worker-item.is in (
      λ is. absurd (search rules),
      λ is. absurd (omega (arith, is, more, here, c.part-part.ensures, c.loop-worker.invariant, c.if-part-left.true)),
    )

-- all parts are taken off
pub returns : goal.returns
returns c =
    let ms = c.args.workers.now in
    let whole : parts_of (take c.loop-worker.worker-index ms) ≡ parts_of ms =
    ap parts_of (take_all c.loop-worker.worker-index ms c.loop-worker-test.false) in (
      λ is. omega (arith, eqb-true c.loop-worker.left 0 is, whole, c.loop-worker.invariant),
      λ is. eq-eqb c.loop-worker.left 0 (omega (arith, is, whole, c.loop-worker.invariant)),
    )
