-- The cache of a new worker is empty.
use Rattle.std.proofs.Common.{◌≡◌, ℕ, arith, sym, ◌∙◌}
use Rattle.commons.specs.Bag.{bag}
use Rattle.commons.proofs.Bags.{bag-nil}
use Rattle.bench.proofs.words.cached.Cached.make.Goals as goal

-- the worker is of the ground's pool, and begins with nothing in its cache
pub invariant_of-result : goal.invariant_of-result
invariant_of-result c =
    let seat : c.new-c.result.seat ≡ c.args.carried.seat = c.new-c.ensures.seat ∙ c.into_seat.ensures in
    let empty : (i : ℕ) → bag c.in_ok-worker.worker.cache i ≡ 0 = λ i. rw c.in_ok-worker.ensures.ok (bag-nil i) in
    record {
      limits = rw (c.in_ok-worker.ensures.ok, seat) (c.requires.of.limits ∙ sym c.limits.ensures.limits);
      cached = λ i. omega (arith, empty i);
    }
