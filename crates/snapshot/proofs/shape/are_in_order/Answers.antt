use Rattle.std.proofs.Common.{◌∙◌, length, arith, eq-eqb, rules}
use Rattle.snapshot.specs.declared.snapshot.ShareData.{ShareData}
use Rattle.snapshot.proofs.InOrder.{in_order_more, in_order_each, in_order_all, in_order_length}
use Rattle.snapshot.proofs.shape.are_in_order.Goals as goal

-- this share has the next number
pub loop-k-preserved : goal.loop-k-preserved
loop-k-preserved c =
    in_order_more (λ (share : ShareData). share.worker) c.args.shares.now c.loop-k.k
    c.index-shares-k.result c.loop-k-test.true
    c.index-shares-k.is (omega arith) c.loop-k.invariant

-- all shares have their numbers, and there are as many as workers
pub returns : goal.returns
returns c =
    let shares = c.args.shares.now in (
      λ is. in_order_all (λ (share : ShareData). share.worker) shares c.loop-k.k c.args.workers (omega arith)
          (search rules) c.loop-k.invariant,
      λ is.
          eq-eqb (length shares) c.args.workers
          (in_order_length (λ (share : ShareData). share.worker) shares c.args.workers is),
    )

-- a share with another number is out of order
pub returns-then-from-k : goal.returns-then-from-k
returns-then-from-k c = (
  λ is. absurd (search rules),
  λ is. absurd (c.if-from-k.true
      (c.from.ensures ∙ in_order_each (λ (share : ShareData). share.worker) c.args.shares.now
      c.args.workers c.loop-k.k c.index-shares-k.result is c.loop-k-test.true
      c.index-shares-k.is)),
)
