use Rattle.std.proofs.Common.{◌≡◌, map, take}
use Rattle.std.specs.List.{range_with_len}
use Rattle.snapshot.proofs.shape.are_in_order.Given as goal

-- the shares so far are in order
abbrev pub invariant-loop-k : goal.invariant-loop-k
invariant-loop-k l = map (λ share. share.worker) (take l.k l.shares) ≡ range_with_len 1 l.k
