use Rattle.std.proofs.Common.{◌≡◌, ◌+◌, drop}
use Rattle.audit_text.specs.FaultText.{are_in_order}
use Rattle.audit_text.proofs.shape.are_in_order.Given as goal

-- all are if those to come are
abbrev pub invariant-loop-index : goal.invariant-loop-index
invariant-loop-index l = are_in_order 1 l.shares ≡ are_in_order (l.index + 1) (drop l.index l.shares)
