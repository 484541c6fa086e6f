-- What is said of the packets and the counts that a statement lists.
use Rattle.std.specs.Prelude.{◌≤◌, All}
use Rattle.commons.specs.declared.limits.Limits.{Limits}
use Rattle.pool_model.specs.Sound.{ListsOnlyPackets}
use Rattle.pool_statement.specs.declared.statement.Statement.{Statement}

-- Each packet that a statement of a pool within these limits lists, in a slot and on a desk, has 1
-- to 32 segments, each with its data within its buffer; and each count is at most the reference
-- limit.
pub record ListsPackets (l : Limits) (s : Statement) : Type 0 where
  pub packets : ListsOnlyPackets s
  pub counts : All (λ held. held.count ≤ l.ref_limit) s.held
