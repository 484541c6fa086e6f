-- The statement is that of what was left.
use Rattle.std.proofs.Common.{◌≡◌, ◌≤◌, Result, Ok, Err, ◌∙◌, sym, subst}
use Rattle.std.specs.Prelude.{All, IfOk}
use Rattle.std.proofs.lemmas.Result.{IfOk-weaker}
use Rattle.commons.specs.declared.limits.Limits.{Limits}
use Rattle.commons.specs.declared.refusal.Refusal.{Refusal}
use Rattle.pool_model.specs.Sound.{ListsOnlyPackets}
use Rattle.pool_statement.specs.declared.statement.Statement.{Statement}
use Rattle.book.specs.Listing.{ListsPackets}
use Rattle.snapshot.specs.Closing.{snapshot_of}
use Rattle.snapshot.specs.declared.snapshot.Snapshot.{Snapshot}
use Rattle.snapshot.specs.Snapshots.{statement_in}
use Rattle.word_pool.specs.Leaving.{statement_at_start}
use Rattle.word_pool.specs.Workers.{IsStatementOfWorkers, members_of}
use Rattle.word_pool.proofs.pool.settled.Goals as goal
use Rattle.word_pool.proofs.pool.settled.Goals.{After-settled_parts}

-- what was left
abbrev left_snapshot : After-settled_parts → Snapshot
left_snapshot c = snapshot_of c.in_ok-limits.limits c.in_ok-limits.closed c.in_ok-limits.shares.items

-- its statement is that of these workers
pub returns-clause-statement : goal.returns-clause-statement
returns-clause-statement c =
    IfOk-weaker c.settled_parts.result (λ (s : Statement). s ≡ statement_in (left_snapshot c))
    (IsStatementOfWorkers c.args.ground c.args.workers.items)
    (λ s same. subst (IsStatementOfWorkers c.args.ground c.args.workers.items) (sym same) c.in_ok-limits.ensures.statement)
    c.settled_parts.ensures.statement

-- and where no worker has acted, that of the start
pub returns-clause-fresh : goal.returns-clause-fresh
returns-clause-fresh c = λ none.
    IfOk-weaker c.settled_parts.result (λ (s : Statement). s ≡ statement_in (left_snapshot c))
    (λ s. s ≡ statement_at_start c.args.ground.limits (members_of c.args.workers.items))
    (λ s same. same ∙ c.in_ok-limits.ensures.fresh none)
    c.settled_parts.ensures.statement

-- packets that it lists, it lists within the limits
packets_listed : (r : Result Statement Refusal) (l k : Limits) (left : Statement) → l ≡ k →
    All (λ held. held.count ≤ l.ref_limit) left.held → IfOk r (λ s. s ≡ left) → IfOk r ListsOnlyPackets →
    IfOk r (λ s. ListsPackets k s)
packets_listed (Ok s) l k left limits counts same only = record {
  packets = only;
  counts = rw same (subst (λ (x : Limits). All (λ held. held.count ≤ x.ref_limit) left.held) limits counts);
}
packets_listed (Err e) l k left limits counts same only = tt

pub returns-clause-sound : goal.returns-clause-sound
returns-clause-sound c =
    packets_listed c.settled_parts.result c.in_ok-limits.limits c.args.ground.limits (statement_in (left_snapshot c))
    c.in_ok-limits.ensures.limits c.in_ok-limits.ensures.counts c.settled_parts.ensures.statement
    c.settled_parts.ensures.sound
