-- What was closed are the snapshots of both pools, so what is settled of it is settled of them.
use Rattle.std.proofs.Common.{◌≡◌, ◌+◌, subst}
use Rattle.std.specs.Prelude.{IfOk}
use Rattle.commons.specs.declared.limits.Limits.{Limits}
use Rattle.pool_model.specs.Statements.{PlacesEachOnce}
use Rattle.pool_statement.specs.declared.statement.Statement.{Statement}
use Rattle.book.specs.Left.{first_of, second_of}
use Rattle.snapshot.specs.Snapshots.{ListsItsElements, statement_in}
use Rattle.snapshot.specs.declared.snapshot.Snapshot.{Snapshot}
use Rattle.share_book.specs.TwinSites.{first_snapshot, second_snapshot}
use Rattle.share_book.proofs.twin_ending.settled.Goals as goal

-- what the first pool left is its snapshot
first_left : (c : goal.After-settled_twins) →
    first_of c.in-Ok.closed.first_limits c.in-Ok.closed.first c.in-Ok.closed.shares.items ≡ first_snapshot c.args.pools
first_left c = let left = c.in-Ok.ensures in λ i. first_of (left.first_limits i) (left.first i) (left.shares i)

-- and what the second left is its
second_left : (c : goal.After-settled_twins) →
    second_of c.in-Ok.closed.second_limits c.in-Ok.closed.second c.in-Ok.closed.shares.items ≡ second_snapshot c.args.pools
second_left c = let left = c.in-Ok.ensures in λ i. second_of (left.second_limits i) (left.second i) (left.shares i)

pub returns-in-Ok-clause-first_statement : goal.returns-in-Ok-clause-first_statement
returns-in-Ok-clause-first_statement c =
    subst (λ (x : Snapshot). IfOk c.settled_twins.result (λ s. s.0 ≡ statement_in x)) (first_left c)
    c.settled_twins.ensures.first_statement

pub returns-in-Ok-clause-second_statement : goal.returns-in-Ok-clause-second_statement
returns-in-Ok-clause-second_statement c =
    subst (λ (x : Snapshot). IfOk c.settled_twins.result (λ s. s.1 ≡ statement_in x)) (second_left c)
    c.settled_twins.ensures.second_statement

-- the statements of what was left are the model's
pub returns-in-Ok-clause-first_model : goal.returns-in-Ok-clause-first_model
returns-in-Ok-clause-first_model c =
    subst (λ (t : Statement). IfOk c.settled_twins.result (λ s. s.0 ≡ t)) c.in-Ok.ensures.first_model
    c.settled_twins.ensures.first_statement

pub returns-in-Ok-clause-second_model : goal.returns-in-Ok-clause-second_model
returns-in-Ok-clause-second_model c =
    subst (λ (t : Statement). IfOk c.settled_twins.result (λ s. s.1 ≡ t)) c.in-Ok.ensures.second_model
    c.settled_twins.ensures.second_statement

pub returns-in-Ok-clause-first_once : goal.returns-in-Ok-clause-first_once
returns-in-Ok-clause-first_once c =
    subst (λ (x : Snapshot). IfOk c.settled_twins.result (λ s. ListsItsElements x s.0)) (first_left c)
    c.settled_twins.ensures.first_once

pub returns-in-Ok-clause-second_once : goal.returns-in-Ok-clause-second_once
returns-in-Ok-clause-second_once c =
    subst (λ (x : Snapshot). IfOk c.settled_twins.result (λ s. ListsItsElements x s.1)) (second_left c)
    c.settled_twins.ensures.second_once

-- the limits are those of the pools
pub returns-in-Ok-clause-places : goal.returns-in-Ok-clause-places
returns-in-Ok-clause-places c =
    subst (λ (l : Limits × Limits). IfOk c.settled_twins.result
    (λ s. PlacesEachOnce l.0 s.0 × PlacesEachOnce l.1 s.1))
    (λ i. (c.in-Ok.ensures.first_limits i, c.in-Ok.ensures.second_limits i)) c.settled_twins.ensures.places

pub returns-in-Ok-clause-whole : goal.returns-in-Ok-clause-whole
returns-in-Ok-clause-whole c =
    subst (λ (l : Limits × Limits). IfOk c.settled_twins.result
    (λ s. (s.0.available + s.0.in_use ≡ l.0.population) × (s.1.available + s.1.in_use ≡ l.1.population)))
    (λ i. (c.in-Ok.ensures.first_limits i, c.in-Ok.ensures.second_limits i)) c.settled_twins.ensures.whole
