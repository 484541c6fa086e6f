-- What a ground left that was closed by a seat at rest with every part, and the statement of what a
-- pool on words leaves, with the shares of its workers.
use Rattle.std.specs.Prelude.{◌≡◌, List, IfSome, length}
use Rattle.book.specs.Books.{AreShares, IsFull}
use Rattle.book.specs.Places.{Places}
use Rattle.commons.specs.declared.closed.Closed.{Closed}
use Rattle.commons.specs.declared.limits.Limits.{Limits}
use Rattle.ground.specs.Changing.{IsFresh, closed_at_start}
use Rattle.ground.specs.Closing.{LeftOf}
use Rattle.ground.specs.Own.{AtRest}
use Rattle.ground.specs.declared.known.Known.{Known}
use Rattle.mbuf.specs.Members.{Member}
use Rattle.pool_statement.specs.declared.statement.Statement.{Statement}
use Rattle.snapshot.specs.Closing.{snapshot_of}
use Rattle.snapshot.specs.Snapshots.{statement_in}
use Rattle.step_core.specs.World.{every_part}
use Rattle.step_core.specs.declared.view.View.{View}

-- A ground of these limits left it, closed by a seat at rest with this view that had every part.
pub record IsLeftAtRest (l : Limits) (c : Closed) (v : View) : Type 0 where
  pub left : LeftOf l v c
  pub whole : v.part ≡ every_part l
  pub rest : AtRest v

-- the book has a place for each worker, and the worker's share in it, as its type keeps and its
-- `missing` answers
pub record HasAllShares (b : Places) : Type 0 where
  pub workers : length b.places ≡ b.limits.workers
  pub each : AreShares b.places
  pub full : IsFull b

-- The statement of what a ground of these limits left, closed by the seat that knew this, and of
-- these shares.
pub record IsStatementOf (l : Limits) (n : Known) (members : List Member) (s : Statement) : Type 0 where
  pub closed : Closed
  pub left : LeftOf l n.view closed
  -- on the desks lay what the seat knew to lie there
  pub desks : IfSome n.lying (λ desks. closed.desks ≡ desks)
  -- where nobody had done anything, all was as at the start
  pub start : IsFresh n → closed ≡ closed_at_start l
  pub same : s ≡ statement_in (snapshot_of l closed members)

-- the statement of a pool of which nobody has done anything, and of these shares
abbrev pub statement_at_start : Limits → List Member → Statement
statement_at_start l members = statement_in (snapshot_of l (closed_at_start l) members)
