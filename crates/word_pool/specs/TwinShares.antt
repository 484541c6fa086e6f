-- When the shares of the workers of two pools are what one view of either has.
use Rattle.std.specs.Prelude.{ℕ, ◌≡◌, ◌≤◌, ◌+◌, List, IfSome, sum_by}
use Rattle.commons.specs.Bag.{bag}
use Rattle.commons.specs.Packets.{held_in, own_in}
use Rattle.commons.specs.declared.closed.Closed.{Closed}
use Rattle.commons.specs.declared.limits.Limits.{Limits}
use Rattle.ground.specs.Changing.{IsFresh, closed_at_start}
use Rattle.ground.specs.Closing.{LeftOf}
use Rattle.ground.specs.declared.known.Known.{Known}
use Rattle.mbuf.specs.Foreign.{bases_in}
use Rattle.mbuf.specs.Twins.{TwinMember}
use Rattle.pool_statement.specs.declared.statement.Statement.{Statement}
use Rattle.snapshot.specs.Snapshots.{ListsItsElements, statement_in}
use Rattle.book.specs.Left.{first_of, second_of}
use Rattle.step_core.specs.declared.view.View.{View}

-- All caches of the first pool together are the view's hand; the packets, and beside them the bases
-- of all foreign clones, are what the view holds; and the own elements of the packets are headers of
-- it.
pub record AreFirstShares (members : List TwinMember) (v : View) : Type 0 where
  pub caches : (i : ℕ) → sum_by (λ m. bag m.first.cache i) members ≡ bag v.hand i
  pub packets : (i : ℕ) → sum_by (λ m. held_in m.first.table i + bases_in m.second.table i) members ≡ bag v.holds i
  pub headers : (i : ℕ) → sum_by (λ m. own_in m.first.table i) members ≤ bag v.headers i

-- All caches of the second pool together are the view's hand; the clones' own elements, and they
-- alone, are what the view holds, and are headers of it.
pub record AreSecondShares (members : List TwinMember) (v : View) : Type 0 where
  pub caches : (i : ℕ) → sum_by (λ m. bag m.second.cache i) members ≡ bag v.hand i
  pub packets : (i : ℕ) → sum_by (λ m. own_in m.second.table i) members ≡ bag v.holds i
  pub headers : (i : ℕ) → sum_by (λ m. own_in m.second.table i) members ≤ bag v.headers i

-- what workers have of both pools is what these views have, one of each
pub record AreTwinShares (members : List TwinMember) (v u : View) : Type 0 where
  pub first : AreFirstShares members v
  pub second : AreSecondShares members u

-- The statements of what two grounds of these limits left, closed by the seats that knew this, and of
-- these shares. Each lists each element of its pool once.
pub record AreStatementsOf (l k : Limits) (n o : Known) (members : List TwinMember) (s : Statement × Statement) : Type 0 where
  pub first : Closed
  pub second : Closed
  pub first_left : LeftOf l n.view first
  pub second_left : LeftOf k o.view second
  -- on the desks lay what the seat knew to lie there
  pub first_desks : IfSome n.lying (λ desks. first.desks ≡ desks)
  pub second_desks : IfSome o.lying (λ desks. second.desks ≡ desks)
  -- where nobody had done anything, all was as at the start
  pub first_start : IsFresh n → first ≡ closed_at_start l
  pub second_start : IsFresh o → second ≡ closed_at_start k
  pub first_same : s.0 ≡ statement_in (first_of l first members)
  pub second_same : s.1 ≡ statement_in (second_of k second members)
  pub first_once : ListsItsElements (first_of l first members) s.0
  pub second_once : ListsItsElements (second_of k second members) s.1

-- the statements of two pools of which nobody has done anything, and of these shares
abbrev pub first_at_start : Limits → List TwinMember → Statement
first_at_start l members = statement_in (first_of l (closed_at_start l) members)

abbrev pub second_at_start : Limits → List TwinMember → Statement
second_at_start l members = statement_in (second_of l (closed_at_start l) members)
