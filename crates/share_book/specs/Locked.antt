-- What a contract sees of a pool that comes out of a lock, and of two.
use Rattle.std.specs.Prelude.{ℕ, ◌≡◌, List, map}
use Rattle.commons.specs.declared.closed.Closed.{Closed}
use Rattle.commons.specs.declared.limits.Limits.{Limits}
use Rattle.mbuf.specs.declared.acts.Act.{Act}
use Rattle.mbuf.specs.Members.{Member}
use Rattle.mbuf.specs.Twins.{TwinMember}
use Rattle.pool_model.specs.PacketModel.{after_acts}
use Rattle.pool_model.specs.Pool.{new_pool}
use Rattle.pool_model.specs.Statements.{statement_of}
use Rattle.pool_model.specs.TwinModel.{after_twin_acts, first_statement, new_twin_pool, second_statement}
use Rattle.snapshot.specs.Closing.{closed_pool, snapshot_of}
use Rattle.snapshot.specs.Snapshots.{statement_in}
use Rattle.book.specs.Left.{first_of, second_of}
use Rattle.twin_acts.specs.declared.acts.TwinAct.{TwinAct}

-- What these acts, one after another, leave of a new pool of these limits: what its shared part
-- leaves, the share of each worker, and so its statement.
pub record AreLeftBy (acts : List (ℕ × Act)) (l : Limits) (left : Closed) (handed : List Member) : Type 0 where
  pub closed : left ≡ closed_pool (after_acts acts (new_pool l))
  pub shares : handed ≡ (after_acts acts (new_pool l)).members
  pub statement : statement_in (snapshot_of l left handed) ≡ statement_of (after_acts acts (new_pool l))

-- What these acts, one after another, leave of two new pools of these limits: the share of each
-- worker in either pool, and so the statement of each.
pub record AreTwinsLeftBy (acts : List (ℕ × TwinAct)) (l k : Limits) (first_left second_left : Closed)
    (handed : List TwinMember) : Type 0 where
  pub first_shares : map (λ m. m.first) handed ≡ (after_twin_acts acts (new_twin_pool l k)).first.members
  pub second_shares : map (λ m. m.second) handed ≡ (after_twin_acts acts (new_twin_pool l k)).second.members
  pub first : statement_in (first_of l first_left handed) ≡ first_statement (after_twin_acts acts (new_twin_pool l k))
  pub second : statement_in (second_of k second_left handed) ≡ second_statement (after_twin_acts acts (new_twin_pool l k))
