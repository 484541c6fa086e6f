-- A snapshot of one pool alone.
use Rattle.std.proofs.Common.{ℕ, ◌≡◌, Bool, false, List, [], sym, subst, ap, ◌∙◌}
use Rattle.std.specs.Prelude.{◌↔◌}
use Rattle.pool_statement.specs.declared.guest.Guest.{Guest}
use Rattle.pool_statement.specs.declared.statement.Statement.{Statement}
use Rattle.pool_model.specs.Guests.{ListsEachOnceWith, held_with, local_pool, local_statement, statement_with}
use Rattle.pool_model.specs.Pool.{held_of}
use Rattle.pool_model.specs.Statements.{ListsEachOnce, statement_of}
use Rattle.pool_model.proofs.Alone.{alone_with, held_alone, statement_alone, with_alone}
use Rattle.snapshot.specs.declared.snapshot.Snapshot.{Snapshot}
use Rattle.snapshot.specs.Snapshots.{ListsItsElements, own_pool, pool_of, statement_in, times_held}

-- its elements are held by packets alone
pub alone_held : (s : Snapshot) (e : ℕ) → s.guests ≡ [] → s.foreign ≡ false →
    times_held s e ≡ held_of (pool_of s).members s.desks e
alone_held s e none own =
    ap (λ (guests : List Guest). held_with guests (own_pool s).members (own_pool s).shared.desks e) none
    ∙ ap (λ (foreign : Bool). held_with [] (local_pool foreign (pool_of s)).members
    (local_pool foreign (pool_of s)).shared.desks e) own
    ∙ held_alone (pool_of s).members s.desks e

-- its statement is that of the pool that it shows
pub alone_stated : (s : Snapshot) → s.guests ≡ [] → s.foreign ≡ false → statement_in s ≡ statement_of (pool_of s)
alone_stated s none own =
    ap (λ (guests : List Guest). statement_with s.foreign guests (pool_of s)) none
    ∙ ap (λ (foreign : Bool). statement_with foreign [] (pool_of s)) own
    ∙ statement_alone (pool_of s)

-- and lists each element once where it lists its elements
pub alone_once : (s : Snapshot) (statement : Statement) → s.guests ≡ [] → s.foreign ≡ false →
    ListsItsElements s statement ↔ ListsEachOnce statement
alone_once s statement none own = (
  λ h. with_alone statement (subst (λ (foreign : Bool). ListsEachOnceWith [] (local_statement foreign statement)) own
      (subst (λ (guests : List Guest). ListsEachOnceWith guests (local_statement s.foreign statement)) none h)),
  λ h. subst (λ (guests : List Guest). ListsEachOnceWith guests (local_statement s.foreign statement)) (sym none)
      (subst (λ (foreign : Bool). ListsEachOnceWith [] (local_statement foreign statement)) (sym own)
      (alone_with statement h)),
)
