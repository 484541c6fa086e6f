-- The statements are those of what was left.
use Rattle.std.proofs.Common.{◌≡◌, ◌≤◌, List, Result, Ok, Err, ◌∙◌, sym, subst}
use Rattle.std.specs.Prelude.{All, IfOk}
use Rattle.commons.specs.declared.closed.Closed.{Closed}
use Rattle.commons.specs.declared.limits.Limits.{Limits}
use Rattle.commons.specs.declared.refusal.Refusal.{Refusal}
use Rattle.pool_statement.specs.declared.statement.Statement.{Statement}
use Rattle.book.specs.Left.{first_of, second_of}
use Rattle.snapshot.specs.Snapshots.{ListsItsElements, statement_in}
use Rattle.ground.specs.Changing.{closed_at_start}
use Rattle.mbuf.specs.Twins.{TwinMember}
use Rattle.word_pool.specs.TwinShares.{first_at_start, second_at_start}
use Rattle.word_pool.specs.TwinWorkers.{AreStatementsOfTwins, twins_of}
use Rattle.word_pool.proofs.twin_pool.settled.Goals as goal

-- what holds of both statements holds of these that are the same
both_same : (r : Result (Statement × Statement) Refusal) (one two : Statement) (P Q : Statement → Type 0)
    (R : Statement × Statement → Type 0) → (P one → Q two → R (one, two)) → IfOk r (λ s. s.0 ≡ one) →
    IfOk r (λ s. s.1 ≡ two) → IfOk r (λ s. P s.0) → IfOk r (λ s. Q s.1) → IfOk r R
both_same (Ok s) one two P Q R both first second p q =
    subst R (λ i. (sym first i, sym second i)) (both (subst P first p) (subst Q second q))
both_same (Err e) one two P Q R both first second p q = tt

-- where no worker has acted, those of the start
at_start : (r : Result (Statement × Statement) Refusal) (l k m n : Limits) (c d : Closed) (xs ys : List TwinMember) →
    m ≡ l → n ≡ k → xs ≡ ys → (c ≡ closed_at_start l) × (d ≡ closed_at_start k) →
    IfOk r (λ s. s.0 ≡ statement_in (first_of m c xs)) → IfOk r (λ s. s.1 ≡ statement_in (second_of n d xs)) →
    IfOk r (λ s. (s.0 ≡ first_at_start l ys) × (s.1 ≡ second_at_start k ys))
at_start (Ok s) l k m n c d xs ys one two same start first second = (
  first ∙ (λ i. statement_in (first_of (one i) (start.0 i) (same i))),
  second ∙ (λ i. statement_in (second_of (two i) (start.1 i) (same i))),
)
at_start (Err e) l k m n c d xs ys one two same start first second = tt

pub returns-clause-fresh : goal.returns-clause-fresh
returns-clause-fresh c = λ none.
    let left = c.in_ok-closed.ensures in
    let closed = c.in_ok-closed.closed in
    at_start c.settled_twins.result c.args.first.limits c.args.second.limits closed.first_limits closed.second_limits
    closed.first closed.second closed.shares.items (twins_of c.args.workers.items) left.first_limits left.second_limits
    left.shares (left.fresh none) c.settled_twins.ensures.first_statement c.settled_twins.ensures.second_statement

-- counts that are within the limits of what was left are so of what is settled
counts_told : (r : Result (Statement × Statement) Refusal) (l k m n : Limits) (one two : Statement) → m ≡ l → n ≡ k →
    All (λ held. held.count ≤ m.ref_limit) one.held × All (λ held. held.count ≤ n.ref_limit) two.held →
    IfOk r (λ s. s.0 ≡ one) → IfOk r (λ s. s.1 ≡ two)
    → IfOk r (λ s. All (λ held. held.count ≤ l.ref_limit) s.0.held × All (λ held. held.count ≤ k.ref_limit) s.1.held)
counts_told (Ok s) l k m n one two first second counts same also = (
  rw same (subst (λ (x : Limits). All (λ held. held.count ≤ x.ref_limit) one.held) first counts.0),
  rw also (subst (λ (x : Limits). All (λ held. held.count ≤ x.ref_limit) two.held) second counts.1),
)
counts_told (Err e) l k m n one two first second counts same also = tt

pub returns-clause-counts : goal.returns-clause-counts
returns-clause-counts c =
    let left = c.in_ok-closed.ensures in
    let closed = c.in_ok-closed.closed in
    counts_told c.settled_twins.result c.args.first.limits c.args.second.limits closed.first_limits closed.second_limits
    (statement_in (first_of closed.first_limits closed.first closed.shares.items))
    (statement_in (second_of closed.second_limits closed.second closed.shares.items)) left.first_limits left.second_limits
    left.counts c.settled_twins.ensures.first_statement c.settled_twins.ensures.second_statement

pub returns-clause-statements : goal.returns-clause-statements
returns-clause-statements c =
    let first = first_of c.in_ok-closed.closed.first_limits c.in_ok-closed.closed.first c.in_ok-closed.closed.shares.items in
    let second = second_of c.in_ok-closed.closed.second_limits c.in_ok-closed.closed.second c.in_ok-closed.closed.shares.items in
    let e = c.settled_twins.ensures in
    both_same c.settled_twins.result (statement_in first) (statement_in second) (ListsItsElements first)
    (ListsItsElements second) (AreStatementsOfTwins c.args.first c.args.second c.args.workers.items)
    c.in_ok-closed.ensures.statements e.first_statement e.second_statement e.first_once e.second_once
