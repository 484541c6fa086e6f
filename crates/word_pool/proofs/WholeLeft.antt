-- What a ground left is lawful, with the shares of the view that closed it, and its statement is
-- that of the pool's workers.
use Rattle.std.proofs.Common.{ℕ, ◌≡◌, ◌+◌, ◌≤◌, false, List, [], map, refl, sym, ap, ◌∙◌, subst, arith}
use Rattle.std.specs.Prelude.{All}
use Rattle.std.specs.List.{range_with_len}
use Rattle.std.proofs.lemmas.List.Elements.{All-nil}
use Rattle.commons.specs.Bag.{bag}
use Rattle.commons.specs.Packets.{held_in}
use Rattle.commons.specs.declared.closed.Closed.{Closed}
use Rattle.commons.specs.declared.limits.Limits.{Limits}
use Rattle.ground.specs.Changing.{IsFresh, IsUnmoved}
use Rattle.ground.specs.Lying.{LieByNotes}
use Rattle.ground.specs.Seats.{Grounded, Note}
use Rattle.ground.specs.declared.known.Known.{Known}
use Rattle.mbuf.specs.Members.{Member}
use Rattle.pool_statement.specs.declared.guest.Guest.{Guest}
use Rattle.pool_statement.specs.declared.statement.Statement.{Statement}
use Rattle.pool_model.proofs.Alone.{statement_alone}
use Rattle.pool_model.proofs.Listed.{sum_by-map}
use Rattle.pool_model.proofs.ListedPackets.{listed_counts}
use Rattle.snapshot.specs.Closing.{share_of, snapshot_of}
use Rattle.snapshot.specs.declared.snapshot.ShareData.{ShareData}
use Rattle.snapshot.specs.declared.snapshot.Snapshot.{Snapshot}
use Rattle.snapshot.specs.Snapshots.{pool_of, statement_in, times_held}
use Rattle.snapshot.proofs.Times.{held-is}
use Rattle.book.specs.Left.{IsLawfulByTypes, IsLeftWhole}
use Rattle.book.proofs.Spelled.{lawful}
use Rattle.step_core.specs.declared.view.View.{View}
use Rattle.word_pool.specs.Leaving.{IsLeftAtRest, statement_at_start}
use Rattle.word_pool.specs.Shares.{AreSharesOf}
use Rattle.word_pool.specs.Workers.{WorkerState, IsStatementOfWorkers, members_of}
use Rattle.word_pool.specs.inside.Joins.{AreClosed}
use Rattle.word_pool.proofs.OneView.{common, held_few, words_show}
use Rattle.step_core.specs.World.{every_part}

-- the numbers of all workers, in their order
abbrev pub AreNumbered : ℕ → List Member → Type 0
AreNumbered workers members = map (λ (m : Member). m.number) members ≡ range_with_len 1 workers

module _ (l : Limits) (c : Closed) (v : View) (members : List Member) (h : IsLeftAtRest l c v) (are : AreSharesOf members v) where
  abbrev s : Snapshot
  s = snapshot_of l c members

  held : (i : ℕ) → times_held s i ≡ bag v.holds i + held_in c.desks i
  held i =
      omega (arith, held-is s i, sum_by-map (λ (share : ShareData). held_in share.slots i) share_of members, are.packets i)

  -- links, counts and shares show each element's place, and nobody has guests
  pub left_lawful : AreNumbered l.workers members → IsLawfulByTypes s
  left_lawful numbers =
      lawful s (common l c v h)
      (words_show l c v h members [] false are.caches held are.headers numbers
      (All-nil (λ (guest : Guest). (1 ≤ guest.worker) × (guest.worker ≤ l.workers))))

  few : (i : ℕ) → times_held s i ≤ l.ref_limit
  few i = omega (arith, held i, held_few l c v h i)

  -- no count in the statement is above the reference limit
  pub left_counts : All (λ held. held.count ≤ l.ref_limit) (statement_in s).held
  left_counts =
      subst (λ (statement : Statement). All (λ held. held.count ≤ l.ref_limit) statement.held)
      (sym (statement_alone (pool_of s)))
      (listed_counts (λ count. count ≤ l.ref_limit) (pool_of s) (λ i. omega (arith, few i)))

-- ---- of the workers of a ground that was closed by the one seat of theirs

module _ (g : Grounded) (ms : List WorkerState) (n : Known) (l : Limits) (c : Closed) (handed : List Member)
    (are : AreClosed g ms n l c handed) where
  at_rest : IsLeftAtRest g.limits c n.view
  at_rest = record { left = are.closed.left; whole = are.whole; rest = are.seat.rest }

  own_shares : AreSharesOf (members_of ms) n.view
  own_shares = subst (λ (xs : List Member). AreSharesOf xs n.view) are.same are.shares

  -- it left a whole pool at rest
  pub left_whole : IsLeftWhole l c handed
  left_whole = rw (are.closed.limits, are.same) (record {
    range = are.closed.pool;
    numbers = are.all.numbers;
    lawful = left_lawful g.limits c n.view (members_of ms) at_rest own_shares are.all.numbers;
  })

  pub counts_within : All (λ held. held.count ≤ l.ref_limit) (statement_in (snapshot_of l c handed)).held
  counts_within = rw are.closed.limits (left_counts g.limits c n.view handed at_rest are.shares)

  -- and its statement is that of these workers
  pub statement_of_workers : IsStatementOfWorkers g ms (statement_in (snapshot_of l c handed))
  statement_of_workers = rw (are.closed.limits, are.same) (record {
    known = n;
    seat = are.seat;
    limits = are.limits;
    whole = are.whole;
    desks = are.desks;
    idle = are.idle;
    shares = own_shares;
    statement = record {
      closed = c;
      left = are.closed.left;
      desks = are.closed.desks;
      start = are.closed.start;
      same = refl;
    };
    lying = subst (λ (notes : List Note). LieByNotes notes c.desks) are.seat.notes (are.closed.noted are.whole);
  })

  -- where no seat of theirs has taken a step, that of the start
  pub statement_fresh : IsUnmoved n → statement_in (snapshot_of l c handed) ≡ statement_at_start g.limits (members_of ms)
  statement_fresh unmoved =
      let fresh : IsFresh n = record {
        whole = are.whole ∙ ap (λ (k : Limits). every_part k) (sym are.limits);
        unmoved = unmoved;
      } in
      rw (are.closed.limits, are.closed.start fresh, are.same) refl
